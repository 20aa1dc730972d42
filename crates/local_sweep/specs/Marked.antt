-- Marks by place and by name, and what is reached.
use Rattle.std.specs.Prelude.{◌||◌, Bool, false, List, slice_index_or}
use Rattle.std.specs.List.{list_any}
use Rattle.std.specs.Option.{option_map_or}
use Rattle.orca_names.specs.Names.{is_thing, owner_of, thing_of}
use Rattle.orca_names.specs.declared.names.Thing.{Thing}
use Rattle.orca_names.specs.declared.names.Thing.TheVariants.{Actor}
use Rattle.orca_names.specs.declared.names.Value.{Value}
use Rattle.reach_walk.specs.Marks.{marks_of}
use Rattle.object_heap.specs.Heap.{Heap}
use Rattle.foreign_table.specs.Table.{Table}
use Rattle.known_rows.specs.Known.{names_known, row_known}
use Rattle.known_rows.specs.Places.{place_in}

-- the place of the thing is on; a thing without a place is not marked
abbrev pub is_marked : List Bool → Heap → Table → Thing → Bool
is_marked marks heap foreign x =
    option_map_or (λ p. slice_index_or marks p false) (place_in heap foreign x) false

-- the value names the thing, or an object of it
abbrev pub is_for : Thing → Value → Bool
is_for x v = option_map_or (λ y. is_thing x y || is_thing x (Actor (owner_of y))) (thing_of v) false

-- one of the values names the thing, or an object of it
abbrev pub is_named : List Value → Thing → Bool
is_named values x = list_any (is_for x) values

-- whether the values reach the thing through the rows that the actor has
abbrev pub is_reached : List Value → Heap → Table → Thing → Bool
is_reached values heap foreign x =
    list_any (is_thing x) (marks_of (row_known heap foreign) (names_known heap foreign) values)
