-- Places of the things that an actor knows: what it holds, itself, its own objects.
use Rattle.std.specs.Prelude.{ℕ, ◌≡◌, ◌≢◌, true, nat_lt, List, ◌∷◌, ◌++◌, Option, filter, map, position}
use Rattle.std.specs.FinMap as m
use Rattle.orca_names.specs.Names.{is_thing, owner_of}
use Rattle.orca_names.specs.declared.names.Thing.{Thing}
use Rattle.orca_names.specs.declared.names.Thing.TheVariants.{Actor, Obj}
use Rattle.object_heap.specs.Heap.{Heap}
use Rattle.foreign_table.specs.Table.{Table}

-- each held thing is another's
abbrev pub HoldsOthersOnly : Heap → Table → Type 0
HoldsOthersOnly heap foreign =
    (x : Thing) → m.contains_key foreign.entries x ≡ true → owner_of x ≢ heap.owner

-- the own objects
abbrev pub own_things : Heap → List Thing
own_things heap =
    map (λ serial. Obj (record { owner = heap.owner; serial = serial })) (m.keys heap.rows)

-- what it holds of actors with lower numbers
abbrev pub held_below : Heap → Table → List Thing
held_below heap foreign = filter (λ x. nat_lt (owner_of x) heap.owner) (m.keys foreign.entries)

-- what it holds of actors with higher numbers
abbrev pub held_above : Heap → Table → List Thing
held_above heap foreign = filter (λ x. nat_lt heap.owner (owner_of x)) (m.keys foreign.entries)

-- all of these and the actor itself, in the order of things
abbrev pub placed_things : Heap → Table → List Thing
placed_things heap foreign =
    (held_below heap foreign ++ Actor heap.owner ∷ own_things heap) ++ held_above heap foreign

-- the place of a thing among them
abbrev pub place_in : Heap → Table → Thing → Option ℕ
place_in heap foreign x = position (is_thing x) (placed_things heap foreign)
