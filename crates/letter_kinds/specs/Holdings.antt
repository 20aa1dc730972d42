-- What an actor counts: how often it is held, its own objects, and what it holds of others
-- (Orca, OOPSLA 2017).
use Rattle.std.specs.Prelude.{ℕ, suc, ◌+◌, ◌==◌, Bool, true, if◌then◌else◌, Option, Some, None, List, [], ◌∷◌, ◌++◌, length, map, is_some, option_map, option_and_then}
use Rattle.std.specs.Option.{option_map_or}
use Rattle.std.specs.List.{filter_map}
use Rattle.std.specs.FinMap as m
use Rattle.std.specs.Ordering.{nat_cmp}
use Rattle.orca_names.specs.Names.{thing_cmp}
use Rattle.orca_names.specs.declared.names.ObjName.{ObjName}
use Rattle.orca_names.specs.declared.names.Thing.{Thing}
use Rattle.orca_names.specs.declared.names.Thing.TheVariants.{Actor, Obj}
use Rattle.orca_names.specs.declared.names.Value.{Value}

-- the values of an object
abbrev pub Row : Type 0
Row = List Value

-- its own objects by serial, each with its row and its count
abbrev pub OwnRows : Type 0
OwnRows = m.FinMap nat_cmp (Row × ℕ)

-- the things of others that it holds, each with the count that it holds on it; an object with its row
abbrev pub Entries : Type 0
Entries = m.FinMap thing_cmp (ℕ × Option Row)

pub record Holdings : Type 0 where
  -- the count on the actor itself: what others hold and letters load, as far as it was told
  pub count : ℕ
  pub rows : OwnRows
  -- the serial that its next object gets
  pub next : ℕ
  pub foreign : Entries

-- it owns no object and holds nothing
abbrev pub nothing_held : ℕ → Holdings
nothing_held count = record { count = count; rows = m.empty; next = 0; foreign = m.empty }

-- ---- reading

abbrev pub row_count : Option (Row × ℕ) → ℕ
row_count entry = option_map_or (λ e. e.1) entry 0

abbrev pub entry_count : Option (ℕ × Option Row) → ℕ
entry_count entry = option_map_or (λ e. e.0) entry 0

abbrev pub entry_row : Option (ℕ × Option Row) → Option Row
entry_row entry = option_and_then (λ e. e.1) entry

-- the count of a thing of one's own
unfoldable pub own_in : Holdings → Thing → ℕ
own_in h (Actor a) = h.count
own_in h (Obj n) = row_count (m.get h.rows n.serial)

-- the count that is held on another's thing
unfoldable pub held_in : Holdings → Thing → ℕ
held_in h x = entry_count (m.get h.foreign x)

-- a thing of one's own is there: the actor itself always, an object while it has a row
unfoldable pub has_own : Holdings → Thing → Bool
has_own h (Actor a) = true
has_own h (Obj n) = is_some (m.get h.rows n.serial)

-- the row that an actor has of an object, its own or another's
unfoldable pub row_of : ℕ → Holdings → ObjName → Option Row
row_of me h n =
    if n.owner == me then option_map (λ e. e.0) (m.get h.rows n.serial)
    else entry_row (m.get h.foreign (Obj n))

-- the object that a thing is
abbrev pub object_name : Thing → Option ObjName
object_name (Actor a) = None
object_name (Obj n) = Some n

-- the objects of which an actor may have a row: its own, and those that it holds
unfoldable pub known_objects : ℕ → Holdings → List ObjName
known_objects me h =
    map (λ e. record { owner = me; serial = e.0 }) (m.entries h.rows)
    ++ filter_map (λ e. object_name e.0) (m.entries h.foreign)

-- ---- new objects

-- rows at the serials from the first on, each with count 0
unfoldable pub add_rows : ℕ → List Row → OwnRows → OwnRows
add_rows serial [] rows = rows
add_rows serial (row ∷ made) rows = add_rows (suc serial) made (m.insert rows serial (row, 0))

abbrev pub with_made : List Row → Holdings → Holdings
with_made made h = record h { rows = add_rows h.next made h.rows; next = h.next + length made }
