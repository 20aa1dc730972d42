-- The rows that an actor has in a turn.
use Rattle.std.specs.Prelude.{ℕ, ◌≡◌, ◌+◌, ◌-◌, ◌^◌, ◌<◌, ◌==◌, ◌&&◌, nat_le, if◌then◌else◌, is_some, List, Option, Some, None, Contains, length, slice_get, slice_index_or}
use Rattle.std.specs.FinMap as m
use Rattle.orca_names.specs.declared.names.ObjName.{ObjName}
use Rattle.orca_names.specs.declared.names.Thing.{Thing}
use Rattle.orca_names.specs.declared.names.Thing.TheVariants.{Obj}
use Rattle.letter_kinds.specs.Holdings.{Holdings, Row, known_objects, row_of}
use Rattle.object_heap.specs.Heap.{Heap}
use Rattle.letter_kinds.proofs.Known.{known_objects-cover}
use Rattle.foreign_table.specs.Table.{Table}
use Rattle.known_rows.specs.Known.{block_known}

-- the row of an object that the turn made, where these are the rows from the first serial on
abbrev pub made_in_turn : ℕ → ℕ → List Row → ObjName → Option Row
made_in_turn me first made n =
    if (n.owner == me) && nat_le first n.serial then slice_get made (n.serial - first) else None

-- the block in which a row lies in the turn, if it does: what the turn made is at hand
abbrev pub turn_block : List Row → Heap → Table → ObjName → Option ℕ
turn_block made heap foreign n =
    if is_some (made_in_turn heap.owner heap.next made n) then None else block_known heap foreign n

-- the object that the turn made as this one, counted from 0
abbrev pub made_thing : Heap → ℕ → Thing
made_thing heap i = Obj (record { owner = heap.owner; serial = heap.next + i })

-- the objects of before have serials below those that the turn made, and these fit in a number
pub record ComeLater (heap : Heap) (made : List Row) : Type 0 where
  pub later : (i d : ℕ) → i < length (m.keys heap.rows)
      → slice_index_or (m.keys heap.rows) i d < heap.next
  pub fits : heap.next + length made < 2 ^ 64

-- the rows that an actor has are those of the objects that it knows
pub row_is_known : (me : ℕ) (h : Holdings) (n : ObjName) (row : Row) → row_of me h n ≡ Some row
    → Contains (known_objects me h) n
row_is_known me h n row e = known_objects-cover me h n row e
