-- When a cell can take a letter.
use Rattle.std.specs.Prelude.{ℕ, ◌≡◌, ◌≤◌, ⊤, length, true}
use Rattle.letter_kinds.specs.Letters.{Letter, App, Inc, Dec, Confirm}
use Rattle.letter_kinds.specs.Holdings.{Holdings}
use Rattle.letter_kinds.specs.Telling.{Brought}
use Rattle.trace_send.specs.Can.{CanLower, CanRaise, CanReceive}
use Rattle.trace_send.specs.Room.{values_of}
use Rattle.actor_cell.specs.declared.cell.Cell.{Cell}

-- its counts allow what the letter does to them
abbrev pub CanTake : ℕ → Letter → Holdings → Type 0
CanTake me (App behaviour args load rows) h = CanReceive me load h
CanTake me (Inc things) h = CanRaise me things h
CanTake me (Dec things) h = CanLower me things h
CanTake me (Confirm token) h = ⊤

-- the cell has room for what the letter brings: in the table of what is held, in that of the rows that
-- letters bring uncounted, in each for entries and for the values of the rows that are at hand, and for
-- the frame that it starts
abbrev pub HasRoomFor : Letter → Brought → Cell → Type 0
HasRoomFor (App behaviour args load rows) b c =
    (length b.load ≤ c.foreign.spare) × (values_of b.load ≤ c.foreign.spare_values)
    × (length b.rows ≤ c.known.spare) × (values_of b.rows ≤ c.known.spare_values) × (c.room ≡ true)
HasRoomFor (Inc things) b c = ⊤
HasRoomFor (Dec things) b c = ⊤
HasRoomFor (Confirm token) b c = ⊤
