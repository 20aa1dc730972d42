-- The blocks in which rows of objects lie, as events take them and give them back.
use Rattle.std.specs.Prelude.{ℕ, ◌≡◌, ◌<◌, ◌≤◌, ◌==◌, Bool, true, false, if◌then◌else◌, List, [], length, slice_get, Some}
use Rattle.std.specs.Option.{option_map_or}
use Rattle.orca_names.specs.declared.names.ObjName.{ObjName}
use Rattle.orca_names.specs.declared.names.Thing.TheVariants.{Obj}
use Rattle.orca_names.specs.declared.trace.Trace.{Trace}
use Rattle.orca_names.specs.declared.trace.Trace.TheVariants.{Deep}
use Rattle.block_table.specs.Blocks.{Blocks, OneBlockEach, count_free, fill, names_from}
use Rattle.object_heap.specs.Heap.{Has}
use Rattle.row_blocks.specs.Blocks.{OwnAreThere, OwnLie, is_one_of, without}
use Rattle.turn_rules.specs.Segment.{Turn}
use Rattle.event_rule.specs.declared.event.Event.{Event}
use Rattle.event_rule.specs.declared.event.Event.TheVariants.{Go, Collect, Leave, Reap}
use Rattle.letter_kinds.specs.Detector.{has}
use Rattle.letter_kinds.specs.Holdings.{Row}
use Rattle.letter_kinds.specs.Telling.{Telling}
use Rattle.machine_rules.specs.Left.{IsLeft}
use Rattle.actor_cell.specs.declared.cell.Cell.{Cell}
use Rattle.actor_cell.specs.Moves.{Move, Mint, act_in}
use Rattle.actor_table.specs.declared.slot.Slot.{Slot}
use Rattle.actor_table.specs.Slots.{actors_of, home_of, slot_at}
use Rattle.actor_table.specs.Telling.{TableLies, TableTells}
use Rattle.orca_parts.specs.declared.parts.Parts.{Parts}

-- who tells of a row in a block tells of the object that has the block
abbrev pub AreKept : Blocks → Telling → Type 0
AreKept blocks told = (n : ObjName) (row : Row) (block : ℕ)
    → told n row block → slice_get blocks block ≡ Some (Some n)

-- where there are blocks, the trace is deep and each own row lies in one; who tells of a row in a block
-- tells of the object that has it, which is left; and no object has two
pub record BlocksFit (trace : Trace) (blocks : Blocks) (slots : List Slot) : Type 0 where
  pub deep : 0 < length blocks → trace ≡ Deep
  pub lie : 0 < length blocks → TableLies slots
  pub kept : AreKept blocks (TableTells slots)
  pub left : (k : ℕ) (n : ObjName) → slice_get blocks k ≡ Some (Some n)
      → IsLeft (actors_of slots) (Obj n)
  pub once : OneBlockEach blocks

-- the rows of the cell lie in the blocks of its objects, and no other object of its has one
pub record OwnFit (blocks : Blocks) (c : Cell) : Type 0 where
  pub lie : 0 < length blocks → OwnLie c.heap blocks
  pub there : OwnAreThere c.heap blocks

-- these are objects of the cell
abbrev pub AreThere : List ObjName → Cell → Type 0
AreThere ns c = (i : ℕ) (n : ObjName) → slice_get ns i ≡ Some n → Has c.heap n

-- its actor mints before the turn
abbrev pub is_mint : Move → Bool
is_mint (Mint owner things) = true
is_mint act = false

-- the rows that the turn makes, where it is kept
abbrev pub rows_kept : Move → Turn → List Row
rows_kept act turn = if is_mint act then [] else turn.made

-- where there are blocks, enough are free for these
abbrev pub HasBlocksFor : Move → Parts → Type 0
HasBlocksFor act m = 0 < length m.blocks → length (rows_kept act m.turn) ≤ count_free m.blocks

-- the serial that the actor's next object gets, where its cell is at home
abbrev pub next_serial : Slot → ℕ
next_serial x = option_map_or (λ c. c.heap.next) (home_of x) 0

-- the blocks after the event: the rows that a turn makes take the lowest free ones, in their order, and
-- those of what is freed are free
abbrev pub blocks_by : Event → Parts → Blocks
blocks_by (Go a) m =
    fill (names_from a (next_serial (slot_at m.table.slots a))
    (length (rows_kept (act_in m.turned) m.turn))) m.blocks
blocks_by (Collect a) m = without (is_one_of m.sweep.plan.free) m.blocks
blocks_by (Leave a) m = without (λ n. n.owner == a) m.blocks
blocks_by (Reap number) m = without (λ n. has m.members.items n.owner) m.blocks
blocks_by e m = m.blocks
