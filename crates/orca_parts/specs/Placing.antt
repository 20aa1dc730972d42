-- What becomes of the rows that a turn made.
use Rattle.std.specs.Prelude.{ℕ, ◌≡◌, ◌+◌, ◌<◌, ◌^◌, ⊤, true, length}
use Rattle.row_store.specs.Words.{Words}
use Rattle.block_table.specs.Blocks.{count_free}
use Rattle.row_blocks.specs.Blocks.{StillLie}
use Rattle.orca_parts.specs.Blocks.{AreKept, blocks_by, is_mint, rows_kept}
use Rattle.event_rule.specs.declared.event.Event.TheVariants.{Go}
use Rattle.letter_kinds.specs.Load.{HaveGiven}
use Rattle.letter_kinds.specs.Telling.{HoldsTold, TellsOnly, Told, made_in}
use Rattle.actor_cell.specs.Moves.{act_in}
use Rattle.actor_cell.specs.Tells.{PutsAll, told_out, where_sent}
use Rattle.actor_cell.specs.declared.cell.Cell.{Cell}
use Rattle.actor_table.specs.declared.slot.Place.TheVariants.{Home}
use Rattle.actor_table.specs.Slots.{slot_at}
use Rattle.orca_parts.specs.Ready.{made_by}
use Rattle.orca_parts.specs.declared.fault.StepFault.{StepFault}
use Rattle.orca_parts.specs.declared.fault.StepFault.TheVariants as faults
use Rattle.orca_parts.specs.declared.parts.Parts.{Parts}

-- the actor's cell is at home, there are serials for the rows that its turn made, and where there are
-- blocks, the letter that was found loads the objects of these rows with them
pub record HasMade (a : ℕ) (m : Parts) : Type 0 where
  pub cell : Cell
  pub home : (slot_at m.table.slots a).place ≡ Home cell
  pub serials : cell.heap.next + length m.turn.made < 2 ^ 64
  pub loads : 0 < length m.blocks
      → HaveGiven a cell.heap.next m.turn.made (where_sent m.turned.doing m.turned.load)

-- the rows that the turn of an actor made lie in the lowest free blocks, where it keeps them, and of these
-- the letter that was found tells no other; the words hold them there, and other rows where these lay
pub record Places (a : ℕ) (old new : Parts) (known later : Words) : Type 0 where
  pub same : new ≡ record old {
    blocks = new.blocks;
    placed = new.placed;
    turned = record old.turned { load = new.turned.load };
  }
  pub act : act_in new.turned ≡ act_in old.turned
  pub minted : is_mint (act_in old.turned) ≡ true → new.turned ≡ old.turned
  pub blocks : new.blocks ≡ blocks_by (Go a) old
  pub told : TellsOnly (Told (told_out old.turned)) (made_by (Go a) old new.placed.items)
      (Told (told_out new.turned))
  pub made : (c : Cell) → (slot_at old.table.slots a).place ≡ Home c
      → made_in c.heap.owner c.heap.next old.turn.made new.placed.items
      ≡ made_by (Go a) old new.placed.items
  pub puts : 0 < length old.blocks → PutsAll old.turn.made (act_in old.turned) new.placed.items
  pub kept : AreKept new.blocks (Told (made_by (Go a) old new.placed.items))
  pub holds : HoldsTold later (Told (made_by (Go a) old new.placed.items))
  pub others : StillLie old.blocks known new.blocks later

-- memory was refused; or there are blocks, and the actor keeps more rows of its turn than are free
abbrev pub IsLack : ℕ → Parts → StepFault → Type 0
IsLack a m (faults.NoRows actor) = (actor ≡ a) × (0 < length m.blocks)
    × (count_free m.blocks < length (rows_kept (act_in m.turned) m.turn))
IsLack a m faults.NoMemory = ⊤
IsLack a m fault = ⊥
