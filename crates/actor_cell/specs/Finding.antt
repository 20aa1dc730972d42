-- What is found of a turn, and of the act at which it stops.
use Rattle.std.specs.Prelude.{◌≡◌, ◌≤◌, List, None, IsSomeAnd, length}
use Rattle.orca_names.specs.declared.options.Options.{Options}
use Rattle.behaviour_code.specs.declared.code.Program.{Program}
use Rattle.turn_rules.specs.declared.act.Act.{Act}
use Rattle.turn_rules.specs.declared.act.Act.TheVariants.{Post}
use Rattle.turn_rules.specs.Segment.{Turn}
use Rattle.letter_kinds.specs.Holdings.{Row, with_made}
use Rattle.actor_cell.specs.declared.cell.Cell.{Cell}
use Rattle.actor_cell.specs.declared.go.Sending.{Sending}
use Rattle.actor_cell.specs.declared.turning.Turned.{Turned}
use Rattle.actor_cell.specs.Awaiting.{AwaitsAt, AwaitsIn}
use Rattle.actor_cell.specs.Cells.{as_cell}
use Rattle.actor_cell.specs.Goes.{IsTold, having_made, move_by, new_entries}
use Rattle.actor_cell.specs.Moves.{Move, act_in}

-- of an act of a turn that made these rows: what the actor does by it, and the letter it awaits then
pub record Finds (options : Options) (c : Cell) (made : List Row) (does : Act)
    (old new : Turned) : Type 0 where
  pub act : act_in new ≡ move_by options c.heap.owner (having_made made (as_cell c)) does
  pub awaited : old.awaited ≡ None
      → AwaitsIn options.trace c.heap.owner (with_made made (as_cell c).holdings) does new
  pub place : new.place ≡ old.place

-- of the act that sends this letter, with the arguments that were found before
abbrev pub FindsLetter : Sending → Turned → Turned → Type 0
FindsLetter s old new =
    Finds s.options s.cell.now s.made.now (Post s.to s.behaviour old.args) old new

-- of the turn of the cell: what the actor does where it stopped, and the letter it awaits then
pub record FindsTurn (options : Options) (program : Program) (c : Cell) (turn : Turn)
    (found : Turned) : Type 0 where
  pub told : IsSomeAnd c.frame
      (IsTold options program c.heap.owner (as_cell c) turn found.place (act_in found))
  pub awaited : AwaitsAt options.trace program c.heap.owner (as_cell c) turn found

-- the cell has room for what the turn made, and for the entries that the act may bring
abbrev pub HasRoomToMove : Turn → Move → Cell → Type 0
HasRoomToMove turn act c =
    (length turn.made ≤ c.heap.spare) × (new_entries act c.foreign.entries ≤ c.foreign.spare)
