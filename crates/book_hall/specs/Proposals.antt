-- A copy of a cell, and a proposal that is of the present run.
use Rattle.std.specs.Prelude.{ℕ, ◌≡◌, length, Some}
use Rattle.orca_names.specs.declared.options.Options.{Options}
use Rattle.behaviour_code.specs.declared.code.Program.{Program}
use Rattle.event_rule.specs.declared.event.Event.{Event}
use Rattle.actor_cell.specs.Cells.{as_cell}
use Rattle.machine_rules.specs.Actors.{cell_at}
use Rattle.hall_rules.specs.Causes.{event_at}
use Rattle.hall_rules.specs.Halls.{HallValue, hall_state}
use Rattle.book_hall.specs.declared.copy.CellCopy.{CellCopy}
use Rattle.book_hall.specs.declared.copy.Proposal.{Proposal}

-- this is a copy of the actor's cell, with its first event
pub record IsCopy (h : HallValue) (a : ℕ) (copy : CellCopy) : Type 0 where
  pub program : copy.code.now ≡ h.program
  pub options : copy.options ≡ h.options
  pub event : event_at (hall_state h) a ≡ Some copy.event
  pub at : copy.at ≡ length h.book
  pub owner : copy.cell.heap.owner ≡ a
  pub cell : cell_at (hall_state h).actors a ≡ Some (as_cell copy.cell)

-- it is of a run of this program with these options, and for this event
pub record IsOf (program : Program) (options : Options) (e : Event) (proposal : Proposal) : Type 0 where
  pub program_is : proposal.copy.code.now ≡ program
  pub options_is : proposal.copy.options ≡ options
  pub event : proposal.copy.event ≡ e
