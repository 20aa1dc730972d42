-- A run and its book.
use Rattle.std.specs.Prelude.{ℕ, ◌≡◌, ◌≤◌, List, length}
use Rattle.orca_names.specs.declared.limits.TheConstants.{BOOK_LIMIT}
use Rattle.orca_names.specs.declared.options.Options.{Options}
use Rattle.behaviour_code.specs.declared.code.Program.{Program}
use Rattle.event_rule.specs.declared.event.Event.{Event}
use Rattle.machine_rules.specs.Run.{IsRun}
use Rattle.machine_rules.specs.State.{State, first_state}
use Rattle.run_book.specs.Books.{BookValue, IsWeight}
use Rattle.orca_core.specs.Laws.{IsRunOf}
use Rattle.orca_core.specs.Machine.{Machine, NoneIsAway}
use Rattle.hall_rules.specs.Halls.{HallValue, hall_state, state_after}

-- the book is a run of the program that leads to this state, with as many entries as there were events, and
-- at most as many as the budget
pub record IsRunWithin (program : Program) (options : Options) (budget : ℕ) (state : State) (steps : ℕ)
    (book : List Event) : Type 0 where
  pub state_is : state ≡ state_after (first_state program options) book
  pub run : IsRun program options book state
  pub long : length book ≡ steps
  pub weight : IsWeight options.weight
  pub within : length book ≤ budget
  pub most : budget ≤ BOOK_LIMIT

-- the machine and the book of this hall: its state is that of the book, which is its run, within the budget,
-- and no cell is away
pub record AreParts (h : HallValue) (orca : Machine) (book : BookValue) : Type 0 where
  pub state : orca.state ≡ hall_state h
  pub run : IsRunOf orca book.entries
  pub home : NoneIsAway orca
  pub program : orca.state.program ≡ h.program
  pub options : orca.state.options ≡ h.options
  pub entries : book.entries ≡ h.book
  pub weight : book.weight ≡ h.options.weight
  pub trace : book.trace ≡ h.options.trace
  pub within : length book.entries ≤ h.budget
