-- States whose actors stand in places.
use Rattle.std.proofs.Common.{◌≡◌, [], ◌∷◌, Option, Some, None}
use Rattle.behaviour_code.specs.declared.code.Program.{Program}
use Rattle.machine_examples.proofs.Ledgers.{empty_ledger}
use Rattle.machine_rules.specs.Cell.{first_cell}
use Rattle.event_rule.specs.Runs.{Step, Goes}
use Rattle.orca_names.specs.declared.trace.Trace.{Trace}
use Rattle.machine_rules.specs.Options.{Options}
use Rattle.machine_rules.specs.State.{State, first_state, start_letters}
use Rattle.machine_examples.proofs.Places.{Places, seats_told, place}
use Rattle.std.specs.Prelude.{⊤}

-- a state whose actors stand in the places; those of the state count for nothing
pub record Page : Type 0 where
  pub state : State
  pub places : Places

-- the state with the actors of the places
abbrev pub state_told : Page → State
state_told b = record b.state { actors = seats_told b.places }

-- before the first event
abbrev pub first_page : Program → Options → Page
first_page program options = record {
  state = record (first_state program options) { actors = [] };
  places = place (first_cell program) (empty_ledger 0) [] (start_letters program) ∷ [];
}

-- with this tracing
abbrev pub traced : Page → Trace
traced b = b.state.options.trace

-- the step goes to the state of the page, if there is one
abbrev pub Follows : Option Page → Step State → Type 0
Follows None step = ⊤
Follows (Some b) step = step ≡ Goes (state_told b)
