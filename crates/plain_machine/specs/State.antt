-- A state, by its parts, and what holds of each state of the machine.
use Rattle.std.specs.Prelude.{ℕ, ◌≤◌, List}
use Rattle.orca_names.specs.declared.limits.TheConstants.{BOOK_LIMIT}
use Rattle.orca_names.specs.declared.names.Value.{Value}
use Rattle.behaviour_code.specs.declared.code.Program.{Program}
use Rattle.plain_rules.specs.declared.PlainActor.{PlainActor}
use Rattle.behaviour_check.specs.Rules.{IsChecked}
use Rattle.plain_rules.specs.Machine.{PlainState}
use Rattle.plain_rules.specs.Limits.{IsWithinLimits}

-- its program was checked, it keeps its limits, and no more events were done than a run book has
pub record IsSound (s : PlainState) : Type 0 where
  pub checked : IsChecked s.program
  pub within : IsWithinLimits s
  pub early : s.steps ≤ BOOK_LIMIT

abbrev pub state_of : Program → List PlainActor → List Value → ℕ → PlainState
state_of program actors prints steps =
    record { program = program; actors = actors; prints = prints; steps = steps }
