use Rattle.std.proofs.Common.{◌≡◌, ◌++◌, [], drop}
use Rattle.event_rule.specs.Runs.{Leads}
use Rattle.machine_rules.specs.Next.{next}
use Rattle.machine_rules.specs.State.{State, first_state}
use Rattle.orca_core.specs.Machine.{NoneIsAway}
use Rattle.orca_parts.specs.Parts.{options_of}
use Rattle.why_path.specs.Partings.{partings_of}
use Rattle.why_path.proofs.gone.partings.Given as goal

abbrev pub invariant-loop-i : goal.invariant-loop-i
invariant-loop-i l = record {
  found : l.found.items ++ partings_of (drop l.i l.book.entries) l.orca.state
      ≡ partings_of l.book.entries (first_state l.code (options_of l.book.weight l.book.trace));
  rest : (t : State) × Leads next l.orca.state (drop l.i l.book.entries) t;
  steps : l.orca.steps ≡ l.i;
  home : NoneIsAway l.orca;
  none : l.orca.blocks ≡ [];
}
