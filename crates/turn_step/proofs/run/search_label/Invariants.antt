use Rattle.std.proofs.Common.{length, ◌-◌, ◌≡◌, ◌≤◌, drop}
use Rattle.turn_step.specs.Turns.{place_after}
use Rattle.turn_step.proofs.run.search_label.Given as goal

abbrev pub invariant-loop-at : goal.invariant-loop-at
invariant-loop-at l = record {
  above : l.from ≤ l.at;
  within : l.at ≤ length l.body;
  rest : place_after l.name (drop l.at l.body) l.at ≡ place_after l.name (drop l.from l.body) l.from;
}

abbrev pub decreases-loop-at : goal.decreases-loop-at
decreases-loop-at l = length l.body - l.at
