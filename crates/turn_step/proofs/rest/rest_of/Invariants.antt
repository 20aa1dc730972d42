use Rattle.std.proofs.Common.{◌-◌, ◌≡◌, ◌≤◌, length, drop, max}
use Rattle.turn_step.specs.Rests.{rest_of}
use Rattle.turn_step.proofs.rest.rest_of.Given as goal

abbrev pub invariant-loop-at : goal.invariant-loop-at
invariant-loop-at l = record {
  above : l.place ≤ l.at;
  within : l.at ≤ max l.place (length l.body);
  rest : rest_of (drop l.at l.body) l.at ≡ rest_of (drop l.place l.body) l.place;
}

abbrev pub decreases-loop-at : goal.decreases-loop-at
decreases-loop-at l = length l.body - l.at
