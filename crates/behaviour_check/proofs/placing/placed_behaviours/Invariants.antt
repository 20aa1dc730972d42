use Rattle.std.proofs.Common.{◌≡◌}
use Rattle.behaviour_check.proofs.placing.placed_behaviours.Given as goal

abbrev pub invariant-loop-behaviour : goal.invariant-loop-behaviour
invariant-loop-behaviour l = l.behaviour-items ≡ l.fn.behaviours
