use Rattle.std.proofs.Common.{◌≡◌}
use Rattle.behaviour_check.proofs.placing.placed_kinds.Given as goal

abbrev pub invariant-loop-i : goal.invariant-loop-i
invariant-loop-i l = l.kinds.items ≡ l.fn.kinds
