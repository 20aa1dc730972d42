use Rattle.std.proofs.Common.{◌≡◌}
use Rattle.behaviour_check.proofs.placing.placed_body.Given as goal

abbrev pub invariant-loop-i : goal.invariant-loop-i
invariant-loop-i l = l.instrs.items ≡ l.fn.body
