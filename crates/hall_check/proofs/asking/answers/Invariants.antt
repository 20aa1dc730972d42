use Rattle.std.proofs.Common.{◌≡◌}
use Rattle.hall_check.proofs.asking.answers.Given as goal

abbrev pub invariant-loop-call : goal.invariant-loop-call
invariant-loop-call g l = (g.K.Keeper.hall l.first ≡ g.K.Keeper.hall l.fn.first) × (g.K.Keeper.hall l.second ≡ g.K.Keeper.hall l.fn.second)
