use Rattle.std.proofs.Common.{◌≡◌}
use Rattle.hall_check.proofs.seat_tests.splits.Given as goal

abbrev pub invariant-loop-done : goal.invariant-loop-done
invariant-loop-done g l = l.pass.token.table_id ≡ l.fn.pass.token.table_id
