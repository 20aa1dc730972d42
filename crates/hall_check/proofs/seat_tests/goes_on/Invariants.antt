use Rattle.std.proofs.Common.{◌≡◌, IfSome, Some}
use Rattle.event_rule.specs.Events.{actor_of}
use Rattle.seat_hall.specs.Passes.{MayCommit}
use Rattle.hall_check.proofs.seat_tests.goes_on.Given as goal

abbrev pub invariant-loop-place : goal.invariant-loop-place
invariant-loop-place g l =
    IfSome l.task (λ task. MayCommit l.pass.number l.pass.token task × (actor_of task.taken.event ≡ Some l.fn.actor))
    × (l.pass.token.table_id ≡ l.fn.pass.token.table_id)
