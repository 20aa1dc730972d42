use Rattle.std.proofs.Common.{◌≡◌, IfSome, Some}
use Rattle.event_rule.specs.Events.{actor_of}
use Rattle.worker_check.proofs.board_tests.goes_on.Given as goal

abbrev pub invariant-loop-place : goal.invariant-loop-place
invariant-loop-place g l =
    IfSome l.task (λ task. (actor_of (g.B.Board.event task) ≡ Some 0) × g.B.Board.owns l.board task)
