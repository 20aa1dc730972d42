use Rattle.std.specs.Prelude.{◌≡◌, ◌≤◌, IsSomeAnd, Some}
use Rattle.event_rule.specs.Events.{actor_of}
use Rattle.steal_pool.proofs.worker.stay_with.Given as goal

abbrev pub invariant-loop-entries : goal.invariant-loop-entries
invariant-loop-entries g l =
    (g.B.Board.out l.board ≤ 1) × (g.B.Board.hall l.board ≡ g.B.Board.hall l.fn.board)
    × IsSomeAnd l.task (λ claim. g.B.Board.owns l.board claim × (actor_of (g.B.Board.event claim) ≡ Some l.fn.a))
