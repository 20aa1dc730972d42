use Rattle.std.proofs.Common.{◌≡◌}
use Rattle.steal_pool.proofs.worker.run.Given as goal

abbrev pub invariant-loop : goal.invariant-loop
invariant-loop g l =
    (goal.iterator-loop g).can_next l.iterator' × (goal.iterator-loop g).is_finite l.iterator' × (g.B.Board.out l.board ≡ 0) × (g.B.Board.hall l.board ≡ g.B.Board.hall l.fn.board)
