use Rattle.std.proofs.Common.{◌≡◌, All}
use Rattle.std.specs.Vec.Iter.{into_iter_items}
use Rattle.turn_log.specs.Seats.{knows}
use Rattle.seat_hall.specs.Boards.{out_of}
use Rattle.pony_run.proofs.working.take_in.Given as goal

abbrev pub invariant-loop-pass : goal.invariant-loop-pass
invariant-loop-pass l = record {
  next : (goal.iterator-loop-pass).can_next l.pass-iterator;
  finite : (goal.iterator-loop-pass).is_finite l.pass-iterator;
  halls : All (λ p. p.token.table_id ≡ l.fn.first.token.table_id) (into_iter_items l.pass-iterator);
  idle : All (λ p. out_of p ≡ 0) (into_iter_items l.pass-iterator);
  hall : l.first.token.table_id ≡ l.fn.first.token.table_id;
  run : (knows l.first.token).client ≡ (knows l.fn.first.token).client;
}
