use Rattle.std.proofs.Common.{◌≡◌, All}
use Rattle.turn_log.specs.Seats.{knows}
use Rattle.seat_hall.specs.Boards.{out_of}
use Rattle.pony_run.proofs.working.split_off.Given as goal

abbrev pub invariant-loop : goal.invariant-loop
invariant-loop g l = record {
  hall : l.first.token.table_id ≡ l.fn.first.token.table_id;
  run : (knows l.first.token).client ≡ (knows l.fn.first.token).client;
  halls : All (λ p. p.token.table_id ≡ l.fn.first.token.table_id) l.passes.items;
  idle : All (λ p. out_of p ≡ 0) l.passes.items;
}
