use Rattle.std.proofs.Common.{◌≡◌, All}
use Rattle.turn_log.specs.Seats.{knows}
use Rattle.seat_hall.specs.Boards.{out_of}
use Rattle.run_check.proofs.board_tests.seats.Given as goal

abbrev pub invariant-loop-looks : goal.invariant-loop-looks
invariant-loop-looks g l = record {
  hall : l.first.token.table_id ≡ l.fn.first.token.table_id;
  run : (knows l.first.token).client ≡ (knows l.fn.first.token).client;
  idle : All (λ b. out_of b.inner ≡ 0) l.boards.items;
}
