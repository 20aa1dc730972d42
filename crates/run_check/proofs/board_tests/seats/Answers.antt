use Rattle.std.proofs.Common.{◌≡◌, ◌∙◌, ap}
use Rattle.std.specs.Result.{is_ok}
use Rattle.work_board.specs.Troubled.{Troubled}
use Rattle.seat_hall.specs.Boards.{PassValue, out_of}
use Rattle.pony_run.proofs.Passes.{all_pushed}
use Rattle.run_check.proofs.board_tests.seats.Goals as goal

pub loop-looks-preserved : goal.loop-looks-preserved
loop-looks-preserved g c =
    let before = c.loop-looks.invariant in
    record {
      hall = c.split.ensures.stays.stays.same.0 ∙ before.hall;
      run = c.split.ensures.stays.stays.client ∙ before.run;
      idle = all_pushed (λ (b : Troubled PassValue). out_of b.inner ≡ 0) (is_ok c.push.result) c.new.result c.loop-looks.boards.items c.push.new.self.items
          c.push.ensures.items (ap (λ (b : Troubled PassValue). out_of b.inner) c.new.ensures ∙ c.in_ok-pass.ensures.ok.idle.none) before.idle;
    }
