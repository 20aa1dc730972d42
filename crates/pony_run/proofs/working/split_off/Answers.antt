use Rattle.std.proofs.Common.{◌≡◌, ◌∙◌}
use Rattle.std.specs.Result.{is_ok}
use Rattle.seat_hall.specs.Boards.{PassValue, out_of}
use Rattle.pony_run.proofs.Passes.{all_pushed}
use Rattle.pony_run.proofs.working.split_off.Goals as goal

pub loop-preserved : goal.loop-preserved
loop-preserved g c =
    let before = c.loop.invariant in
    let split = c.in-Ok.ensures.ok in
    let old = c.loop.passes.items in
    let new = c.push.new.self.items in record {
      hall = c.split.ensures.stays.stays.same.0 ∙ before.hall;
      run = c.split.ensures.stays.stays.client ∙ before.run;
      halls = all_pushed (λ (p : PassValue). p.token.table_id ≡ c.args.first.now.token.table_id) (is_ok c.push.result) c.in-Ok.pass old new
          c.push.ensures.items (split.idle.own ∙ before.hall) before.halls;
      idle = all_pushed (λ (p : PassValue). out_of p ≡ 0) (is_ok c.push.result) c.in-Ok.pass old new c.push.ensures.items split.idle.none before.idle;
    }

pub returns-then-is_err-clause-idle : goal.returns-then-is_err-clause-idle
returns-then-is_err-clause-idle g c =
    all_pushed (λ (p : PassValue). out_of p ≡ 0) (is_ok c.push.result) c.in-Ok.pass c.loop.passes.items c.push.new.self.items c.push.ensures.items
    c.in-Ok.ensures.ok.idle.none c.loop.invariant.idle
