use Rattle.std.proofs.Common.{◌≡◌, ◌∙◌, All, subst}
use Rattle.std.proofs.lemmas.List.Elements.{All-tail}
use Rattle.std.specs.Vec.Iter.{into_iter_items}
use Rattle.seat_hall.specs.Boards.{PassValue, out_of}
use Rattle.pony_run.proofs.working.take_in.Goals as goal

pub loop-pass-preserved : goal.loop-pass-preserved
loop-pass-preserved c =
    let table = c.args.first.now.token.table_id in
    let IsOf = λ (p : PassValue). p.token.table_id ≡ table in
    let rest = into_iter_items c.next.new.self in
    let items = c.in-Some.ensures.steps.0 in
    let before = c.loop-pass.invariant in
    record {
      next = tt;
      finite = tt;
      halls = All-tail IsOf c.in-Some.pass rest (subst (All IsOf) items before.halls);
      idle = All-tail (λ p. out_of p ≡ 0) c.in-Some.pass rest (subst (All (λ p. out_of p ≡ 0)) items before.idle);
      hall = c.join.ensures.stays.stays.same.0 ∙ before.hall;
      run = c.join.ensures.stays.stays.client ∙ before.run;
    }
