use Rattle.std.proofs.Common.{length, ap, ◌∙◌, arith}
use Rattle.known_rows.specs.Places.{placed_things}
use Rattle.table_check.proofs.sweep_tests.plans_by_marks.Goals as goal

pub plan_of_marks-requires : goal.plan_of_marks-requires
plan_of_marks-requires c =
    let same = ap (λ h. length (placed_things h c.of-known.result.rows.foreign.now)) c.of-known.ensures.heap ∙ ap (λ f. length (placed_things c.args.heap.now f)) c.of-known.ensures.foreign in
    omega (arith, same, c.places.ensures, c.len.ensures, c.if-places-len.false)
