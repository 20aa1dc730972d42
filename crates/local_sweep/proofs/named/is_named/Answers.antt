use Rattle.std.proofs.Common.{◌||◌, get_or, sym, ap, ◌∙◌, arith}
use Rattle.std.specs.List.{list_any}
use Rattle.std.proofs.lemmas.List.{take_all}
use Rattle.std.proofs.lemmas.List.Folds.{list_any_at, list_any_more}
use Rattle.local_sweep.specs.Marked.{is_for}
use Rattle.local_sweep.proofs.named.is_named.Goals as goal

pub loop-value-preserved : goal.loop-value-preserved
loop-value-preserved c =
    let test = is_for c.args.thing.now in
    let v = c.value-item.result in
    let other = ap test (sym c.value-item.is) ∙ sym c.is_for.ensures ∙ c.if-is_for.false in
    list_any_more test c.args.values.now c.loop-value.value-index v c.loop-value-test.true
    ∙ ap (λ b. b || test (get_or c.args.values.now c.loop-value.value-index v)) c.loop-value.invariant ∙ other

pub returns-then-is_for : goal.returns-then-is_for
returns-then-is_for c =
    let test = is_for c.args.thing.now in
    let it = ap test (sym c.value-item.is) ∙ sym c.is_for.ensures ∙ c.if-is_for.true in
    sym (list_any_at test c.args.values.now c.loop-value.value-index c.value-item.result c.loop-value-test.true it)

pub returns : goal.returns
returns c =
    let all = take_all c.loop-value.value-index c.args.values.now (omega (arith, c.loop-value-test.false)) in
    sym (ap (list_any (is_for c.args.thing.now)) (sym all) ∙ c.loop-value.invariant)
