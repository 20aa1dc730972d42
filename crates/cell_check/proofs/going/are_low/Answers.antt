use Rattle.std.proofs.Common.{◌<◌, ◌≤◌, length, get_or, ap, subst, ◌∙◌, arith}
use Rattle.std.specs.Prelude.{All}
use Rattle.std.proofs.lemmas.List.{take_all}
use Rattle.std.proofs.lemmas.List.Elements.{All-more}
use Rattle.actor_cell.specs.Cells.{as_cell}
use Rattle.cell_check.specs.Spare.{IsLow}
use Rattle.cell_check.proofs.going.are_low.Goals as goal

pub loop-amount-preserved : goal.loop-amount-preserved
loop-amount-preserved c =
    let low = IsLow (as_cell c.args.cell.now).holdings in
    let i = c.loop-amount.amount-index in
    let e = c.amount-item.result in
    let same = c.as_slice-amount-items.ensures in
    let inside : i < length c.args.things.now = omega (arith, ap length same, c.loop-amount-test.true) in
    let is = c.amount-item.is ∙ ap (λ xs. get_or xs i e) same in
    All-more low c.args.things.now i e inside c.loop-amount.invariant
    (subst low is (c.is_low.ensures c.if-not-is_low.false))

pub returns : goal.returns
returns c =
    let low = IsLow (as_cell c.args.cell.now).holdings in
    let i = c.loop-amount.amount-index in
    let whole : length c.args.things.now ≤ i = omega (arith, ap length c.as_slice-amount-items.ensures, c.loop-amount-test.false) in
    λ _. (
      omega (arith, c.len.ensures, c.if-len-gt8.false),
      subst (All low) (take_all i c.args.things.now whole) c.loop-amount.invariant,
    )
