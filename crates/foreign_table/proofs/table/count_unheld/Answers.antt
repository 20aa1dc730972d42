use Rattle.std.proofs.Common.{◌<◌, ℕ, Bool, List, cond, get_or, length, ap, ◌∙◌, arith}
use Rattle.orca_names.specs.declared.names.Value.{Value}
use Rattle.foreign_table.proofs.Unheld.{unheld_past, unheld_step}
use Rattle.foreign_table.specs.Table.{kept_in}
use Rattle.foreign_table.proofs.table.count_unheld.Goals.{then-not-is_held, else-not-is_held}
use Rattle.foreign_table.proofs.table.count_unheld.Goals as goal

pub loop-amount-preserved : goal.loop-amount-preserved
loop-amount-preserved c =
    let things = c.args.things.now in
    let held = c.args.held.now in
    let e = c.amount-item.result in
    let i = c.loop-amount.amount-index in
    let inside : i < length things = omega (arith, ap length c.as_slice-amount-items.ensures) in
    let step : (values : List Value) → _ = λ values. unheld_step (kept_in values held) things i e inside (c.amount-item.is ∙ ap (λ xs. get_or xs i e) c.as_slice-amount-items.ensures) in
    let few = c.loop-amount.invariant.few in
    let more : Bool → ℕ = λ held. cond held 0 1 in
    elim c.if-not-is_held.branch [
      | then-not-is_held w ↦
          let one = ap more w.if-not-is_held.true in
          record { counted = λ values. omega (arith, step values, c.loop-amount.invariant.counted values, w.count-is, one, ap more (c.is_held.ensures values)); few = omega (arith, w.count-is) }
      | else-not-is_held w ↦
          let none = ap more w.if-not-is_held.false in
          record { counted = λ values. omega (arith, step values, c.loop-amount.invariant.counted values, w.count-is, none, ap more (c.is_held.ensures values)); few = omega (arith, w.count-is) }
    ]

pub returns : goal.returns
returns c = λ values.
    let past = unheld_past (kept_in values c.args.held.now) c.args.things.now c.loop-amount.amount-index (omega (arith, ap length c.as_slice-amount-items.ensures, c.loop-amount.auto.amount-index-end)) in
    omega (arith, past, c.loop-amount.invariant.counted values)
