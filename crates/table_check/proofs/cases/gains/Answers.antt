use Rattle.std.proofs.Common.{◌≡◌, ℕ, ◌+◌, None, sym, ap, subst, ◌∙◌}
use Rattle.row_store.specs.Memory.{remembered}
use Rattle.row_store.specs.Told.{told_block, told_row}
use Rattle.foreign_table.specs.Table.{AllHere, entered}
use Rattle.foreign_table.proofs.Here.{entered_here}
use Rattle.table_check.proofs.Here.{held_here, no_block}
use Rattle.table_check.proofs.cases.gains.Goals as goal

pub returns : goal.returns
returns c = λ here.
    let told = c.args.told.now in
    let none : told_block told ≡ None =
    sym c.block.ensures ∙ no_block c.block.result (sym c.is_some.ensures ∙ c.if-is_some.false) in
    let before = c.reserves_one.new.table in
    let now = held_here before c.args.table.now c.reserves_one.ensures.blocks here in
    let x = c.args.thing.now in
    let row = told_row (remembered c.new.result) x told in
    let more : ℕ → ℕ = λ count. count + c.args.by in
    let is = c.gain.ensures ∙ ap (λ block. entered more x row block before) none in
    subst AllHere (sym is) (entered_here more x row before now)
