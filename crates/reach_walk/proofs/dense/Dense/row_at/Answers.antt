use Rattle.std.proofs.Common.{◌-◌, ap, get_or, ◌∙◌, arith}
use Rattle.row_store.specs.Told.{lies_as, told_row}
use Rattle.reach_walk.proofs.Together.{told_at}
use Rattle.reach_walk.proofs.dense.Dense.row_at.Goals as goal

pub returns : goal.returns
returns c = λ rows row is.
    let dense = c.args.self.now in
    let i = c.args.at - dense.base in
    let item = get_or dense.items.now i c.index-self-i.result in
    (i, lies_as rows item, omega arith, told_at rows dense.items.now i c.index-self-i.result (omega arith), ap (told_row rows item.0) c.in-Here.is ∙ is)
