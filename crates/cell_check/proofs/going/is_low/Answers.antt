use Rattle.std.proofs.Common.{leb-true, sym, ◌∙◌, arith}
use Rattle.trace_send.proofs.Steps.{held-is}
use Rattle.cell_check.proofs.going.is_low.Goals as goal

pub returns-then-count-le1000 : goal.returns-then-count-le1000
returns-then-count-le1000 c = λ yes.
    let cell = c.args.cell.now in
    let held = held-is cell.count cell.heap cell.foreign c.args.amount.now.0 ∙ sym c.count.ensures.count in
    (omega (arith, held, c.if-count-le1000.true), leb-true c.args.amount.now.1 256 yes)
