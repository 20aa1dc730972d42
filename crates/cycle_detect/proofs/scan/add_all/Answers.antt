use Rattle.std.proofs.Common.{arith}
use Rattle.cycle_detect.proofs.Sums.{held_upto}
use Rattle.cycle_detect.proofs.scan.add_all.Goals as goal

pub returns-in_err-add_told-clause-cost : goal.returns-in_err-add_told-clause-cost
returns-in_err-add_told-clause-cost g c =
    let upto = held_upto (λ r. r.now) c.args.reports.now c.loop-report.report-index c.report-item.result c.loop-report-test.true c.report-item.is in
    let told = c.add_told.ensures.cost in
    let before = c.loop-report.invariant.cost in
    omega (arith, c.tick.ensures)
