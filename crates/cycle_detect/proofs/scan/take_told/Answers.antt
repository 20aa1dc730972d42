use Rattle.std.proofs.Common.{◌∙◌, get_or, arith}
use Rattle.cycle_detect.proofs.Sums.{told_more, told_part}
use Rattle.cycle_detect.proofs.scan.take_told.Goals as goal

pub take_entry-requires-clause-enough : goal.take_entry-requires-clause-enough
take_entry-requires-clause-enough g c = λ k lt.
    let low = c.loop-entry.invariant.lowered k lt in
    let part = told_part c.args.report.now (get_or c.args.names.now k 0) c.as_slice-entry-items.result.now c.loop-entry.entry-index c.entry-item.result c.as_slice-entry-items.ensures c.loop-entry-test.true c.entry-item.is in
    let all = c.requires.enough k lt in
    omega arith

pub loop-entry-preserved : goal.loop-entry-preserved
loop-entry-preserved g c =
    let was = c.loop-entry.invariant in
    let is = c.in_ok-take_entry.ensures in
    record {
      long = is.long;
      lowered = λ k lt.
          let more = told_more (get_or c.args.names.now k 0) c.args.report.now.actor c.as_slice-entry-items.result.now c.loop-entry.entry-index c.entry-item.result c.loop-entry-test.true c.entry-item.is in
          let low = was.lowered k lt in
          let now = is.lowered k lt in
          omega arith;
      falling = λ off h floor. is.falling off (was.falling off h floor) (λ k lt.
          let part = told_part c.args.report.now (get_or c.args.names.now k 0) c.as_slice-entry-items.result.now c.loop-entry.entry-index c.entry-item.result c.as_slice-entry-items.ensures c.loop-entry-test.true c.entry-item.is in
          let low = was.lowered k lt in
          let all = floor k lt in
          omega arith);
      size = is.size ∙ was.size;
      cost = let a = is.cost in let b = was.cost in omega arith;
    }
