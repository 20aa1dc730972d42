use Rattle.std.proofs.Common.{◌∙◌}
use Rattle.run_book.proofs.NextLine.{fault_here, read_on}
use Rattle.run_book.proofs.reading.read_entries.Goals as goal

pub returns-in-Err-clause-fault : goal.returns-in-Err-clause-fault
returns-in-Err-clause-fault c =
    let e = c.line_end.ensures in
    fault_here c.args.text.now c.args.header.now c.loop-from.book.entries c.loop-from.from
    c.line_end.result _ c.loop-from.invariant.read c.loop-from-test.true
    e.within e.before e.found c.len.ensures c.len-in-Err.result c.in-Err.kind c.len-in-Err.ensures
    c.in-Err.ensures

pub loop-from-preserved : goal.loop-from-preserved
loop-from-preserved c =
    let e = c.line_end.ensures in
    let reserved = c.in_ok-reserve-in-Ok.ensures in
    let pushed = c.push.ensures in
    let kept = c.loop-from.invariant in
    record {
      read = read_on c.args.text.now c.args.header.now c.loop-from.book.entries c.loop-from.from
          c.line_end.result _ kept.read c.loop-from-test.true
          e.within e.before e.found c.len.ensures c.push.new.self.entries c.in-Ok.entry
          c.in-Ok.ensures (rw reserved.entries at pushed.entries);
      weight = pushed.run.0 ∙ reserved.run.0 ∙ kept.weight;
      trace = pushed.run.1 ∙ reserved.run.1 ∙ kept.trace;
    }
