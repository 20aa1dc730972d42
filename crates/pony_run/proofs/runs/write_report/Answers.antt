use Rattle.std.proofs.Common.{List, ℕ, subst, sym}
use Rattle.pony_run.specs.Headline.{IsReport}
use Rattle.pony_run.specs.Inner.{WritesReport}
use Rattle.pony_run.proofs.Answering.{nothing_written, run_written}
use Rattle.pony_run.proofs.Running.{no_blocks}
use Rattle.pony_run.proofs.runs.write_report.Goals as goal

pub report_of_run-requires-clause-none : goal.report_of_run-requires-clause-none
report_of_run-requires-clause-none g c = λ why. no_blocks c.args.order.now.rows _ _ _ _ _ c.requires.run.rows (c.requires.range.reasons why)

pub returns-in-Ok : goal.returns-in-Ok
returns-in-Ok g c =
    let report = subst (λ (text : List ℕ). IsReport c.args.end c.args.order.now c.args.book.now c.args.orca.now.state text) (sym c.deref.ensures.value) c.in-Ok.ensures in
    run_written c.args.end c.args.order.now c.args.book.now c.args.orca.now.state _ c.deref.result.now _ report c.write_text.ensures

pub returns-in-Err : goal.returns-in-Err
returns-in-Err g c = WritesReport.starved (nothing_written _ _)
