use Rattle.std.proofs.Common.{subst, sym}
use Rattle.pony_run.specs.Headline.{IsAuditReport}
use Rattle.pony_run.specs.Inner.{WritesAudit}
use Rattle.pony_run.proofs.Answering.{nothing_written, report_written}
use Rattle.pony_run.proofs.auditing.write_audit.Goals as goal

pub returns-in-Ok : goal.returns-in-Ok
returns-in-Ok g c program run =
    let report = subst (IsAuditReport c.args.book.now c.args.orca.now.state) (sym c.deref.ensures.value) c.in-Ok.ensures in
    report_written program c.args.book.now _ c.deref.result.now _ (record { state = c.args.orca.now.state; run = run; report = report }) c.write_text.ensures

pub returns-in-Err : goal.returns-in-Err
returns-in-Err g c program run = WritesAudit.starved (nothing_written _ _)
