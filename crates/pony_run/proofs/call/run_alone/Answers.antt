use Rattle.std.proofs.Common.{refl}
use Rattle.pony_run.proofs.Answering.{audit_begun, run_begun, stop_answers}
use Rattle.pony_run.proofs.call.run_alone.Goals as goal

pub returns-in-Ok-Run : goal.returns-in-Ok-Run
returns-in-Ok-Run g c = run_begun _ _ _ _ _ _ _ c.in-Ok-Run.field-0-is c.in-Ok-Run.ensures.ok c.run_by_one.ensures

pub returns-in-Ok-Audit : goal.returns-in-Ok-Audit
returns-in-Ok-Audit g c = audit_begun _ _ _ _ _ _ _ _ c.in-Ok-Audit.field-0-is c.in-Ok-Audit.ensures.ok c.audit_book.ensures.book c.audit_book.ensures.answers

pub returns-in-Err : goal.returns-in-Err
returns-in-Err g c = stop_answers _ c.args.order.now _ _ _ refl c.in-Err.answer _ c.in-Err.ensures.stop c.stop.ensures
