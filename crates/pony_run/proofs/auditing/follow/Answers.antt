use Rattle.std.proofs.Common.{refl}
use Rattle.pony_run.specs.Inner.{AuditAnswers}
use Rattle.pony_run.proofs.Answering.{nothing_written, refusal_found, run_found, told_refuted}
use Rattle.pony_run.proofs.auditing.follow.Goals as goal

pub returns-in-Ok-Run : goal.returns-in-Ok-Run
returns-in-Ok-Run g c =
    AuditAnswers.followed (c.write_audit.ensures c.args.code.now (run_found _ _ _ _ c.in-Ok-Run.field-0-is c.in-Ok-Run.ensures.verdict))

pub returns-in-Ok-Not : goal.returns-in-Ok-Not
returns-in-Ok-Not g c = told_refuted _ _ _ _ _ _ (refusal_found _ _ _ _ _ c.in-Ok-Not.field-0-is c.in-Ok-Not.ensures.verdict) c.tell.ensures

pub returns-in-Err : goal.returns-in-Err
returns-in-Err g c = AuditAnswers.starved (nothing_written _ _) refl
