use Rattle.std.proofs.Common.{rules}
use Rattle.book_audit.proofs.Exactly.{refuted_exactly, run_exactly}
use Rattle.book_audit.proofs.auditing.audit.Goals as goal

pub returns-clause-verdict : goal.returns-clause-verdict
returns-clause-verdict c = search rules

pub returns-clause-run : goal.returns-clause-run
returns-clause-run c = run_exactly c.args.code.now c.args.book.now c.verdict_of.result (returns-clause-verdict c)

pub returns-clause-refuted : goal.returns-clause-refuted
returns-clause-refuted c = refuted_exactly c.args.code.now c.args.book.now c.verdict_of.result (returns-clause-verdict c)
