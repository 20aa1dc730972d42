use Rattle.std.proofs.lemmas.Result.{err_from_is_err_and}
use Rattle.job_input.proofs.Stopping.{stops_at_input}
use Rattle.job_input.proofs.beginning.run_of.Goals as goal

pub returns-in_err-code-clause-stop : goal.returns-in_err-code-clause-stop
returns-in_err-code-clause-stop c =
    let p = err_from_is_err_and c.from_residual.result c.from_residual.ensures.1 in
    rw (p.1, p.2) (stops_at_input c.args.job c.args.input.now _ c.requires.runs c.requires.short c.in_err-code.ensures.stop)
