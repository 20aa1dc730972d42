use Rattle.std.proofs.lemmas.Result.{err_from_is_err_and}
use Rattle.job_input.proofs.Stopping.{stops_at_book, stops_at_text}
use Rattle.job_input.proofs.beginning.audit_of.Goals as goal

pub returns-in_err-code-clause-stop : goal.returns-in_err-code-clause-stop
returns-in_err-code-clause-stop c =
    let p = err_from_is_err_and c.from_residual.result c.from_residual.ensures.1 in
    rw (p.1, p.2) (stops_at_text c.args.input.now c.split_at_book.result.0.now c.split_at_book.result.1.now _ c.requires c.split_at_book.ensures c.in_err-code.ensures.stop)

pub returns-in_err-book-clause-stop : goal.returns-in_err-book-clause-stop
returns-in_err-book-clause-stop c =
    let p = err_from_is_err_and c.from_residual-in_err-book.result c.from_residual-in_err-book.ensures.1 in
    rw (p.1, p.2) (stops_at_book c.args.input.now c.split_at_book.result.0.now c.split_at_book.result.1.now _ _ c.requires c.split_at_book.ensures c.in_ok-code.ensures.ok c.in_err-book.ensures.stop)
