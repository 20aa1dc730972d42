use Rattle.std.proofs.Common.{arith}
use Rattle.pony_run.proofs.Answering.{starved_answers}
use Rattle.pony_run.proofs.Running.{no_run_yet}
use Rattle.pony_run.proofs.runs.run_by_several.Goals as goal

pub returns-in-Err : goal.returns-in-Err
returns-in-Err g c =
    let least = c.requires.range.weight.0 in
    starved_answers _ _ _ _ _ _ c.starve.ensures.status (no_run_yet c.args.order.now c.args.code.now c.starve.result.book (omega arith) c.starve.ensures.book)
