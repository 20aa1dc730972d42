use Rattle.std.proofs.Common.{arith, subst, sym}
use Rattle.row_blocks.specs.Blocks.{MayPutEach}
use Rattle.pony_run.proofs.Answering.{starved_answers}
use Rattle.pony_run.proofs.Running.{no_run_yet}
use Rattle.pony_run.proofs.runs.run_over.Goals as goal

pub end_run-requires-clause-stand : goal.end_run-requires-clause-stand
end_run-requires-clause-stand g c = c.in-Ok.ensures.stand (g.W.RowWords.known c.args.words.now)

pub end_run-requires-clause-put : goal.end_run-requires-clause-put
end_run-requires-clause-put g c = subst (λ bs. MayPutEach bs (g.W.RowWords.places c.args.words.now)) (sym c.in-Ok.ensures.blocks) c.requires.put

pub returns-in-Err : goal.returns-in-Err
returns-in-Err g c =
    let least = c.requires.range.weight.0 in
    starved_answers _ _ _ _ _ _ c.starve.ensures.status (no_run_yet c.args.order.now c.args.code.now c.starve.result.book (omega arith) c.starve.ensures.book)
