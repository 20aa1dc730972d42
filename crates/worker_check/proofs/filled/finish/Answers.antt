use Rattle.std.proofs.lemmas.Result.{IfOk-weaker}
use Rattle.worker_check.proofs.Filling.{filled_at_end}
use Rattle.worker_check.proofs.filled.finish.Goals as goal

pub returns : goal.returns
returns c = IfOk-weaker _ _ _ (filled_at_end _ _ _) c.close.ensures.closed
