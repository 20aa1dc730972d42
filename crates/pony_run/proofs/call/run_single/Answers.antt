use Rattle.pony_run.proofs.Caused.{order_caused}
use Rattle.pony_run.proofs.call.run_single.Goals as goal

pub returns-clause-causes : goal.returns-clause-causes
returns-clause-causes g c = order_caused _ _ _ _ _ c.run_alone.ensures
