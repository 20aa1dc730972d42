use Rattle.pony_run.proofs.Caused.{caused}
use Rattle.pony_run.proofs.call.run_words.Goals as goal

pub returns-clause-causes : goal.returns-clause-causes
returns-clause-causes g c = caused _ _ _ _ _ c.run_all.ensures
