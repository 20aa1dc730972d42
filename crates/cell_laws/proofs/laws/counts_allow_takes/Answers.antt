use Rattle.cell_laws.proofs.Taking.{runs_allow_takes}
use Rattle.cell_laws.proofs.laws.counts_allow_takes.Goals as goal

pub returns : goal.returns
returns c = runs_allow_takes
