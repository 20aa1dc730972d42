use Rattle.cell_laws.proofs.Going.{runs_allow_goes}
use Rattle.cell_laws.proofs.laws.counts_allow_goes.Goals as goal

pub returns : goal.returns
returns c = runs_allow_goes
