use Rattle.cell_laws.proofs.Reaping.{the_acknowledged_are_done}
use Rattle.cell_laws.proofs.laws.the_acknowledged_are_done.Goals as goal

pub returns : goal.returns
returns c = the_acknowledged_are_done
