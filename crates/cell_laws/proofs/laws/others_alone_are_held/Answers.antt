use Rattle.cell_laws.proofs.Cells.{cells_know_others_only}
use Rattle.cell_laws.proofs.Holding.{runs_hold_others_only, runs_hold_the_made_only}
use Rattle.cell_laws.proofs.Learning.{runs_know_others_only}
use Rattle.cell_laws.proofs.laws.others_alone_are_held.Goals as goal

pub returns-clause-others : goal.returns-clause-others
returns-clause-others c = runs_hold_others_only

pub returns-clause-made : goal.returns-clause-made
returns-clause-made c = runs_hold_the_made_only

pub returns-clause-known : goal.returns-clause-known
returns-clause-known c = runs_know_others_only

pub returns-clause-cell : goal.returns-clause-cell
returns-clause-cell c = cells_know_others_only
