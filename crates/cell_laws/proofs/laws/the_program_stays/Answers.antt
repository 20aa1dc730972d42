use Rattle.cell_laws.proofs.Keeping.{runs_keep_program}
use Rattle.cell_laws.proofs.laws.the_program_stays.Goals as goal

pub returns : goal.returns
returns c = runs_keep_program
