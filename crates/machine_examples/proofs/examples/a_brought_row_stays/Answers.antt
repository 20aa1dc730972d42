use Rattle.machine_examples.proofs.RootsRuns.{a_brought_row_stays}
use Rattle.machine_examples.proofs.examples.a_brought_row_stays.Goals as goal

pub returns : goal.returns
returns c = a_brought_row_stays
