use Rattle.machine_laws.proofs.WholeRuns.{start_all}
use Rattle.machine_laws.proofs.laws.the_start_has_all_facts.Goals as goal

pub returns : goal.returns
returns c = start_all
