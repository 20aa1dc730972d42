use Rattle.machine_laws.proofs.WholeRuns.{run_has_facts}
use Rattle.machine_laws.proofs.laws.every_run_has_all_facts.Goals as goal

pub returns : goal.returns
returns c = run_has_facts
