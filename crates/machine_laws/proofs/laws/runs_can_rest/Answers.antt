use Rattle.machine_laws.proofs.GoesToRest.{runs_can_rest}
use Rattle.machine_laws.proofs.laws.runs_can_rest.Goals as goal

pub returns : goal.returns
returns c = runs_can_rest
