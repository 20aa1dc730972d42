use Rattle.detector_laws.proofs.Steps.{quiet_run}
use Rattle.detector_laws.proofs.laws.exact_at_quiet.Goals as goal

pub returns : goal.returns
returns c = quiet_run
