use Rattle.detector_laws.proofs.Quiet.{quiet_all_reached}
use Rattle.detector_laws.proofs.laws.quiet_is_exact.Goals as goal

pub returns : goal.returns
returns c = quiet_all_reached
