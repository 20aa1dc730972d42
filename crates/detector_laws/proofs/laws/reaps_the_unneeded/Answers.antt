use Rattle.detector_laws.proofs.Safe.{reaped_unneeded}
use Rattle.detector_laws.proofs.laws.reaps_the_unneeded.Goals as goal

pub returns : goal.returns
returns c = reaped_unneeded
