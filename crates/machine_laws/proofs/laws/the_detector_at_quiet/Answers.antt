use Rattle.machine_laws.proofs.AtQuiet.{detector_at_quiet}
use Rattle.machine_laws.proofs.laws.the_detector_at_quiet.Goals as goal

pub returns : goal.returns
returns c = detector_at_quiet
