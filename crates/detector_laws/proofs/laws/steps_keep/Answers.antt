use Rattle.detector_laws.proofs.Steps.{step_keeps}
use Rattle.detector_laws.proofs.laws.steps_keep.Goals as goal

pub returns : goal.returns
returns c = step_keeps
