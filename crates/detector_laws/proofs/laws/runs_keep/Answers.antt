use Rattle.detector_laws.proofs.Steps.{run_keeps}
use Rattle.detector_laws.proofs.laws.runs_keep.Goals as goal

pub returns : goal.returns
returns c = run_keeps
