use Rattle.detector_laws.proofs.Starts.{start_facts}
use Rattle.detector_laws.proofs.laws.start_has_facts.Goals as goal

pub returns : goal.returns
returns c = start_facts
