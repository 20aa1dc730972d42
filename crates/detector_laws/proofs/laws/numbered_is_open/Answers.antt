use Rattle.detector_laws.proofs.Named.{numbered_is_open}
use Rattle.detector_laws.proofs.laws.numbered_is_open.Goals as goal

pub returns : goal.returns
returns c = numbered_is_open
