use Rattle.detector_laws.proofs.Acknowledged.{members_alone}
use Rattle.detector_laws.proofs.laws.members_alone_acknowledge.Goals as goal

pub returns : goal.returns
returns c = members_alone
