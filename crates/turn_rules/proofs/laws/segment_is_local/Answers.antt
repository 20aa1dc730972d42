use Rattle.turn_rules.proofs.Local.{segment_of-same}
use Rattle.turn_rules.proofs.laws.segment_is_local.Goals as goal

pub returns : goal.returns
returns c = segment_of-same
