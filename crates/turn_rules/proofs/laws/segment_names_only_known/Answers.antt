use Rattle.turn_rules.proofs.Names.{segment_known}
use Rattle.turn_rules.proofs.laws.segment_names_only_known.Goals as goal

pub returns : goal.returns
returns c = segment_known
