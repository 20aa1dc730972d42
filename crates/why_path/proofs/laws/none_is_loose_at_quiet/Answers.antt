use Rattle.why_path.proofs.Runs.{none_loose}
use Rattle.why_path.proofs.laws.none_is_loose_at_quiet.Goals as goal

pub returns : goal.returns
returns c = none_loose
