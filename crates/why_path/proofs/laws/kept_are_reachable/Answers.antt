use Rattle.why_path.proofs.Runs.{are_reachable}
use Rattle.why_path.proofs.laws.kept_are_reachable.Goals as goal

pub returns : goal.returns
returns c = are_reachable
