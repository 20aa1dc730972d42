use Rattle.why_path.proofs.Closing.{reaped_closed}
use Rattle.why_path.proofs.laws.reaped_are_closed.Goals as goal

pub returns : goal.returns
returns c = reaped_closed
