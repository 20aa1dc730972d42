use Rattle.why_path.proofs.Runs.{hold_up}
use Rattle.why_path.proofs.laws.reasons_hold_up.Goals as goal

pub returns : goal.returns
returns c = hold_up
