use Rattle.machine_rules.proofs.Firsts.{go_on_or_end}
use Rattle.machine_rules.proofs.laws.a_run_goes_on_or_ends.Goals as goal

pub returns : goal.returns
returns c = go_on_or_end
