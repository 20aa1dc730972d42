use Rattle.event_rule.proofs.OneRun.{one_ending}
use Rattle.machine_rules.proofs.laws.a_run_ends_in_one_way.Goals as goal
use Rattle.machine_rules.specs.Next.{next}

pub returns : goal.returns
returns c = one_ending next
