use Rattle.event_rule.proofs.OneRun.{none_at_quiet, one_is_first}
use Rattle.machine_rules.proofs.Firsts.{quiet_or_first}
use Rattle.machine_rules.proofs.laws.one_event_is_first.Goals as goal
use Rattle.machine_rules.specs.Next.{next}

pub returns-clause-some : goal.returns-clause-some
returns-clause-some c = quiet_or_first

pub returns-clause-one : goal.returns-clause-one
returns-clause-one c = one_is_first next

pub returns-clause-none : goal.returns-clause-none
returns-clause-none c = none_at_quiet next
