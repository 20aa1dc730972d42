use Rattle.machine_rules.proofs.Enabling.{enabled_exactly, full_exactly}
use Rattle.machine_rules.proofs.laws.events_are_enabled_exactly.Goals as goal

pub returns-clause-enabled : goal.returns-clause-enabled
returns-clause-enabled c = enabled_exactly

pub returns-clause-full : goal.returns-clause-full
returns-clause-full c = full_exactly
