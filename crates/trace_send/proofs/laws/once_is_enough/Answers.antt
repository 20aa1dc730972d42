use Rattle.trace_send.proofs.Once.{once-received, once-sent}
use Rattle.trace_send.proofs.laws.once_is_enough.Goals as goal

pub returns-clause-received : goal.returns-clause-received
returns-clause-received c = once-received

pub returns-clause-sent : goal.returns-clause-sent
returns-clause-sent c = once-sent
