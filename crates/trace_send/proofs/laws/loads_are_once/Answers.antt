use Rattle.trace_send.proofs.Once.{loads-once}
use Rattle.trace_send.proofs.laws.loads_are_once.Goals as goal

pub returns : goal.returns
returns c = loads-once
