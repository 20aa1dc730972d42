use Rattle.worker_check.proofs.Filling.{may_look}
use Rattle.worker_check.proofs.filled.look.Goals as goal

pub take_turn-count-requires-clause-look : goal.take_turn-count-requires-clause-look
take_turn-count-requires-clause-look g c = may_look
