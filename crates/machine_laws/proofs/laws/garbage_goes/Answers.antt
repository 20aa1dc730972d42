use Rattle.machine_laws.proofs.GoesToRest.{garbage_is_gone, garbage_is_gone_by_roots}
use Rattle.machine_laws.proofs.laws.garbage_goes.Goals as goal

pub returns-clause-deep : goal.returns-clause-deep
returns-clause-deep c = garbage_is_gone

pub returns-clause-roots : goal.returns-clause-roots
returns-clause-roots c = garbage_is_gone_by_roots
