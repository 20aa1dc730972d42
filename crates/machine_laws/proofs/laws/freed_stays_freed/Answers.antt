use Rattle.machine_laws.proofs.StayingFreed.{freed_stays}
use Rattle.machine_laws.proofs.laws.freed_stays_freed.Goals as goal

pub returns : goal.returns
returns c = freed_stays
