use Rattle.row_laws.proofs.Freeing.{events_free_exactly}
use Rattle.row_laws.proofs.laws.events_free_exactly.Goals as goal

pub returns : goal.returns
returns c = events_free_exactly
