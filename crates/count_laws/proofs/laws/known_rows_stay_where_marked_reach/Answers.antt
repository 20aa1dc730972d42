use Rattle.count_laws.proofs.roots.KeptRows.{known_rows_stay}
use Rattle.count_laws.proofs.laws.known_rows_stay_where_marked_reach.Goals as goal

pub returns : goal.returns
returns c = known_rows_stay
