use Rattle.count_laws.proofs.away.Commuting.{cells_away}
use Rattle.count_laws.proofs.away.Untouched.{others_keep, others_leave}
use Rattle.count_laws.proofs.laws.cells_can_be_away.Goals as goal

pub returns-clause-commutes : goal.returns-clause-commutes
returns-clause-commutes c = cells_away

pub returns-clause-cell : goal.returns-clause-cell
returns-clause-cell c = others_leave

pub returns-clause-enabled : goal.returns-clause-enabled
returns-clause-enabled c = others_keep
