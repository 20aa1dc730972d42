use Rattle.count_laws.proofs.agreement.Forgotten.{forgotten_stays}
use Rattle.count_laws.proofs.gone.Staying.{gone_stays, names_stay}
use Rattle.count_laws.proofs.laws.gone_stays_gone.Goals as goal

pub returns-clause-forgotten : goal.returns-clause-forgotten
returns-clause-forgotten c = forgotten_stays

pub returns-clause-given : goal.returns-clause-given
returns-clause-given c = names_stay

pub returns-clause-gone : goal.returns-clause-gone
returns-clause-gone c = gone_stays
