use Rattle.letter_kinds.proofs.Acked.{acked_each, each_acked}
use Rattle.letter_kinds.proofs.laws.acked_by_all_is_by_each.Goals as goal

pub returns-clause-each : goal.returns-clause-each
returns-clause-each c = acked_each

pub returns-clause-all : goal.returns-clause-all
returns-clause-all c = each_acked
