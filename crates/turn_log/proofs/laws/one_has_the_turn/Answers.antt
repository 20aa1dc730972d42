use Rattle.turn_log.proofs.Tickets.{one_turn}
use Rattle.turn_log.proofs.laws.one_has_the_turn.Goals as goal

pub returns : goal.returns
returns g c = one_turn g.P.LogRule.holds g.P.LogRule.live g.P.LogRule.calm
