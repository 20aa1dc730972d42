use Rattle.turn_log.proofs.Tickets.{ticket_is_one}
use Rattle.turn_log.proofs.laws.tickets_differ.Goals as goal

pub returns : goal.returns
returns g c = ticket_is_one g.P.LogRule.holds g.P.LogRule.live g.P.LogRule.calm
