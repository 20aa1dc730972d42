use Rattle.std.proofs.Common.{rules}
use Rattle.turn_log.proofs.Draws.{draws}
use Rattle.turn_log.proofs.table.TurnLog.draw.Goals as goal

pub fetch_add-requires : goal.fetch_add-requires
fetch_add-requires g c = (
  search rules,
  search rules,
  draws g.P.LogRule.holds g.P.LogRule.live g.P.LogRule.calm _ _ _ c.requires.idle.0 c.requires.live,
)
