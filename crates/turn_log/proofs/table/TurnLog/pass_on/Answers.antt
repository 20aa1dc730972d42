use Rattle.std.proofs.Common.{rules}
use Rattle.turn_log.proofs.Passes.{passes}
use Rattle.turn_log.proofs.table.TurnLog.pass_on.Goals as goal

pub fetch_add-requires : goal.fetch_add-requires
fetch_add-requires g c =
    let r = c.requires.turn in (
      search rules,
      search rules,
      passes g.P.LogRule.holds g.P.LogRule.live g.P.LogRule.calm _ _ _ r.1.0 r.0 r.1.1 r.2 c.requires.calm,
    )
