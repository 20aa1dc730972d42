use Rattle.std.proofs.Common.{rules}
use Rattle.turn_log.proofs.Halves.{splits}
use Rattle.turn_log.proofs.table.TurnLog.split.Goals as goal

pub split_seat-requires : goal.split_seat-requires
split_seat-requires g c =
    let turn = c.requires.turn in (
      search rules,
      search rules,
      splits g.P.LogRule.holds g.P.LogRule.live g.P.LogRule.calm _ _ _ _
          g.M.Split.left g.M.Split.right turn.1.1 c.requires.live c.requires.calm c.requires.rule,
    )
