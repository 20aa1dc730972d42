use Rattle.std.proofs.Common.{rules}
use Rattle.turn_log.proofs.Unions.{joins}
use Rattle.turn_log.proofs.table.TurnLog.join.Goals as goal

pub join_seat-requires : goal.join_seat-requires
join_seat-requires g c =
    let idle = c.requires.idle in let calm = c.requires.calm in (
      search rules,
      search rules,
      search rules,
      search rules,
      joins g.P.LogRule.holds g.P.LogRule.live g.P.LogRule.calm _ _ _ _
          g.M.Join.both _ idle.0.0 idle.1.0 calm.0 calm.1 c.requires.rule,
    )
