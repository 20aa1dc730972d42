use Rattle.std.proofs.Common.{rules, ap, arith}
use Rattle.turn_log.proofs.Puts.{puts}
use Rattle.turn_log.proofs.table.TurnLog.put_word.Goals as goal

pub store-requires : goal.store-requires
store-requires g c =
    let r = c.requires.rule in (
      search rules,
      (let same = ap (λ t. t.words) c.self.view_is in let within = c.requires.within in omega arith),
      puts g.P.LogRule.holds g.P.LogRule.live g.P.LogRule.calm _ _ _ r.turn.0 r.value c.args.at c.args.w r.turn.1 r.rule,
    )
