use Rattle.std.proofs.Common.{rules, ap, arith}
use Rattle.turn_log.proofs.Puts.{reads}
use Rattle.turn_log.proofs.table.TurnLog.read_word.Goals as goal

pub load-requires : goal.load-requires
load-requires g c = (
  search rules,
  (let same = ap (λ t. t.words) c.self.view_is in let within = c.requires.within in omega arith),
  reads g.P.LogRule.holds g.P.LogRule.live g.P.LogRule.calm g.M.Lesson.tells _ _ _ c.args.at c.requires.rule,
)
