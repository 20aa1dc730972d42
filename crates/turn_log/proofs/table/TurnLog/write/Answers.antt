use Rattle.std.proofs.Common.{rules, ap}
use Rattle.turn_log.proofs.Writes.{writes}
use Rattle.turn_log.proofs.table.TurnLog.write.Goals as goal

pub fetch_add-requires : goal.fetch_add-requires
fetch_add-requires g c =
    let r = c.requires.rule in (
      search rules,
      search rules,
      writes g.P.LogRule.holds g.P.LogRule.live g.P.LogRule.calm g.P.LogRule.item g.P.LogRule.after _ _ _
          r.turn.0 r.before r.value r.turn.1 r.lies r.may_have r.rule,
    )

pub returns-clause-same : goal.returns-clause-same
returns-clause-same g c =
    let r = c.requires.rule in (
      (c.fetch_add.ensures.0, c.fetch_add.ensures.1),
      ap (λ m. m.1) (c.fetch_add.ensures.2 r.turn.0 r.before r.value r.turn.1 r.lies),
    )

pub returns-clause-wrote : goal.returns-clause-wrote
returns-clause-wrote g c = λ value lies.
    let r = c.requires.rule in
    let e = c.fetch_add.ensures.2 r.turn.0 r.before value r.turn.1 lies in
    ((r.turn.0, ap (λ m. m.0.stage) e), ap (λ m. m.0.known) e)

pub returns-clause-puts : goal.returns-clause-puts
returns-clause-puts g c =
    let r = c.requires.rule in
    ap (λ m. m.0.puts) (c.fetch_add.ensures.2 r.turn.0 r.before r.value r.turn.1 r.lies)
