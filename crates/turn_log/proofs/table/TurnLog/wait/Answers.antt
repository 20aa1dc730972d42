use Rattle.std.proofs.Common.{rules, sym, ap, ◌∙◌, ◌∷◌, Some}
use Rattle.atomic_table.specs.Table.{rest}
use Rattle.turn_log.proofs.Looks.{looks}
use Rattle.turn_log.proofs.table.TurnLog.wait.Goals as goal

pub load-requires : goal.load-requires
load-requires g c = (
  search rules,
  search rules,
  looks g.P.LogRule.holds g.P.LogRule.live g.P.LogRule.calm g.P.LogRule.shows _ _ _ c.args.ticket
      (ap (λ m. m.0.stage) c.loop.invariant.1 ∙ c.requires.waits.0) c.requires.few c.requires.look,
)

pub exchange-requires : goal.exchange-requires
exchange-requires g c =
    let saw = (c.load.ensures.2 _ (ap (λ m. m.0.stage) c.loop.invariant.1 ∙ c.requires.waits.0)).1 (search rules) in
    let e = ap (λ m. m.1) saw.3 in
    (search rules, (Some saw.0, e ∙ ap (λ cs. (0, Some saw.0) ∷ rest cs) (sym e)))
