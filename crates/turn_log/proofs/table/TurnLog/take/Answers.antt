use Rattle.std.proofs.Common.{rules, sym, ap, ◌∙◌, ◌∷◌, Some}
use Rattle.atomic_table.specs.Table.{rest}
use Rattle.turn_log.proofs.table.TurnLog.take.Goals as goal

pub exchange-requires : goal.exchange-requires
exchange-requires g c =
    let full = c.requires.full in
    (search rules, (Some full.0, full.1 ∙ ap (λ cs. (0, Some full.0) ∷ rest cs) (sym full.1)))
