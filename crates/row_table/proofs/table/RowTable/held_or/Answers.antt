use Rattle.std.proofs.Common.{sym, ap, ◌∙◌}
use Rattle.row_table.specs.Table.{as_held, known_in}
use Rattle.row_table.proofs.Mapped.{none_held}
use Rattle.row_table.proofs.table.RowTable.held_or.Goals as goal

pub returns-in-None : goal.returns-in-None
returns-in-None c = none_held c.args.empty.now c.requires ∙ ap (λ o. as_held (known_in o)) (sym c.in-None.is) ∙ ap as_held c.self.view_is
