use Rattle.table_check.proofs.foreign_tests.differs_once_spent.Goals as goal
use Rattle.std.proofs.Common.{◌≡◌, ap, ◌∙◌}
use Rattle.foreign_table.specs.Table.{Table}
use Rattle.table_check.proofs.Here.{held_here}
use Rattle.table_check.proofs.foreign_tests.differs_once_spent.Goals.{then-count-gt0, else-count-gt0}

pub same-requires : goal.same-requires
same-requires c =
    let now = c.if-count-gt0.table in
    let same : now.blocks ≡ c.args.table.now.blocks =
    elim c.if-count-gt0.branch [
      | then-count-gt0 w ↦ ap (λ (t : Table). t.blocks) (w.table-is ∙ w.spend.ensures)
      | else-count-gt0 w ↦ ap (λ (t : Table). t.blocks) w.table-is
    ] in
    held_here now c.args.table.now same c.requires
