use Rattle.std.proofs.Common.{◌≡◌, ap, ◌∙◌}
use Rattle.foreign_table.specs.Table.{Table}
use Rattle.table_check.proofs.Here.{held_here}
use Rattle.table_check.proofs.foreign_tests.stays_for_nine.Goals as goal
use Rattle.table_check.proofs.foreign_tests.stays_for_nine.Goals.{in-Ok, in-Err}

pub same-requires : goal.same-requires
same-requires c =
    let now = c.match-nine_objects.table in
    let same : now.blocks ≡ c.args.table.now.blocks =
    elim c.match-nine_objects.branch [
      | in-Ok w ↦ ap (λ (t : Table). t.blocks) (w.table-is ∙ w.reserve_for.ensures.same)
      | in-Err w ↦ ap (λ (t : Table). t.blocks) w.table-is
    ] in
    held_here now c.args.table.now same c.requires
