use Rattle.table_check.proofs.Here.{nothing_here}
use Rattle.table_check.proofs.row_tests.what_was_told_last_is_known.Goals as goal

pub changes-holds-requires : goal.changes-holds-requires
changes-holds-requires g c = nothing_here c.new-table.result c.new-table.ensures
