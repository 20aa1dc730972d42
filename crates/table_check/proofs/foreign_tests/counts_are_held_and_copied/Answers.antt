use Rattle.table_check.proofs.Here.{none_held}
use Rattle.table_check.proofs.foreign_tests.counts_are_held_and_copied.Goals as goal

pub counts_so-holds-requires : goal.counts_so-holds-requires
counts_so-holds-requires g c = none_held c.new-table.result c.new-table.ensures
