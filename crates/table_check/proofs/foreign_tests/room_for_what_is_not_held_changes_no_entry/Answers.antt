use Rattle.table_check.proofs.Here.{none_held}
use Rattle.table_check.proofs.foreign_tests.room_for_what_is_not_held_changes_no_entry.Goals as goal

pub is_as_before-holds-requires : goal.is_as_before-holds-requires
is_as_before-holds-requires g c = none_held c.new-table.result c.new-table.ensures
