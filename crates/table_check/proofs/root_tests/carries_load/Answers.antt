use Rattle.std.proofs.Common.{refl}
use Rattle.row_store.proofs.Standing.{none_remembered}
use Rattle.table_check.proofs.root_tests.carries_load.Goals as goal

pub rows_of-requires : goal.rows_of-requires
rows_of-requires c = record { known = none_remembered _ _ _ (λ n. refl) }
