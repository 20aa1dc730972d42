use Rattle.row_store.proofs.Standing.{none_stand}
use Rattle.known_rows.proofs.Standing.{none_own}
use Rattle.table_check.proofs.sweep_tests.plans_by_own_rows.Goals as goal

pub plan_roots-requires-clause-stand : goal.plan_roots-requires-clause-stand
plan_roots-requires-clause-stand c = none_stand _ _ _ (none_own c.args.heap.now c.requires.own)
