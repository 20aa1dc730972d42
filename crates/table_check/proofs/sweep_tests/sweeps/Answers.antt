use Rattle.row_store.proofs.Standing.{none_stand}
use Rattle.known_rows.proofs.Standing.{none_known}
use Rattle.table_check.proofs.sweep_tests.sweeps.Goals as goal

pub plan-requires-clause-stand : goal.plan-requires-clause-stand
plan-requires-clause-stand c =
    none_stand _ _ _ (none_known c.args.heap.now c.args.foreign.now c.requires.own c.requires.held)

pub apply-requires : goal.apply-requires
apply-requires c = (_, c.in-Ok.ensures.plan)
