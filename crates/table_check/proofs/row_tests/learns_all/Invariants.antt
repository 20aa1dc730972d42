use Rattle.row_table.specs.Table.{AllKnownHere}
use Rattle.table_check.proofs.row_tests.learns_all.Given as goal

abbrev pub invariant-loop-serial : goal.invariant-loop-serial
invariant-loop-serial l = AllKnownHere l.fn.table → AllKnownHere l.table
