use Rattle.foreign_table.specs.Table.{AllHere}
use Rattle.table_check.proofs.cases.gains_all.Given as goal

abbrev pub invariant-loop-named : goal.invariant-loop-named
invariant-loop-named l = AllHere l.fn.table → AllHere l.table
