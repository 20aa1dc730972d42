use Rattle.object_heap.specs.Heap.{AllHere}
use Rattle.table_check.proofs.cases.makes_all.Given as goal

abbrev pub invariant-loop-values : goal.invariant-loop-values
invariant-loop-values l = AllHere l.fn.heap → AllHere l.heap
