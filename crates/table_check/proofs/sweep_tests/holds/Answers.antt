use Rattle.std.proofs.Common.{ap}
use Rattle.object_heap.specs.Heap.{Heap}
use Rattle.table_check.proofs.Here.{new_here, none_held}
use Rattle.table_check.proofs.sweep_tests.holds.Goals as goal

pub ends_so-holds-requires-clause-own : goal.ends_so-holds-requires-clause-own
ends_so-holds-requires-clause-own c =
    new_here c.new-heap.result (ap (λ (h : Heap). h.blocks) c.new-heap.ensures)

pub ends_so-holds-requires-clause-held : goal.ends_so-holds-requires-clause-held
ends_so-holds-requires-clause-held c = none_held c.new-foreign.result c.new-foreign.ensures
