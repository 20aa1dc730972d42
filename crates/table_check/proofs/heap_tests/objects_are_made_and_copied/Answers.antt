use Rattle.std.proofs.Common.{ap}
use Rattle.object_heap.specs.Heap.{Heap}
use Rattle.table_check.proofs.Here.{new_here}
use Rattle.table_check.proofs.heap_tests.objects_are_made_and_copied.Goals as goal

pub makes_two-holds-requires : goal.makes_two-holds-requires
makes_two-holds-requires g c = new_here c.new-heap.result (ap (λ (h : Heap). h.blocks) c.new-heap.ensures)
