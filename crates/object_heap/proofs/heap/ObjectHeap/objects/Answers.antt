use Rattle.std.proofs.Common.{ap, ◌∙◌}
use Rattle.row_store.specs.Memory.{remembered}
use Rattle.object_heap.specs.Heap.{own_objects}
use Rattle.object_heap.proofs.Kept.{objects_view}
use Rattle.object_heap.proofs.heap.ObjectHeap.objects.Goals as goal

pub returns : goal.returns
returns c =
    let s = c.self.inside in
    c.as_slice.ensures.value ∙ objects_view s.owner s.next (remembered s.memory) s.keys.items s.objects.items c.self.invariant ∙ ap own_objects c.self.view_is
