use Rattle.std.proofs.Common.{sym, ap}
use Rattle.row_store.specs.Memory.{remembered}
use Rattle.object_heap.specs.Entry.{joined}
use Rattle.object_heap.proofs.Recalled.{are_remembered}
use Rattle.object_heap.proofs.heap.ObjectHeap.memory.Goals as goal

pub returns : goal.returns
returns c =
    let s = c.self.inside in
    let memory = remembered s.memory in
    are_remembered memory s.owner s.next (joined memory s.keys.items s.objects.items) c.self.invariant.own c.self.invariant.recalled c.args.self.now
    (sym (ap (λ h. h.owner) c.self.view_is)) (sym (ap (λ h. h.rows) c.self.view_is)) (sym (ap (λ h. h.blocks) c.self.view_is))
