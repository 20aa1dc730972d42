use Rattle.std.proofs.Common.{map, sym, ap, ◌∙◌}
use Rattle.std.specs.FinMap as m
use Rattle.row_store.specs.Memory.{remembered}
use Rattle.object_heap.specs.Entry.{first_of, serial_in}
use Rattle.object_heap.proofs.Kept.{keys_view}
use Rattle.object_heap.proofs.heap.ObjectHeap.first_serial.Goals as goal

pub returns : goal.returns
returns c =
    let s = c.self.inside in
    c.first_serial.ensures ∙ ap (λ ks. first_of (map serial_in ks)) c.as_slice.ensures.value
    ∙ ap first_of (sym (keys_view s.owner s.next (remembered s.memory) s.keys.items s.objects.items c.self.invariant)) ∙ ap (λ h. first_of (m.keys h.rows)) c.self.view_is
