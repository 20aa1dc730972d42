use Rattle.std.proofs.Common.{map, sym, ap, subst, ◌∙◌}
use Rattle.std.specs.Prelude.{◌↔◌, IsTrue}
use Rattle.std.specs.FinMap as m
use Rattle.row_store.specs.Memory.{remembered}
use Rattle.object_heap.specs.Entry.{FollowOn, serial_in}
use Rattle.object_heap.proofs.Kept.{keys_view, sorted_keys}
use Rattle.object_heap.proofs.heap.ObjectHeap.is_whole.Goals as goal

pub follow_on-requires : goal.follow_on-requires
follow_on-requires c =
    let s = c.self.inside in
    rw c.as_slice.ensures.value (sorted_keys s.owner s.next (remembered s.memory) s.keys.items s.objects.items c.self.invariant)

pub returns : goal.returns
returns c =
    let s = c.self.inside in
    let same = ap (map serial_in) c.as_slice.ensures.value ∙ sym (keys_view s.owner s.next (remembered s.memory) s.keys.items s.objects.items c.self.invariant) ∙ ap (λ h. m.keys h.rows) c.self.view_is in
    subst (λ serials. IsTrue c.follow_on.result ↔ FollowOn serials) same c.follow_on.ensures
