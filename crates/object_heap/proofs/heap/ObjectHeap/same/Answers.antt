use Rattle.std.proofs.Common.{◌≡◌, sym, ap, ◌∙◌}
use Rattle.std.proofs.lemmas.Bool.{false≢true}
use Rattle.row_store.specs.Memory.{remembered}
use Rattle.object_heap.specs.Entry.{joined}
use Rattle.object_heap.specs.Heap.{block_at, blocks_in, rows_in}
use Rattle.object_heap.proofs.Entries.{not_ne}
use Rattle.object_heap.proofs.Kept.{are_here}
use Rattle.object_heap.proofs.Same.{blocks_alike, joined_here, same_kept}
use Rattle.object_heap.proofs.heap.ObjectHeap.same.Goals as goal

pub returns-then-not-same_keys-clause-same : goal.returns-then-not-same_keys-clause-same
returns-then-not-same_keys-clause-same c =
    let s = c.self.inside in
    let o = c.other.inside in
    let owner : s.owner ≡ o.owner = not_ne s.owner o.owner (sym c.ne.ensures ∙ c.if-ne.false) in (
      λ t. absurd (false≢true t),
      λ same.
          let rows = ap (λ h. h.rows) c.self.view_is ∙ same.2 ∙ sym (ap (λ h. h.rows) c.other.view_is) in
          let blocks = ap (λ h. h.blocks) c.self.view_is ∙ same.3 ∙ sym (ap (λ h. h.blocks) c.other.view_is) in
          let known = same_kept s.owner o.owner s.next o.next (remembered s.memory) (remembered o.memory) s.keys.items o.keys.items s.objects.items o.objects.items c.self.invariant c.other.invariant owner rows blocks in
          absurd (false≢true (sym c.if-not-same_keys.true ∙ c.same_keys.ensures.1 (c.as_slice.ensures.value ∙ known.0 ∙ sym c.as_slice-2.ensures.value))),
    )

pub returns-clause-same : goal.returns-clause-same
returns-clause-same c =
    let s = c.self.inside in
    let o = c.other.inside in
    let owner : s.owner ≡ o.owner = not_ne s.owner o.owner (sym c.ne.ensures ∙ c.if-ne.false) in (
      λ t.
          let next : s.next ≡ o.next = c.if-self-other.false in
          let keys = sym c.as_slice.ensures.value ∙ c.same_keys.ensures.0 c.if-not-same_keys.false ∙ c.as_slice-2.ensures.value in
          let objects = sym c.as_slice-3.ensures.value ∙ c.same_objects.ensures.0 t ∙ c.as_slice-4.ensures.value in
          let here = are_here s.owner s.next (remembered s.memory) s.keys.items s.objects.items c.self.invariant (λ q. ap (λ h. block_at h.blocks q) c.self.view_is ∙ c.requires q) in
          let own = joined_here (remembered s.memory) (remembered o.memory) s.keys.items s.objects.items here ∙ (λ j. joined (remembered o.memory) (keys j) (objects j)) in (
            sym (ap (λ h. h.owner) c.self.view_is) ∙ owner ∙ ap (λ h. h.owner) c.other.view_is,
            sym (ap (λ h. h.next) c.self.view_is) ∙ next ∙ ap (λ h. h.next) c.other.view_is,
            sym (ap (λ h. h.rows) c.self.view_is) ∙ ap rows_in own ∙ ap (λ h. h.rows) c.other.view_is,
            sym (ap (λ h. h.blocks) c.self.view_is) ∙ ap blocks_in own ∙ ap (λ h. h.blocks) c.other.view_is,
          ),
      λ same.
          let rows = ap (λ h. h.rows) c.self.view_is ∙ same.2 ∙ sym (ap (λ h. h.rows) c.other.view_is) in
          let blocks = ap (λ h. h.blocks) c.self.view_is ∙ same.3 ∙ sym (ap (λ h. h.blocks) c.other.view_is) in
          let known = same_kept s.owner o.owner s.next o.next (remembered s.memory) (remembered o.memory) s.keys.items o.keys.items s.objects.items o.objects.items c.self.invariant c.other.invariant owner rows blocks in
          c.same_objects.ensures.1 (c.as_slice-3.ensures.value ∙ known.1 ∙ sym c.as_slice-4.ensures.value),
    )

pub returns-then-ne-clause-alike : goal.returns-then-ne-clause-alike
returns-then-ne-clause-alike c = λ there same.
    let s = c.self.inside in
    let o = c.other.inside in
    sym (ap (λ h. h.blocks) c.self.view_is)
    ∙ blocks_alike s.owner o.owner s.next o.next (remembered s.memory) (remembered o.memory) s.keys.items o.keys.items s.objects.items o.objects.items c.self.invariant c.other.invariant
    (λ q. ap (λ h. block_at h.blocks q) c.self.view_is ∙ c.requires q) (λ q. ap (λ h. block_at h.blocks q) c.other.view_is ∙ there q)
    (ap (λ h. h.rows) c.self.view_is ∙ same ∙ sym (ap (λ h. h.rows) c.other.view_is))
    ∙ ap (λ h. h.blocks) c.other.view_is

pub returns-then-self-other-clause-alike : goal.returns-then-self-other-clause-alike
returns-then-self-other-clause-alike c = λ there same.
    let s = c.self.inside in
    let o = c.other.inside in
    sym (ap (λ h. h.blocks) c.self.view_is)
    ∙ blocks_alike s.owner o.owner s.next o.next (remembered s.memory) (remembered o.memory) s.keys.items o.keys.items s.objects.items o.objects.items c.self.invariant c.other.invariant
    (λ q. ap (λ h. block_at h.blocks q) c.self.view_is ∙ c.requires q) (λ q. ap (λ h. block_at h.blocks q) c.other.view_is ∙ there q)
    (ap (λ h. h.rows) c.self.view_is ∙ same ∙ sym (ap (λ h. h.rows) c.other.view_is))
    ∙ ap (λ h. h.blocks) c.other.view_is

pub returns-then-not-same_keys-clause-alike : goal.returns-then-not-same_keys-clause-alike
returns-then-not-same_keys-clause-alike c = λ there same.
    let s = c.self.inside in
    let o = c.other.inside in
    sym (ap (λ h. h.blocks) c.self.view_is)
    ∙ blocks_alike s.owner o.owner s.next o.next (remembered s.memory) (remembered o.memory) s.keys.items o.keys.items s.objects.items o.objects.items c.self.invariant c.other.invariant
    (λ q. ap (λ h. block_at h.blocks q) c.self.view_is ∙ c.requires q) (λ q. ap (λ h. block_at h.blocks q) c.other.view_is ∙ there q)
    (ap (λ h. h.rows) c.self.view_is ∙ same ∙ sym (ap (λ h. h.rows) c.other.view_is))
    ∙ ap (λ h. h.blocks) c.other.view_is

pub returns-clause-alike : goal.returns-clause-alike
returns-clause-alike c = λ there same.
    let s = c.self.inside in
    let o = c.other.inside in
    sym (ap (λ h. h.blocks) c.self.view_is)
    ∙ blocks_alike s.owner o.owner s.next o.next (remembered s.memory) (remembered o.memory) s.keys.items o.keys.items s.objects.items o.objects.items c.self.invariant c.other.invariant
    (λ q. ap (λ h. block_at h.blocks q) c.self.view_is ∙ c.requires q) (λ q. ap (λ h. block_at h.blocks q) c.other.view_is ∙ there q)
    (ap (λ h. h.rows) c.self.view_is ∙ same ∙ sym (ap (λ h. h.rows) c.other.view_is))
    ∙ ap (λ h. h.blocks) c.other.view_is
