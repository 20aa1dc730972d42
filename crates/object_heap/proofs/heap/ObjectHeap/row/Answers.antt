use Rattle.std.proofs.Common.{ℕ, map, Option, None, refl, sym, ap, subst, ◌∙◌}
use Rattle.std.specs.Prelude.{option_and_then}
use Rattle.std.specs.Ordering.{nat_cmp}
use Rattle.letter_kinds.specs.Holdings.{Row}
use Rattle.plain_list.specs.Rising.{IsAt, IsGap}
use Rattle.row_store.specs.Lent.{IsLent}
use Rattle.row_store.specs.Memory.{remembered}
use Rattle.object_heap.specs.Entry.{joined, key_pair}
use Rattle.object_heap.specs.Heap.{blocks_in, rows_in}
use Rattle.object_heap.proofs.Entries.{none_at, own_row_here, not_ne}
use Rattle.object_heap.proofs.Kept.{gap_own, sorted_keys, told_is}
use Rattle.object_heap.proofs.Placed.{no_block, own_block_here}
use Rattle.object_heap.proofs.heap.ObjectHeap.row.Goals as goal

pub place_of-requires : goal.place_of-requires
place_of-requires c =
    let s = c.self.inside in
    rw c.as_slice.ensures.value (sorted_keys s.owner s.next (remembered s.memory) s.keys.items s.objects.items c.self.invariant)

pub lend-requires : goal.lend-requires
lend-requires c =
    let s = c.self.inside in
    let q = c.args.n.serial in
    let p = subst (λ keys. IsAt nat_cmp (map key_pair keys) q c.in-Ok.i) c.as_slice.ensures.value c.in-Ok.ensures in
    let its = told_is s.owner s.next (remembered s.memory) s.keys.items s.objects.items c.self.invariant q c.in-Ok.i c.index.result.now p c.index.ensures in
    (its.0.row, its.0.block, its.1)

pub returns-in-Ok : goal.returns-in-Ok
returns-in-Ok c =
    let s = c.self.inside in
    let all = joined (remembered s.memory) s.keys.items s.objects.items in
    let q = c.args.n.serial in
    let p = subst (λ keys. IsAt nat_cmp (map key_pair keys) q c.in-Ok.i) c.as_slice.ensures.value c.in-Ok.ensures in
    let its = told_is s.owner s.next (remembered s.memory) s.keys.items s.objects.items c.self.invariant q c.in-Ok.i c.index.result.now p c.index.ensures in
    let whose = not_ne c.args.n.owner s.owner (sym c.ne.ensures ∙ c.if-ne.false) ∙ ap (λ h. h.owner) c.self.view_is in
    let row = own_row_here c.args.self.now c.args.n (rows_in all) _ (ap (λ h. h.rows) c.self.view_is) whose refl ∙ its.2 in
    let block = sym (own_block_here c.args.self.now c.args.n (blocks_in all) its.0.block (ap (λ h. h.blocks) c.self.view_is) whose (sym its.3)) in
    subst (λ (l : Option Row × Option ℕ). IsLent l.0 l.1 c.lend.result) (λ j. (sym row j, sym block j)) (c.lend.ensures its.0.row its.0.block its.1)

pub returns-in-Err : goal.returns-in-Err
returns-in-Err c =
    let s = c.self.inside in
    let all = joined (remembered s.memory) s.keys.items s.objects.items in
    let q = c.args.n.serial in
    let p = subst (λ keys. IsGap nat_cmp (map key_pair keys) q c.in-Err.field-0) c.as_slice.ensures.value c.in-Err.ensures in
    let gap = gap_own s.owner s.next (remembered s.memory) s.keys.items s.objects.items c.self.invariant q c.in-Err.field-0 p in
    let whose = not_ne c.args.n.owner s.owner (sym c.ne.ensures ∙ c.if-ne.false) ∙ ap (λ h. h.owner) c.self.view_is in (
      own_row_here c.args.self.now c.args.n (rows_in all) None (ap (λ h. h.rows) c.self.view_is) whose (none_at s.next all c.self.invariant.own q c.in-Err.field-0 gap),
      sym (own_block_here c.args.self.now c.args.n (blocks_in all) None (ap (λ h. h.blocks) c.self.view_is) whose
          (sym (ap (option_and_then (λ b. b)) (no_block s.next all c.self.invariant.own q c.in-Err.field-0 gap)))),
    )
