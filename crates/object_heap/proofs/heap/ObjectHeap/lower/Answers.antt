use Rattle.std.proofs.Common.{◌-◌, map, sym, ap, subst, ◌∙◌, arith}
use Rattle.std.specs.Prelude.{min, is_some, vec_len, vec_capacity}
use Rattle.std.specs.Ordering.{nat_cmp}
use Rattle.std.specs.FinMap as m
use Rattle.plain_list.specs.Rising.{IsAt}
use Rattle.letter_kinds.specs.Holdings.{row_count}
use Rattle.row_store.specs.Memory.{remembered}
use Rattle.object_heap.specs.Entry.{key_pair}
use Rattle.object_heap.specs.Heap.{counted}
use Rattle.object_heap.proofs.Kept.{count_is, counted_map, counted_place, counted_stored, has_key}
use Rattle.object_heap.proofs.heap.ObjectHeap.lower.Goals as goal

pub place_there-i-requires : goal.place_there-i-requires
place_there-i-requires c =
    let s = c.self.inside in
    rw c.as_slice.ensures.value (has_key s.owner s.next (remembered s.memory) s.keys.items s.objects.items c.self.invariant c.args.n.serial (ap (λ h. is_some (m.get h.rows c.args.n.serial)) c.self.view_is ∙ c.requires.there.there))

pub lower-requires : goal.lower-requires
lower-requires c =
    let s = c.self.inside in
    let ks = s.keys.items in
    let xs = s.objects.items in
    let p = subst (λ keys. IsAt nat_cmp (map key_pair keys) c.args.n.serial c.place_there-i.result) c.as_slice.ensures.value c.place_there-i.ensures in
    let here = count_is s.owner s.next (remembered s.memory) ks xs c.self.invariant c.args.n.serial c.place_there-i.result c.index_mut.result.now p c.index_mut.ensures.value in
    let seen = ap (λ h. row_count (m.get h.rows c.args.n.serial)) c.self.view_is in
    omega arith

pub invariant_of-self : goal.invariant_of-self
invariant_of-self c =
    let s = c.self.inside in
    let ks = s.keys.items in
    let xs = s.objects.items in
    let p = subst (λ keys. IsAt nat_cmp (map key_pair keys) c.args.n.serial c.place_there-i.result) c.as_slice.ensures.value c.place_there-i.ensures in
    counted_stored s.owner s.next (remembered s.memory) ks xs c.self.invariant c.args.n.serial c.place_there-i.result c.lower.new.self c.index_mut.result.now p c.index_mut.ensures.value

pub returns : goal.returns
returns c =
    let s = c.self.inside in
    let ks = s.keys.items in
    let xs = s.objects.items in
    let p = subst (λ keys. IsAt nat_cmp (map key_pair keys) c.args.n.serial c.place_there-i.result) c.as_slice.ensures.value c.place_there-i.ensures in
    let placed = counted_place s.owner s.next (remembered s.memory) ks xs c.self.invariant c.args.n.serial c.place_there-i.result c.lower.new.self c.index_mut.result.now p c.index_mut.ensures.value in
    let rows = counted_map s.owner s.next (remembered s.memory) ks xs c.self.invariant c.args.n.serial c.place_there-i.result c.lower.new.self c.index_mut.result.now p c.index_mut.ensures.value (λ count. count - c.args.by) (sym c.lower.ensures) in
    (λ j. record { owner = s.owner; next = s.next; spare = min (vec_capacity s.keys - vec_len s.keys) (vec_capacity s.objects - vec_len s.objects); rows = rows j; blocks = placed j })
    ∙ ap (counted (λ count. count - c.args.by) c.args.n) c.self.view_is
