use Rattle.std.proofs.Common.{◌≡◌, ◌+◌, ◌-◌, map, sym, ap, subst, ◌∙◌, arith}
use Rattle.std.specs.Prelude.{min, is_some, vec_len, vec_capacity}
use Rattle.std.specs.List.{remove}
use Rattle.std.specs.Ordering.{nat_cmp}
use Rattle.std.specs.FinMap as m
use Rattle.plain_list.specs.Rising.{IsAt}
use Rattle.row_store.specs.Memory.{remembered}
use Rattle.object_heap.specs.Entry.{joined, key_pair}
use Rattle.object_heap.specs.Heap.{AreStored, blocks_in, rows_in, without}
use Rattle.object_heap.proofs.Kept.{at_within, has_key, keys_long, less_map, less_place, less_stored, objects_long}
use Rattle.object_heap.proofs.heap.ObjectHeap.remove.Goals as goal

pub place_there-i-requires : goal.place_there-i-requires
place_there-i-requires c =
    let s = c.self.inside in
    rw c.as_slice.ensures.value (has_key s.owner s.next (remembered s.memory) s.keys.items s.objects.items c.self.invariant c.args.n.serial (ap (λ h. is_some (m.get h.rows c.args.n.serial)) c.self.view_is ∙ c.requires.there.there))

pub invariant_of-self : goal.invariant_of-self
invariant_of-self c =
    let s = c.self.inside in
    let i = c.place_there-i.result in
    let p = subst (λ keys. IsAt nat_cmp (map key_pair keys) c.args.n.serial i) c.as_slice.ensures.value c.place_there-i.ensures in
    subst (λ keys. AreStored s.owner s.next (remembered s.memory) keys c.remove-2.new.self.items) (sym c.remove.ensures.items)
    (subst (λ objects. AreStored s.owner s.next (remembered s.memory) (remove s.keys.items i) objects) (sym c.remove-2.ensures.items)
    (less_stored s.owner s.next (remembered s.memory) s.keys.items s.objects.items c.self.invariant c.args.n.serial i p))

pub returns : goal.returns
returns c =
    let s = c.self.inside in
    let ks = s.keys.items in
    let xs = s.objects.items in
    let i = c.place_there-i.result in
    let p = subst (λ keys. IsAt nat_cmp (map key_pair keys) c.args.n.serial i) c.as_slice.ensures.value c.place_there-i.ensures in
    let within = at_within s.owner s.next (remembered s.memory) ks xs c.self.invariant c.args.n.serial i p in
    let long = keys_long s.owner ks xs (joined (remembered s.memory) ks xs) c.self.invariant.kept in
    let wide = objects_long s.owner ks xs (joined (remembered s.memory) ks xs) c.self.invariant.kept in
    let room : min (vec_capacity c.remove.new.self - vec_len c.remove.new.self) (vec_capacity c.remove-2.new.self - vec_len c.remove-2.new.self) ≡ min (vec_capacity s.keys - vec_len s.keys) (vec_capacity s.objects - vec_len s.objects) + 1 =
    omega (arith, s.keys.ok, s.objects.ok) in
    let rows = (λ j. rows_in (joined (remembered s.memory) (c.remove.ensures.items j) (c.remove-2.ensures.items j))) ∙ less_map s.owner s.next (remembered s.memory) ks xs c.self.invariant c.args.n.serial i p in
    let blocks = (λ j. blocks_in (joined (remembered s.memory) (c.remove.ensures.items j) (c.remove-2.ensures.items j))) ∙ less_place s.owner s.next (remembered s.memory) ks xs c.self.invariant c.args.n.serial i p in
    (λ j. record { owner = s.owner; next = s.next; spare = room j; rows = rows j; blocks = blocks j }) ∙ ap (without c.args.n) c.self.view_is
