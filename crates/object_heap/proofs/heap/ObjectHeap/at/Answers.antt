use Rattle.std.proofs.Common.{◌≡◌, ℕ, ◌<◌, length, slice_get, Option, Some, sym, ap, ◌∙◌, subst, arith}
use Rattle.std.specs.Prelude.{option_and_then}
use Rattle.std.specs.FinMap as m
use Rattle.row_store.specs.Lent.{IsLent}
use Rattle.row_store.specs.Memory.{remembered}
use Rattle.object_heap.specs.Entry.{joined}
use Rattle.object_heap.specs.Heap.{block_at}
use Rattle.object_heap.proofs.Entries.{len_here, entry_here}
use Rattle.object_heap.proofs.Kept.{keys_long, object_at, objects_long}
use Rattle.object_heap.proofs.Placed.{block_there}
use Rattle.object_heap.proofs.heap.ObjectHeap.at.Goals as goal

pub index-key-requires : goal.index-key-requires
index-key-requires c =
    let s = c.self.inside in
    let all = joined (remembered s.memory) s.keys.items s.objects.items in
    let e = len_here s.next all c.self.invariant.own in
    let f = ap (λ h. m.len h.rows) c.self.view_is in
    let l = keys_long s.owner s.keys.items s.objects.items all c.self.invariant.kept in
    omega (arith, s.keys.ok.0)

pub index-requires : goal.index-requires
index-requires c =
    let s = c.self.inside in
    let all = joined (remembered s.memory) s.keys.items s.objects.items in
    let e = len_here s.next all c.self.invariant.own in
    let f = ap (λ h. m.len h.rows) c.self.view_is in
    let l = objects_long s.owner s.keys.items s.objects.items all c.self.invariant.kept in
    omega (arith, s.objects.ok.0)

pub lend-requires : goal.lend-requires
lend-requires c =
    let s = c.self.inside in
    let all = joined (remembered s.memory) s.keys.items s.objects.items in
    let e = len_here s.next all c.self.invariant.own in
    let f = ap (λ h. m.len h.rows) c.self.view_is in
    let l : c.args.i < length all = omega arith in
    let its = object_at s.owner s.keys.items s.objects.items all c.self.invariant.kept c.args.i l in
    (its.0.row, its.0.block, ap (λ x. x.1) (its.3 c.index.result.now c.index.ensures))

pub returns-clause-entry : goal.returns-clause-entry
returns-clause-entry c =
    let s = c.self.inside in
    let all = joined (remembered s.memory) s.keys.items s.objects.items in
    let e = len_here s.next all c.self.invariant.own in
    let f = ap (λ h. m.len h.rows) c.self.view_is in
    let l : c.args.i < length all = omega arith in
    let its = object_at s.owner s.keys.items s.objects.items all c.self.invariant.kept c.args.i l in
    let key = its.2 c.index-key.result.now c.index-key.ensures in
    let serial : its.0.serial ≡ c.of.result = sym (c.of.ensures ∙ ap (λ k. k.serial) key) in
    let count : its.0.count ≡ c.get.result = sym (c.get.ensures.count ∙ ap (λ k. k.count) key) in
    let block : its.0.block ≡ block_at c.args.self.now.blocks c.of.result =
    sym (ap (option_and_then (λ b. b)) (block_there s.next all c.self.invariant.own c.args.i its.0 l its.1))
    ∙ (λ j. block_at ((ap (λ h. h.blocks) c.self.view_is) j) (serial j)) in (
      its.0.row,
      ap (λ h. slice_get (m.entries h.rows) c.args.i) (sym c.self.view_is)
          ∙ entry_here s.next all c.self.invariant.own c.args.i its.0 l its.1
          ∙ (λ j. Some (serial j, (its.0.row, count j))),
      subst (λ (b : Option ℕ). IsLent (Some its.0.row) b c.lend.result) block
          (c.lend.ensures its.0.row its.0.block (ap (λ x. x.1) (its.3 c.index.result.now c.index.ensures))),
    )
