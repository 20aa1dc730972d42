use Rattle.std.proofs.Common.{◌≡◌, ◌+◌, ◌-◌, [], ◌∷◌, ◌++◌, cond, Some, refl, ap, ◌∙◌, arith}
use Rattle.std.specs.Prelude.{min, vec_len, vec_capacity}
use Rattle.orca_names.specs.declared.names.Thing.TheVariants.{Obj}
use Rattle.row_store.specs.Memory.{is_object, remembered}
use Rattle.row_store.specs.declared.told.Told.TheVariants.{In}
use Rattle.object_heap.specs.Entry.{joined}
use Rattle.object_heap.specs.Heap.{with_new}
use Rattle.object_heap.proofs.Making.{new_blocks, new_own, new_rows, new_stored}
use Rattle.object_heap.proofs.Recalled.{recalled_in}
use Rattle.object_heap.proofs.heap.ObjectHeap.make_in.Goals as goal

pub invariant_of-self : goal.invariant_of-self
invariant_of-self c =
    let s = c.self.inside in
    let memory = remembered s.memory in
    let own = joined memory s.keys.items s.objects.items in
    let objects = c.push_reserved.ensures.items ∙ (λ j. s.objects.items ++ (Obj (c.name_of-name.ensures j), In c.args.block) ∷ []) in
    new_stored s.owner s.next memory (remembered c.know.new.self) s.keys.items _ s.objects.items _ c.self.invariant c.args.row.now (Some c.args.block) c.push_key.ensures.items objects
    (recalled_in memory (remembered c.know.new.self) s.owner s.next c.args.row.now own c.self.invariant.own c.self.invariant.recalled (λ k. c.know.ensures k ∙ ap (λ n. cond (is_object n k) (Some c.args.row.now) (memory k)) c.name_of.ensures) (new_own s.next c.args.row.now (Some c.args.block)) refl refl)

pub returns-clause-made : goal.returns-clause-made
returns-clause-made c =
    let s = c.self.inside in
    let memory = remembered s.memory in
    let own = joined memory s.keys.items s.objects.items in
    let objects = c.push_reserved.ensures.items ∙ (λ j. s.objects.items ++ (Obj (c.name_of-name.ensures j), In c.args.block) ∷ []) in
    let recalled = recalled_in memory (remembered c.know.new.self) s.owner s.next c.args.row.now own c.self.invariant.own c.self.invariant.recalled (λ k. c.know.ensures k ∙ ap (λ n. cond (is_object n k) (Some c.args.row.now) (memory k)) c.name_of.ensures) (new_own s.next c.args.row.now (Some c.args.block)) refl refl in
    let room : min (vec_capacity c.push_key.new.keys - vec_len c.push_key.new.keys) (vec_capacity c.push_reserved.new.self - vec_len c.push_reserved.new.self) ≡ min (vec_capacity s.keys - vec_len s.keys) (vec_capacity s.objects - vec_len s.objects) - 1 =
    omega arith in
    let rows = new_rows s.owner s.next memory (remembered c.know.new.self) s.keys.items _ s.objects.items _ c.self.invariant c.args.row.now (Some c.args.block) c.push_key.ensures.items objects recalled in
    let blocks = new_blocks s.owner s.next memory (remembered c.know.new.self) s.keys.items _ s.objects.items _ c.self.invariant c.args.row.now (Some c.args.block) c.push_key.ensures.items objects recalled in
    (λ j. record { owner = s.owner; next = s.next + 1; spare = room j; rows = rows j; blocks = blocks j })
    ∙ ap (with_new (c.args.row.now ∷ []) ((Some c.args.block) ∷ [])) c.self.view_is
