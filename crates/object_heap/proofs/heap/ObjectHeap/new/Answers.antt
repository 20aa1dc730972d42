use Rattle.std.proofs.Common.{refl, ◌≡◌, ◌-◌, [], ap, ◌∙◌, arith}
use Rattle.std.specs.Prelude.{min, vec_len, vec_capacity}
use Rattle.std.proofs.lemmas.List.Elements.{All-nil}
use Rattle.row_store.specs.Memory.{remembered}
use Rattle.object_heap.specs.Entry.{AreKept, IsRecalled}
use Rattle.object_heap.specs.Heap.{blocks_in, rows_in}
use Rattle.object_heap.proofs.Entries.{no_rows, no_own}
use Rattle.object_heap.proofs.Kept.{kept_joined, stored}
use Rattle.object_heap.proofs.Placed.{no_blocks}
use Rattle.object_heap.proofs.heap.ObjectHeap.new.Goals as goal

pub invariant_of-result : goal.invariant_of-result
invariant_of-result c =
    let kept : AreKept c.args.owner c.new.result.items c.new-2.result.items [] = (c.new.ensures.items, c.new-2.ensures.items) in
    stored c.args.owner _ _ [] kept (remembered c.new-3.result) (All-nil (IsRecalled (remembered c.new-3.result) c.args.owner)) 0 (no_own [] refl)

pub returns : goal.returns
returns c =
    let kept : AreKept c.args.owner c.new.result.items c.new-2.result.items [] = (c.new.ensures.items, c.new-2.ensures.items) in
    let room : min (vec_capacity c.new.result - vec_len c.new.result) (vec_capacity c.new-2.result - vec_len c.new-2.result) ≡ 0 = omega arith in
    let memory = remembered c.new-3.result in
    let own = kept_joined c.args.owner _ _ [] kept memory (All-nil (IsRecalled memory c.args.owner)) in
    let rows = ap rows_in own ∙ no_rows [] refl in
    let blocks = ap blocks_in own ∙ no_blocks [] refl in
    λ j. record { owner = c.args.owner; next = 0; spare = room j; rows = rows j; blocks = blocks j }
