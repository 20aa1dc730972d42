use Rattle.std.proofs.Common.{◌≡◌, ◌+◌, ◌-◌, ◌<◌, ◌≤◌, ◌∷◌, drop, length, sym, ap, ◌∙◌, arith}
use Rattle.object_heap.specs.Heap.{Heap, with_new}
use Rattle.actor_cell.specs.Tells.{blocks_for}
use Rattle.actor_cell.proofs.Going.{next_block, with_new-cons, with_new-nil}
use Rattle.std.proofs.lemmas.List.{drop_all}
use Rattle.trace_send.proofs.Steps.{rest_of}
use Rattle.actor_cell.proofs.apply.make_all.Goals as goal

pub loop-i-preserved : goal.loop-i-preserved
loop-i-preserved c =
    let made = c.args.made.now in
    let blocks = c.args.blocks.now in
    let i = c.loop-i.i in
    let row = c.index-made-i.result in
    let heap = c.loop-i.heap in
    let l : i < length made = omega arith in
    let rest = rest_of made i row l c.index-made-i.is in
    let made_one = c.make_one.ensures in
    let later = drop (i + 1) made in
    let next : c.make_one.new.heap.next ≡ heap.next + 1 = ap (λ (h : Heap). h.next) made_one in
    let spare : c.make_one.new.heap.spare ≡ heap.spare - 1 = ap (λ (h : Heap). h.spare) made_one in
    record {
      heap = ap (with_new later (blocks_for later (drop (i + 1) blocks))) made_one
          ∙ with_new-cons row c.block_at.result later (blocks_for later (drop (i + 1) blocks)) heap
          ∙ ap (λ b. with_new (row ∷ later) (b ∷ blocks_for later (drop (i + 1) blocks)) heap) c.block_at.ensures
          ∙ ap (λ bs. with_new (row ∷ later) bs heap) (sym (next_block row later blocks i))
          ∙ ap (λ xs. with_new xs (blocks_for xs (drop i blocks)) heap) (sym rest) ∙ c.loop-i.invariant.heap;
      next = omega arith;
      spare = omega arith;
    }

pub returns : goal.returns
returns c =
    let made = c.args.made.now in
    let i = c.loop-i.i in
    let heap = c.loop-i.heap in
    let past : length made ≤ i = omega arith in
    let done = drop_all i made past in
    sym (with_new-nil heap) ∙ ap (λ xs. with_new xs (blocks_for xs (drop i c.args.blocks.now)) heap) (sym done) ∙ c.loop-i.invariant.heap
