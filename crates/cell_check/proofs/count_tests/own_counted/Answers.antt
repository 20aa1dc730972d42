use Rattle.std.proofs.Common.{ap, subst, sym, ◌∙◌}
use Rattle.object_heap.specs.Heap.{AllHere, Blocks, Heap, block_at}
use Rattle.object_heap.proofs.Placed.{made_here}
use Rattle.cell_check.proofs.count_tests.own_counted.Goals as goal

pub returns : goal.returns
returns c = λ here k.
    let reserved : AllHere c.reserve.new.self = λ k. ap (λ (h : Heap). block_at h.blocks k) c.reserve.ensures.same ∙ here k in
    ap (λ (blocks : Blocks). block_at blocks k) c.count_once.ensures
    ∙ subst AllHere (sym c.make-object.ensures.made) (made_here c.of.result c.reserve.new.self reserved) k
