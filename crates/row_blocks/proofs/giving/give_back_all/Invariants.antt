use Rattle.std.specs.Prelude.{◌==◌}
use Rattle.object_heap.specs.Heap.{own_block}
use Rattle.row_blocks.proofs.GivenBack.{Gives}
use Rattle.row_blocks.proofs.Owning.{own_names}
use Rattle.row_blocks.proofs.giving.give_back_all.Given as goal

abbrev pub invariant-loop-entry : goal.invariant-loop-entry
invariant-loop-entry l =
    Gives (λ n. n.owner == l.fn.heap.owner) (own_names l.fn.heap) (own_block l.fn.heap) l.fn.blocks l.blocks l.entry-index
