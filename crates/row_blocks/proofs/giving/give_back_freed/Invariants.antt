use Rattle.object_heap.specs.Heap.{own_block}
use Rattle.row_blocks.specs.Blocks.{is_one_of}
use Rattle.row_blocks.proofs.GivenBack.{Gives}
use Rattle.row_blocks.proofs.giving.give_back_freed.Given as goal

abbrev pub invariant-loop-n : goal.invariant-loop-n
invariant-loop-n l = Gives (is_one_of l.gone) l.gone (own_block l.heap) l.fn.blocks l.blocks l.n-index
