use Rattle.block_table.specs.Blocks.{free_blocks}
use Rattle.block_table.specs.Told.{AreTold}
use Rattle.block_table.proofs.table.numbers_below.Given as goal

abbrev pub invariant-loop-number : goal.invariant-loop-number
invariant-loop-number l = AreTold (free_blocks l.number) l.set l.number
