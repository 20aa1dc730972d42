-- A machine, and the words of its blocks.
use Rattle.std.specs.Prelude.{ℕ, List}
use Rattle.row_store.specs.Words.{Words}
use Rattle.row_blocks.specs.Blocks.{MayPutEach}
use Rattle.orca_core.specs.Machine.{Machine, NoneIsAway, Stand}

-- no cell is away, these words hold what the machine tells of rows in its blocks, and those of each
-- block may be written
pub record Stands (m : Machine) (known : Words) (places : List ℕ) : Type 0 where
  pub home : NoneIsAway m
  pub stand : Stand known m
  pub put : MayPutEach m.blocks places
