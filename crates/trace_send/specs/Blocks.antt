-- Of a table of what is held, the blocks in which rows lie, after letters.
use Rattle.std.specs.Prelude.{ℕ, ◌==◌, if◌then◌else◌, List, [], ◌∷◌}
use Rattle.std.specs.FinMap as m
use Rattle.orca_names.specs.Names.{owner_of}
use Rattle.orca_names.specs.declared.names.Thing.{Thing}
use Rattle.row_store.specs.Told.{Lying}
use Rattle.letter_kinds.specs.Counting.{Amount}
use Rattle.foreign_table.specs.Table.{Blocks, block_at}

-- who takes a letter holds another's thing in the block that is told of it, or in none
abbrev pub block_received : ℕ → Thing × Lying → Blocks → Blocks
block_received me e blocks =
    if owner_of e.0 == me then blocks else m.insert blocks e.0 e.1.block

-- so it is with each thing of a load in its turn
unfoldable pub blocks_received : ℕ → List (Thing × Lying) → Blocks → Blocks
blocks_received me [] blocks = blocks
blocks_received me (e ∷ load) blocks = blocks_received me load (block_received me e blocks)

-- what is minted keeps its block; what was not held lies in none
unfoldable pub blocks_minted : List Amount → Blocks → Blocks
blocks_minted [] blocks = blocks
blocks_minted (e ∷ things) blocks =
    blocks_minted things (m.insert blocks e.0 (block_at blocks e.0))
