-- What is told of blocks.
use Rattle.std.specs.Prelude.{ℕ, ◌≡◌, ◌≤◌, Bool, false, List, length, is_none, slice_get, slice_index_or, Some, None}
use Rattle.std.specs.Option.{option_map_or}
use Rattle.orca_names.specs.declared.names.ObjName.{ObjName}
use Rattle.block_table.specs.declared.table.TheConstants.{BLOCKS_LIMIT}
use Rattle.block_table.specs.Blocks.{Blocks, count_free}

-- the lowest of the free blocks
pub record IsLowestFree (blocks : Blocks) (k : ℕ) : Type 0 where
  pub free : slice_get blocks k ≡ Some None
  pub lowest : (j : ℕ) → slice_get blocks j ≡ Some None → k ≤ j

-- an object has the block
abbrev pub HasObject : Blocks → ℕ → Type 0
HasObject blocks k = (n : ObjName) × (slice_get blocks k ≡ Some (Some n))

-- each of these blocks, which are few enough, has a place, on exactly where it is free, and so many are free
pub record AreTold (blocks : Blocks) (free : List Bool) (count : ℕ) : Type 0 where
  pub at : (k : ℕ) → slice_index_or free k false ≡ option_map_or is_none (slice_get blocks k) false
  pub long : length blocks ≤ length free
  pub few : length blocks ≤ BLOCKS_LIMIT
  pub counted : count ≡ count_free blocks
