-- Rows that lie in the blocks of their objects.
use Rattle.std.specs.Prelude.{ℕ, ◌≡◌, ◌+◌, ◌<◌, Bool, if◌then◌else◌, List, length, map, slice_get, Option, None, Some, IsSome}
use Rattle.std.specs.List.{list_any}
use Rattle.orca_names.specs.declared.names.ObjName.{ObjName}
use Rattle.block_table.specs.Blocks.{Blocks, OneBlockEach}
use Rattle.letter_kinds.specs.Holdings.{Row}
use Rattle.object_heap.specs.Heap.{Heap, own_block, own_row}
use Rattle.row_store.specs.Memory.{is_object}
use Rattle.row_store.specs.Words.{CanPut, HoldsRow, IsRow, Words}

-- the words of each free block may be written
abbrev pub MayPutFree : Blocks → List ℕ → Type 0
MayPutFree blocks places = (k : ℕ) → slice_get blocks k ≡ Some None → CanPut k places

-- so may those of each block
abbrev pub MayPutEach : Blocks → List ℕ → Type 0
MayPutEach blocks places = (k : ℕ) → k < length blocks → CanPut k places

-- ---- rows that came into blocks

-- the object has the block, and the row lies in it
pub record LiesIn (n : ObjName) (row : Row) (k : ℕ) (blocks : Blocks) (known : Words) : Type 0 where
  pub has : slice_get blocks k ≡ Some (Some n)
  pub is_row : IsRow row
  pub holds : HoldsRow k row known

-- a row that lies in the block of its object lies there still
abbrev pub StillLie : Blocks → Words → Blocks → Words → Type 0
StillLie old known new later = (n : ObjName) (row : Row) (k : ℕ)
    → LiesIn n row k old known → LiesIn n row k new later

-- the i-th of these rows, of the owner's object with the i-th serial from the first on, lies in the
-- i-th of these blocks
abbrev pub LiePlaced : ℕ → ℕ → List Row → List ℕ → Blocks → Words → Type 0
LiePlaced owner first made placed blocks known = (i : ℕ) (row : Row) (k : ℕ)
    → slice_get made i ≡ Some row → slice_get placed i ≡ Some k
    → LiesIn (record { owner = owner; serial = first + i }) row k blocks known

-- ---- blocks that are given back

-- the block is free if its object is one of these
abbrev pub free_if : (ObjName → Bool) → Option ObjName → Option ObjName
free_if gone None = None
free_if gone (Some n) = if gone n then None else Some n

-- the blocks of these objects are free
abbrev pub without : (ObjName → Bool) → Blocks → Blocks
without gone blocks = map (free_if gone) blocks

-- whether the object is one of these
abbrev pub is_one_of : List ObjName → ObjName → Bool
is_one_of names n = list_any (λ m. is_object m n) names

-- each row of the heap lies in the one block of its object
pub record OwnLie (heap : Heap) (blocks : Blocks) : Type 0 where
  pub lie : (n : ObjName) (row : Row) → own_row heap n ≡ Some row → IsSome (own_block heap n)
  pub kept : (n : ObjName) (row : Row) (k : ℕ) → own_row heap n ≡ Some row
      → own_block heap n ≡ Some k → slice_get blocks k ≡ Some (Some n)
  pub once : OneBlockEach blocks

-- whose owner is that of the heap has its row there
abbrev pub OwnAreThere : Heap → Blocks → Type 0
OwnAreThere heap blocks = (k : ℕ) (n : ObjName) → slice_get blocks k ≡ Some (Some n)
    → n.owner ≡ heap.owner → IsSome (own_row heap n)
