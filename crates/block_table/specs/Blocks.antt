-- Which block each object's row has.
use Rattle.std.specs.Prelude.{ℕ, ◌≡◌, zero, suc, ◌+◌, List, [], ◌∷◌, replicate, slice_get, Option, Some, None}
use Rattle.orca_names.specs.declared.names.ObjName.{ObjName}

-- for each block the object whose row lies in it; none where it is free
abbrev pub Blocks : Type 0
Blocks = List (Option ObjName)

-- so many blocks, all of them free
abbrev pub free_blocks : ℕ → Blocks
free_blocks count = replicate count None

-- so many names of an owner, from this serial on
unfoldable pub names_from : ℕ → ℕ → ℕ → List ObjName
names_from owner serial zero = []
names_from owner serial (suc count) =
    record { owner = owner; serial = serial } ∷ names_from owner (suc serial) count

-- these take the lowest free blocks, in their order
unfoldable pub fill : List ObjName → Blocks → Blocks
fill [] blocks = blocks
fill (n ∷ ns) [] = []
fill (n ∷ ns) (None ∷ blocks) = Some n ∷ fill ns blocks
fill (n ∷ ns) (Some m ∷ blocks) = Some m ∷ fill (n ∷ ns) blocks

-- no object has two blocks
abbrev pub OneBlockEach : Blocks → Type 0
OneBlockEach blocks = (j k : ℕ) (n : ObjName) → slice_get blocks j ≡ Some (Some n)
    → slice_get blocks k ≡ Some (Some n) → j ≡ k

-- one where the block is free
abbrev pub is_free : Option ObjName → ℕ
is_free None = 1
is_free (Some n) = 0

-- how many blocks are free
abbrev pub count_free : Blocks → ℕ
count_free [] = 0
count_free (b ∷ blocks) = is_free b + count_free blocks
