-- What a cell tells of rows in blocks.
use Rattle.std.specs.Prelude.{ℕ, ◌≡◌, ◌⊎◌, ◌++◌, ◌∷◌, ◌≤◌, ⊤, List, [], Option, Some, IsSome, drop, length, slice_get}
use Rattle.std.specs.FinMap as m
use Rattle.orca_names.specs.declared.names.Thing.{Thing}
use Rattle.orca_names.specs.declared.names.Thing.TheVariants.{Obj}
use Rattle.row_store.specs.Told.{Lying}
use Rattle.letter_kinds.specs.Holdings.{Row}
use Rattle.letter_kinds.specs.Telling.{Telling}
use Rattle.object_heap.specs.Heap.{Heap, own_block, own_row}
use Rattle.object_heap.specs.Heap as heaps
use Rattle.foreign_table.specs.Table.{Table, block_at, known_block, known_row}
use Rattle.row_table.specs.Table.{KnownRows}
use Rattle.actor_cell.specs.Moves as moves
use Rattle.actor_cell.specs.Moves.{Move}
use Rattle.actor_cell.specs.declared.cell.Cell.{Cell}
use Rattle.actor_cell.specs.declared.found.Found.{Found}
use Rattle.actor_cell.specs.declared.found.Found.TheVariants.{Goes, Collects, Nothing}
use Rattle.actor_cell.specs.declared.turning.Doing.{Doing}
use Rattle.actor_cell.specs.declared.turning.Doing.TheVariants.{Post, Mint, New, Print, End, Rest}
use Rattle.actor_cell.specs.declared.turning.Turned.{Turned}

-- for each of these rows its block, where there is one: the first for the first
abbrev pub blocks_for : List Row → List ℕ → List (Option ℕ)
blocks_for [] blocks = []
blocks_for (row ∷ rows) blocks = slice_get blocks 0 ∷ blocks_for rows (drop 1 blocks)

-- the own objects tell that the row of the object is this and lies in the block
abbrev pub OwnTells : Heap → Telling
OwnTells heap n row block = (own_row heap n ≡ Some row) × (own_block heap n ≡ Some block)

-- the row of each own object lies in a block
abbrev pub AllIn : Heap → Type 0
AllIn h =
    (serial : ℕ) → IsSome (m.get h.rows serial) → IsSome (heaps.block_at h.blocks serial)

-- each of these rows gets a block; an actor that mints first makes no row
abbrev pub PutsAll : List Row → Move → List ℕ → Type 0
PutsAll made (moves.Mint owner things) blocks = ⊤
PutsAll made act blocks = length made ≤ length blocks

-- the things that are held tell so
abbrev pub HeldTells : Table → Telling
HeldTells t n row block = (known_row t n ≡ Some row) × (known_block t n ≡ Some block)

-- the rows that letters brought tell so
abbrev pub BroughtTells : KnownRows → Telling
BroughtTells t n row block =
    (m.get t.rows (Obj n) ≡ Some row) × (block_at t.blocks (Obj n) ≡ Some block)

-- the cell tells so in one of these ways
abbrev pub Tells : Cell → Telling
Tells c n row block =
    OwnTells c.heap n row block ⊎ (HeldTells c.foreign n row block ⊎ BroughtTells c.known n row block)

-- these, where a letter is sent
abbrev pub where_sent : Doing → List (Thing × Lying) → List (Thing × Lying)
where_sent (Post to behaviour) brought = brought
where_sent (Mint owner) brought = []
where_sent (New kind register) brought = []
where_sent (Print value) brought = []
where_sent End brought = []
where_sent Rest brought = []

-- what the letter that was found brings, where there is one
abbrev pub told_out : Turned → List (Thing × Lying)
told_out t = where_sent t.doing (t.load ++ t.rows)

-- what the letter of the turn that was found brings, where there is one
abbrev pub told_found : Found → List (Thing × Lying)
told_found (Goes turn turned) = told_out turned
told_found (Collects sweep) = []
told_found Nothing = []
