-- The heap of an actor.
use Rattle.std.specs.Prelude.{ℕ, ◌≡◌, ◌+◌, ◌-◌, ◌==◌, ◌≤◌, if◌then◌else◌, suc, List, [], ◌∷◌, Option, None, T, refl, length, map, IsSome, option_and_then, option_map}
use Rattle.std.specs.List.{All}
use Rattle.std.specs.Ordering.{nat_cmp}
use Rattle.std.specs.FinMap as m
use Rattle.std.specs.FinMap.Entries.{is_sorted}
use Rattle.std.specs.Coded.{Coded, code_by, coded×, coded_ℕ, coded_option}
use Rattle.orca_names.specs.Codes.{coded_row}
use Rattle.orca_names.specs.declared.names.ObjName.{ObjName}
use Rattle.orca_names.specs.declared.names.Thing.TheVariants.{Obj}
use Rattle.letter_kinds.specs.Counting.{with_row_count}
use Rattle.letter_kinds.specs.Holdings.{OwnRows, Row, add_rows}
use Rattle.row_store.specs.Told.{told_of}
use Rattle.object_heap.specs.declared.search.Key.{Key}
use Rattle.object_heap.specs.Entry.{AreKept, IsRecalled, Item, Own, block_of, joined, pair_of}

-- for each object the block in which its row lies, if it does
abbrev pub Blocks : Type 0
Blocks = m.FinMap nat_cmp (Option ℕ)

-- whose it is, the serial of the next object, the room for new ones, and the objects
pub record Heap : Type 0 where
  pub owner : ℕ
  pub next : ℕ
  pub spare : ℕ
  pub rows : OwnRows
  pub blocks : Blocks

abbrev pub coded_rows : Coded OwnRows
coded_rows = m.code coded_ℕ (coded× coded_row coded_ℕ)

abbrev pub coded_blocks : Coded Blocks
coded_blocks = m.code coded_ℕ (coded_option coded_ℕ)

abbrev pub coded_heap : Coded Heap
coded_heap =
    code_by (ℕ × (ℕ × (ℕ × (OwnRows × Blocks))))
    (coded× coded_ℕ (coded× coded_ℕ (coded× coded_ℕ (coded× coded_rows coded_blocks))))
    (λ h. (h.owner, (h.next, (h.spare, (h.rows, h.blocks)))))
    (λ p. record { owner = p.0; next = p.1.0; spare = p.1.1.0; rows = p.1.1.1.0; blocks = p.1.1.1.1 })
    (λ _. refl)

-- the map of these objects
abbrev pub rows_in : List Own → OwnRows
rows_in own = m.from_sorted (map pair_of own)

-- and that of their blocks
abbrev pub blocks_in : List Own → Blocks
blocks_in own = m.from_sorted (map block_of own)

-- serials rise, and none is the next or a later one
pub record AreOwn (next : ℕ) (own : List Own) : Type 0 where
  pub sorted : T (is_sorted nat_cmp (map pair_of own))
  pub below : (k : ℕ) → next ≤ k → m.get (rows_in own) k ≡ None

-- the objects as they are kept, and those in blocks are remembered
pub record AreStored (owner next : ℕ) (memory : ObjName → Option Row) (keys : List Key)
    (objects : List Item) : Type 0 where
  pub own : AreOwn next (joined memory keys objects)
  pub kept : AreKept owner keys objects (joined memory keys objects)
  pub recalled : All (IsRecalled memory owner) (joined memory keys objects)

-- the block of a serial, if it has one
abbrev pub block_at : Blocks → ℕ → Option ℕ
block_at blocks serial = option_and_then (λ b. b) (m.get blocks serial)

-- an object with its row, as a load has it
abbrev pub own_object : ℕ → Blocks → ℕ × (Row × ℕ) → Item
own_object owner blocks e =
    (Obj (record { owner = owner; serial = e.0 }), told_of e.1.0 (block_at blocks e.0))

-- the objects with their rows, as a load has them
abbrev pub own_objects : Heap → List Item
own_objects h = map (own_object h.owner h.blocks) (m.entries h.rows)

-- no row lies in a block
abbrev pub AllHere : Heap → Type 0
AllHere h = (serial : ℕ) → block_at h.blocks serial ≡ None

-- an object of this actor that is there
pub record Has (h : Heap) (n : ObjName) : Type 0 where
  pub owner : n.owner ≡ h.owner
  pub there : IsSome (m.get h.rows n.serial)

-- its count changed
abbrev pub counted : (ℕ → ℕ) → ObjName → Heap → Heap
counted change n h =
    record h { rows = with_row_count h.rows n.serial change (m.get h.rows n.serial) }

-- new objects, from this serial on, lie in these blocks
unfoldable pub add_blocks : ℕ → List (Option ℕ) → Blocks → Blocks
add_blocks serial [] blocks = blocks
add_blocks serial (b ∷ made) blocks = add_blocks (suc serial) made (m.insert blocks serial b)

-- objects more, each with count 0: their rows, and the blocks in which these lie, as many
abbrev pub with_new : List Row → List (Option ℕ) → Heap → Heap
with_new made blocks h =
    record h {
      next = h.next + length made;
      spare = h.spare - length made;
      rows = add_rows h.next made h.rows;
      blocks = add_blocks h.next blocks h.blocks;
    }

-- one object less
abbrev pub without : ObjName → Heap → Heap
without n h =
    record h {
      spare = h.spare + 1;
      rows = m.remove h.rows n.serial;
      blocks = m.remove h.blocks n.serial;
    }

-- the row of an object of this actor
abbrev pub own_row : Heap → ObjName → Option Row
own_row h n =
    if n.owner == h.owner then option_map (λ e. e.0) (m.get h.rows n.serial) else None

-- the block of an object of this actor
abbrev pub own_block : Heap → ObjName → Option ℕ
own_block h n = if n.owner == h.owner then block_at h.blocks n.serial else None

-- all but the room for new objects is the same
abbrev pub IsSame : Heap → Heap → Type 0
IsSame g h =
    (g.owner ≡ h.owner) × (g.next ≡ h.next) × (g.rows ≡ h.rows) × (g.blocks ≡ h.blocks)
