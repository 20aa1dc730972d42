-- Own objects: how they are kept, and as entries of a map from serials.
use Rattle.std.specs.Prelude.{ℕ, ◌≡◌, ◌+◌, List, [], ◌∷◌, Option, Some, IsSome, T, map, slice_get, slice_index_or, unwrap_or}
use Rattle.std.specs.Ordering.{nat_cmp}
use Rattle.std.specs.FinMap.Entries.{is_sorted}
use Rattle.plain_list.specs.Rising.{IsGap}
use Rattle.orca_names.specs.declared.names.ObjName.{ObjName}
use Rattle.orca_names.specs.declared.names.Thing.{Thing}
use Rattle.orca_names.specs.declared.names.Thing.TheVariants.{Obj}
use Rattle.letter_kinds.specs.Holdings.{Row}
use Rattle.row_store.specs.Told.{told_block, told_of, told_row}
use Rattle.row_store.specs.declared.told.Told.{Told}
use Rattle.object_heap.specs.declared.search.Key.{Key}

-- an own object, and the block in which its row lies, if it does
pub record Own : Type 0 where
  pub serial : ℕ
  pub count : ℕ
  pub row : Row
  pub block : Option ℕ

abbrev pub pair_of : Own → ℕ × (Row × ℕ)
pair_of e = (e.serial, (e.row, e.count))

abbrev pub block_of : Own → ℕ × Option ℕ
block_of e = (e.serial, e.block)

abbrev pub key_pair : Key → ℕ × ℕ
key_pair k = (k.serial, k.count)

abbrev pub serial_in : Key → ℕ
serial_in k = k.serial

-- keys rise, and one of them has the serial
abbrev pub HasKey : List Key → ℕ → Type 0
HasKey keys serial =
    T (is_sorted nat_cmp (map key_pair keys))
    × ((i : ℕ) → IsGap nat_cmp (map key_pair keys) serial i → ⊥)

-- what is kept of it: its key, and the thing with its row as a load has it
abbrev pub key_of : Own → Key
key_of e = record { serial = e.serial; count = e.count }

abbrev pub Item : Type 0
Item = Thing × Told

-- the object's name
abbrev pub named : ℕ → Own → ObjName
named owner e = record { owner = owner; serial = e.serial }

abbrev pub object_of : ℕ → Own → Item
object_of owner e = (Obj (named owner e), told_of e.row e.block)

-- these are kept so, each at its place
abbrev pub AreKept : ℕ → List Key → List Item → List Own → Type 0
AreKept owner keys objects own = (keys ≡ map key_of own) × (objects ≡ map (object_of owner) own)

-- a row that lies in a block is remembered
abbrev pub IsRecalled : (ObjName → Option Row) → ℕ → Own → Type 0
IsRecalled memory owner e = IsSome e.block → memory (named owner e) ≡ Some e.row

-- what is kept so, where rows in blocks are remembered as these
abbrev pub joined : (ObjName → Option Row) → List Key → List Item → List Own
joined memory [] objects = []
joined memory (k ∷ keys) [] = []
joined memory (k ∷ keys) (e ∷ objects) =
    record {
      serial = k.serial;
      count = k.count;
      row = unwrap_or (told_row memory e.0 e.1) [];
      block = told_block e.1;
    }
    ∷ joined memory keys objects

-- the first serial; 0 where there is none
abbrev pub first_of : List ℕ → ℕ
first_of serials = slice_index_or serials 0 0

-- none is missing from the first one on
abbrev pub FollowOn : List ℕ → Type 0
FollowOn serials = (i k : ℕ) → slice_get serials i ≡ Some k → k ≡ first_of serials + i
