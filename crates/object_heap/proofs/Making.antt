-- A new object among those that are kept.
use Rattle.std.proofs.Common.{◌≡◌, ℕ, ◌+◌, List, [], ◌∷◌, ◌++◌, Option, refl, ap, ◌∙◌}
use Rattle.std.specs.List.{All}
use Rattle.letter_kinds.specs.Holdings.{Row, add_rows}
use Rattle.orca_names.specs.declared.names.ObjName.{ObjName}
use Rattle.object_heap.specs.declared.search.Key.{Key}
use Rattle.object_heap.specs.Entry.{AreKept, IsRecalled, Item, Own, joined, key_of, object_of}
use Rattle.object_heap.specs.Heap.{AreStored, add_blocks, blocks_in, rows_in}
use Rattle.object_heap.proofs.Entries.{add_one, made_own, made_rows}
use Rattle.object_heap.proofs.Kept.{kept_add, kept_joined, stored}
use Rattle.object_heap.proofs.Placed.{add_one_block, made_blocks}

-- the next object, with count 0
abbrev pub new_own : ℕ → Row → Option ℕ → Own
new_own next row block = record { serial = next; count = 0; row = row; block = block }

module _ (owner next : ℕ) (memory later : ObjName → Option Row) (keys ks : List Key) (objects xs : List Item) (s : AreStored owner next memory keys objects) (row : Row) (block : Option ℕ)
    (keys_are : ks ≡ keys ++ key_of (new_own next row block) ∷ []) (objects_are : xs ≡ objects ++ object_of owner (new_own next row block) ∷ [])
    (recalled : All (IsRecalled later owner) (joined memory keys objects ++ new_own next row block ∷ [])) where
  abbrev own : List Own
  own = joined memory keys objects

  abbrev new : Own
  new = new_own next row block

  abbrev kept : AreKept owner ks xs (own ++ new ∷ [])
  kept = let add = kept_add owner keys objects own s.kept new in (keys_are ∙ add.0, objects_are ∙ add.1)

  pub new_stored : AreStored owner (next + 1) later ks xs
  new_stored = stored owner ks xs (own ++ new ∷ []) kept later recalled (next + 1) (made_own next own new s.own refl)

  pub new_rows : rows_in (joined later ks xs) ≡ add_rows next (row ∷ []) (rows_in own)
  new_rows =
      ap rows_in (kept_joined owner ks xs (own ++ new ∷ []) kept later recalled)
      ∙ made_rows next own new s.own refl ∙ add_one next row (rows_in own)

  pub new_blocks : blocks_in (joined later ks xs) ≡ add_blocks next (block ∷ []) (blocks_in own)
  new_blocks =
      ap blocks_in (kept_joined owner ks xs (own ++ new ∷ []) kept later recalled)
      ∙ made_blocks next own s.own new refl ∙ add_one_block next block (blocks_in own)
