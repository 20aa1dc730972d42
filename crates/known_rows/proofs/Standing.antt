-- Rows of both tables that lie in blocks: what is remembered of them, and what a turn leaves of that.
use Rattle.std.proofs.Common.{◌≡◌, ◌==◌, ℕ, Bool, true, false, cond, List, Option, None, Some, IsSome, refl, sym, ap, subst, ◌∙◌}
use Rattle.std.specs.Prelude.{if◌then◌else◌, is_some}
use Rattle.orca_names.specs.declared.names.ObjName.{ObjName}
use Rattle.orca_names.specs.declared.names.Thing.TheVariants.{Obj}
use Rattle.row_store.specs.Standing.{AreRemembered, Stand}
use Rattle.row_store.specs.Words.{Words}
use Rattle.row_store.proofs.Standing.{fewer_stand}
use Rattle.letter_kinds.specs.Holdings.{Row, row_of, with_made}
use Rattle.object_heap.specs.Heap.{Heap, own_block, own_row}
use Rattle.object_heap.specs.Heap as heaps
use Rattle.foreign_table.specs.Table.{Table, known_block, known_row}
use Rattle.foreign_table.specs.Table as tables
use Rattle.known_rows.specs.Holdings.{holdings_of}
use Rattle.known_rows.specs.InTurn.{made_in_turn, turn_block}
use Rattle.known_rows.specs.Known.{block_known, row_known, row_known-row_of}
use Rattle.known_rows.proofs.Made.{or_before, row_of-made}

-- what both tables remember
module _ (heap : Heap) (foreign : Table) (own others : ObjName → Option Row)
    (mine : AreRemembered (own_row heap) (own_block heap) own)
    (theirs : AreRemembered (known_row foreign) (known_block foreign) others) where
  there_by : (b : Bool) (n : ObjName) → IsSome (cond b (own_block heap n) (known_block foreign n))
      → IsSome (cond b (own_row heap n) (known_row foreign n))
  there_by true n some = mine.there n some
  there_by false n some = theirs.there n some

  same_by : (b : Bool) (n : ObjName) → IsSome (cond b (own_block heap n) (known_block foreign n))
      → cond b (own n) (others n) ≡ cond b (own_row heap n) (known_row foreign n)
  same_by true n some = mine.same n some
  same_by false n some = theirs.same n some

  pub both_remembered : (memory : ObjName → Option Row) (owner : ℕ) → owner ≡ heap.owner
      → ((n : ObjName) → memory n ≡ (if n.owner == owner then own n else others n))
      → AreRemembered (row_known heap foreign) (block_known heap foreign) memory
  both_remembered memory owner whose parted = record {
    there = λ n some. there_by (n.owner == heap.owner) n some;
    same = λ n some. parted n ∙ ap (λ a. cond (n.owner == a) (own n) (others n)) whose ∙ same_by (n.owner == heap.owner) n some;
  }

module _ (heap : Heap) (foreign : Table) (made : List Row) where
  abbrev in_turn : ObjName → Option Row
  in_turn n = row_of heap.owner (with_made made (holdings_of 0 heap foreign)) n

  -- what lies in a block in the turn lay there before
  lay_before : (n : ObjName) (o : Option Row) → made_in_turn heap.owner heap.next made n ≡ o → IsSome (turn_block made heap foreign n)
      → (in_turn n ≡ row_known heap foreign n) × (turn_block made heap foreign n ≡ block_known heap foreign n)
  lay_before n None e some =
      let h = holdings_of 0 heap foreign in
      (row_of-made heap.owner made h n ∙ ap (λ m. or_before m (row_of heap.owner h n)) e ∙ sym (row_known-row_of 0 heap foreign n), ap (λ m. if is_some m then None else block_known heap foreign n) e)
  lay_before n (Some row) e some =
      let none = subst IsSome (ap (λ m. if is_some m then None else block_known heap foreign n) e) some in cc

  -- so what stood before the turn stands in it
  pub turn_stands : (known : Words) → Stand (row_known heap foreign) (block_known heap foreign) known → Stand in_turn (turn_block made heap foreign) known
  turn_stands known stand =
      fewer_stand (row_known heap foreign) (block_known heap foreign) known stand in_turn (turn_block made heap foreign)
      (λ n row block e f. let was = lay_before n (made_in_turn heap.owner heap.next made n) refl (subst IsSome (sym f) refl) in (sym was.0 ∙ e, sym was.1 ∙ f))

  -- and what was remembered is
  pub turn_remembered : (memory : ObjName → Option Row) → AreRemembered (row_known heap foreign) (block_known heap foreign) memory → AreRemembered in_turn (turn_block made heap foreign) memory
  turn_remembered memory known = record {
    there = λ n some. let was = lay_before n (made_in_turn heap.owner heap.next made n) refl some in subst IsSome (sym was.0) (known.there n (subst IsSome was.1 some));
    same = λ n some. let was = lay_before n (made_in_turn heap.owner heap.next made n) refl some in known.same n (subst IsSome was.1 some) ∙ sym was.0;
  }

-- ---- where no row lies in a block

pub none_own : (heap : Heap) → heaps.AllHere heap → (n : ObjName) → own_block heap n ≡ None
none_own heap here n = by (n.owner == heap.owner)
  where
    by : (b : Bool) → cond b (heaps.block_at heap.blocks n.serial) None ≡ None
    by true = here n.serial
    by false = refl

pub none_known : (heap : Heap) (foreign : Table) → heaps.AllHere heap → tables.AllHere foreign → (n : ObjName) → block_known heap foreign n ≡ None
none_known heap foreign own held n = by (n.owner == heap.owner)
  where
    by : (b : Bool) → cond b (own_block heap n) (known_block foreign n) ≡ None
    by true = none_own heap own n
    by false = held (Obj n)
