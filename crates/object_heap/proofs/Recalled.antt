-- Own rows that lie in blocks are remembered.
use Rattle.std.proofs.Common.{◌≡◌, ℕ, zero, suc, ◌<◌, ◌&&◌, Bool, true, false, cond, eqb, List, [], ◌∷◌, ◌++◌, get_or, map, Option, Some, None, IsSome, refl, sym, ap, ◌∙◌, subst, arith}
use Rattle.std.specs.Prelude.{is_some, option_and_then, option_map}
use Rattle.std.specs.List.{All}
use Rattle.std.specs.Ordering.{eq_by_cmp, nat_cmp}
use Rattle.std.specs.FinMap as m
use Rattle.std.specs.FinMap.Entries.{find}
use Rattle.std.proofs.lemmas.Bool.{eqb-true, false≢true, ne_eqb}
use Rattle.std.proofs.lemmas.Bool.Decides.{nat_tests}
use Rattle.std.proofs.lemmas.List.Elements.{All-append, All-head, All-tail}
use Rattle.letter_kinds.specs.Holdings.{Row}
use Rattle.orca_names.specs.declared.names.ObjName.{ObjName}
use Rattle.row_store.specs.Memory.{is_object}
use Rattle.row_store.specs.Standing.{AreRemembered}
use Rattle.row_store.proofs.Telling.{is_itself}
use Rattle.object_heap.specs.Entry.{IsRecalled, Own, block_of, named, pair_of}
use Rattle.object_heap.specs.Heap.{AreOwn, Heap, block_at, blocks_in, own_block, own_row, rows_in}
use Rattle.object_heap.proofs.Entries.{below_next}
use Rattle.object_heap.proofs.Placed.{rise}

-- ---- what is remembered is the row

module _ (memory : ObjName → Option Row) (owner q : ℕ) where
  abbrev pub name : ObjName
  name = record { owner = owner; serial = q }

  -- a row was found for it, and is what is remembered
  abbrev pub Found : Option (Row × ℕ) → Type 0
  Found rows = IsSome (option_map (λ e. e.0) rows) × (memory name ≡ option_map (λ e. e.0) rows)

  either : (b : Bool) (row : Row) (count : ℕ) (block : Option ℕ) (blocks : Option (Option ℕ)) (rows : Option (Row × ℕ))
      → (b ≡ true → IsSome block → memory name ≡ Some row)
      → (IsSome (option_and_then (λ o. o) blocks) → Found rows)
      → IsSome (option_and_then (λ o. o) (cond b (Some block) blocks))
      → Found (cond b (Some (row, count)) rows)
  either true row count block blocks rows here there lies = (refl, here refl lies)
  either false row count block blocks rows here there lies = there lies

  alike_true : (a b : ℕ) → eq_by_cmp nat_cmp a b ≡ true → a ≡ b
  alike_true a b e = grind (arith, nat_tests)

  found : (own : List Own) → All (IsRecalled memory owner) own
      → IsSome (option_and_then (λ o. o) (find nat_cmp q (map block_of own)))
      → Found (find nat_cmp q (map pair_of own))
  found [] recalled lies = absurd (false≢true lies)
  found (e ∷ own) recalled lies =
      either (eq_by_cmp nat_cmp q e.serial) e.row e.count e.block (find nat_cmp q (map block_of own)) (find nat_cmp q (map pair_of own))
      (λ same at. (λ j. memory (record { owner = owner; serial = alike_true q e.serial same j })) ∙ All-head (IsRecalled memory owner) e own recalled at)
      (λ there. found own (All-tail (IsRecalled memory owner) e own recalled) there) lies

module _ (memory : ObjName → Option Row) (owner next : ℕ) (own : List Own) (h : AreOwn next own) (recalled : All (IsRecalled memory owner) own) where
  pub serial_recalled : (q : ℕ) → IsSome (block_at (blocks_in own) q) → Found memory owner q (m.get (rows_in own) q)
  serial_recalled q lies =
      let pairs = m.get-entries (rows_in own) q ∙ ap (find nat_cmp q) (m.entries-from_sorted nat_cmp (map pair_of own) h.sorted) in
      let places = m.get-entries (blocks_in own) q ∙ ap (find nat_cmp q) (m.entries-from_sorted nat_cmp (map block_of own) (rise own h.sorted)) in
      subst (Found memory owner q) (sym pairs) (found memory owner q own recalled (subst (λ o. IsSome (option_and_then (λ b. b) o)) places lies))

  by_owner : (b : Bool) (n : ObjName) → (b ≡ true → n.owner ≡ owner) → IsSome (cond b (block_at (blocks_in own) n.serial) None)
      → IsSome (cond b (option_map (λ e. e.0) (m.get (rows_in own) n.serial)) None) × (memory n ≡ cond b (option_map (λ e. e.0) (m.get (rows_in own) n.serial)) None)
  by_owner true n mine lies =
      let its = serial_recalled n.serial lies in
      (its.0, (λ j. memory (record { owner = mine refl j; serial = n.serial })) ∙ its.1)
  by_owner false n mine lies = absurd (false≢true lies)

  module _ (heap : Heap) (whose : heap.owner ≡ owner) (rows : heap.rows ≡ rows_in own) (blocks : heap.blocks ≡ blocks_in own) where
    row_is : (n : ObjName) → own_row heap n ≡ cond (eqb n.owner owner) (option_map (λ e. e.0) (m.get (rows_in own) n.serial)) None
    row_is n = (λ j. cond (eqb n.owner (whose j)) (option_map (λ e. e.0) (m.get (rows j) n.serial)) None)

    block_is : (n : ObjName) → own_block heap n ≡ cond (eqb n.owner owner) (block_at (blocks_in own) n.serial) None
    block_is n = (λ j. cond (eqb n.owner (whose j)) (block_at (blocks j) n.serial) None)

    both : (n : ObjName) → IsSome (own_block heap n) → IsSome (own_row heap n) × (memory n ≡ own_row heap n)
    both n lies =
        let its = by_owner (eqb n.owner owner) n (λ same. eqb-true n.owner owner same) (subst IsSome (block_is n) lies) in
        (subst IsSome (sym (row_is n)) its.0, its.1 ∙ sym (row_is n))

    pub are_remembered : AreRemembered (own_row heap) (own_block heap) memory
    are_remembered = record {
      there = λ n lies. (both n lies).0;
      same = λ n lies. (both n lies).1;
    }

-- ---- one object more

other_serial : (b : Bool) (a k : ℕ) → eqb a k ≡ false → b && eqb a k ≡ false
other_serial true a k e = e
other_serial false a k e = refl

module _ (memory later : ObjName → Option Row) (owner next : ℕ) (row : Row) (own : List Own) (h : AreOwn next own) (recalled : All (IsRecalled memory owner) own)
    (grown : (k : ObjName) → later k ≡ cond (is_object (record { owner = owner; serial = next }) k) (Some row) (memory k)) where
  stays_recalled : All (IsRecalled later owner) own
  stays_recalled = λ i d l lies.
      let e = get_or own i d in
      let below : e.serial < next = below_next next own h i d l in
      let apart = other_serial (eqb owner owner) next e.serial (ne_eqb next e.serial (λ same. omega arith)) in
      grown (named owner e) ∙ ap (λ b. cond b (Some row) (memory (named owner e))) apart ∙ recalled i d l lies

  pub recalled_in : (e : Own) → e.serial ≡ next → e.row ≡ row → All (IsRecalled later owner) (own ++ e ∷ [])
  recalled_in e new same = All-append (IsRecalled later owner) own (e ∷ []) stays_recalled (λ i d l. one i d l)
    where
      its : IsRecalled later owner e
      its lies =
          (λ j. later (record { owner = owner; serial = new j }))
          ∙ grown (record { owner = owner; serial = next })
          ∙ ap (λ b. cond b (Some row) (memory (record { owner = owner; serial = next }))) (is_itself (record { owner = owner; serial = next }))
          ∙ ap Some (sym same)

      one : (i : ℕ) (d : Own) → i < 1 → IsRecalled later owner (get_or (e ∷ []) i d)
      one zero d l = its
      one (suc i) d l = absurd (omega arith)

-- and where its row is at hand
pub recalled_here : (memory : ObjName → Option Row) (owner : ℕ) (own : List Own) (e : Own) → e.block ≡ None → All (IsRecalled memory owner) own → All (IsRecalled memory owner) (own ++ e ∷ [])
recalled_here memory owner own e here recalled = All-append (IsRecalled memory owner) own (e ∷ []) recalled one
  where
    one : (i : ℕ) (d : Own) → i < 1 → IsRecalled memory owner (get_or (e ∷ []) i d)
    one zero d l = λ lies. absurd (false≢true (ap is_some (sym here) ∙ lies))
    one (suc i) d l = absurd (omega arith)
