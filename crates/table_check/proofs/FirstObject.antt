-- A heap whose only object has its row in a block.
use Rattle.std.proofs.Common.{◌≡◌, ℕ, zero, suc, ◌+◌, ◌*◌, ◌≤◌, ◌<◌, Bool, true, false, cond, List, [], ◌∷◌, length, slice_get, Option, Some, None, IsSome, refl, sym, ap, subst, ◌∙◌, arith}
use Rattle.std.specs.Prelude.{◌==◌, option_and_then, option_map}
use Rattle.std.specs.FinMap as m
use Rattle.std.specs.Ordering.{eq_by_cmp, nat_cmp}
use Rattle.std.specs.Cmp.{nat_cmp_total}
use Rattle.std.proofs.lemmas.Bool.{eqb-true}
use Rattle.std.proofs.lemmas.Bool.Decides.{nat_tests}
use Rattle.std.proofs.lemmas.Option.{slice_get_within}
use Rattle.orca_names.specs.declared.names.ObjName.{ObjName}
use Rattle.block_table.specs.Blocks.{OneBlockEach, Blocks, fill, free_blocks}
use Rattle.letter_kinds.specs.Holdings.{Row, add_rows}
use Rattle.object_heap.specs.Free.{SerialsRise}
use Rattle.object_heap.specs.Heap.{Has, Heap, add_blocks, block_at, own_block, own_row, with_new}
use Rattle.row_store.specs.Vectors.{places_in}
use Rattle.row_store.specs.Words.{HasRow, Words}
use Rattle.row_store.proofs.Blocks.{can_put_all}
use Rattle.row_blocks.specs.Blocks.{LiesIn, MayPutFree, OwnLie}
use Rattle.table_check.specs.Fresh.{IsFresh}

-- ---- words

-- all blocks of long enough words may be written
pub may_put_all : (bs : Blocks) (ws : List ℕ) → length bs * 17 ≤ length ws → MayPutFree bs (places_in ws)
may_put_all bs ws long = λ k e. can_put_all k ws (let l = slice_get_within bs k None e in omega (arith, long))

pub has_row : (n : ObjName) (row : Row) (k : ℕ) (bs : Blocks) (known : Words) → LiesIn n row k bs known → HasRow k known
has_row n row k bs known lies = (row, lies.is_row, lies.holds)

-- ---- the object

abbrev pub first : ObjName
first = record { owner = 4; serial = 0 }

module _ (heap later : Heap) (row : Row) (k : ℕ) (fresh : IsFresh 4 heap) (made : later ≡ with_new (row ∷ []) (Some k ∷ []) heap) where
  owner_is : later.owner ≡ 4
  owner_is = ap (λ (h : Heap). h.owner) made ∙ fresh.owner

  rows_is : later.rows ≡ m.insert m.empty 0 (row, 0)
  unfolding add_rows
  rows_is = ap (λ (h : Heap). h.rows) made ∙ (λ i. m.insert (fresh.rows i) (fresh.next i) (row, 0))

  blocks_is : later.blocks ≡ m.insert m.empty 0 (Some k)
  unfolding add_blocks
  blocks_is = ap (λ (h : Heap). h.blocks) made ∙ (λ i. m.insert (fresh.blocks i) (fresh.next i) (Some k))

  row_at : (q : ℕ) → m.get later.rows q ≡ cond (eq_by_cmp nat_cmp q 0) (Some (row, 0)) None
  row_at q =
      ap (λ rows. m.get rows q) rows_is ∙ m.get-insert nat_cmp_total m.empty 0 (row, 0) q
      ∙ ap (cond (eq_by_cmp nat_cmp q 0) (Some (row, 0))) (m.get-empty nat_cmp q)

  place_at : (q : ℕ) → m.get later.blocks q ≡ cond (eq_by_cmp nat_cmp q 0) (Some (Some k)) None
  place_at q =
      ap (λ blocks. m.get blocks q) blocks_is ∙ m.get-insert nat_cmp_total m.empty 0 (Some k) q
      ∙ ap (cond (eq_by_cmp nat_cmp q 0) (Some (Some k))) (m.get-empty nat_cmp q)

  -- whose row is there is the one, and has the block
  is_first : (n : ObjName) (its : Row) → own_row later n ≡ Some its → (n ≡ first) × (own_block later n ≡ Some k)
  is_first n its e = by (n.owner == 4) (eq_by_cmp nat_cmp n.serial 0) refl refl
      (sym (λ i. cond (n.owner == owner_is i) (option_map (λ (x : Row × ℕ). x.0) (row_at n.serial i)) None) ∙ e)
    where
      serial_is : (q : ℕ) → eq_by_cmp nat_cmp q 0 ≡ true → q ≡ 0
      serial_is q e = grind (arith, nat_tests)

      by : (b c : Bool) → (n.owner == 4) ≡ b → eq_by_cmp nat_cmp n.serial 0 ≡ c
          → cond (n.owner == 4) (option_map (λ (x : Row × ℕ). x.0) (cond (eq_by_cmp nat_cmp n.serial 0) (Some (row, 0)) None)) None ≡ Some its
          → (n ≡ first) × (own_block later n ≡ Some k)
      by true true p q h = (
        λ i. record { owner = eqb-true n.owner 4 p i; serial = serial_is n.serial q i },
        (λ i. cond (n.owner == owner_is i) (option_and_then (λ (o : Option ℕ). o) (place_at n.serial i)) None)
            ∙ (λ i. cond (p i) (option_and_then (λ (o : Option ℕ). o) (cond (q i) (Some (Some k)) None)) None),
      )
      by true false p q h =
          let none = sym (λ i. cond (p i) (option_map (λ (x : Row × ℕ). x.0) (cond {A = Option (Row × ℕ)} (q i) (Some (row, 0)) None)) None) ∙ h in cc
      by false c p q h =
          let none = sym (ap (λ b. cond b (option_map (λ (x : Row × ℕ). x.0) (cond {A = Option (Row × ℕ)} (eq_by_cmp nat_cmp n.serial 0) (Some (row, 0)) None)) None) p) ∙ h in cc

  pub first_lies : (bs : Blocks) → slice_get bs k ≡ Some (Some first) → OneBlockEach bs → OwnLie later bs
  first_lies bs has once = record {
    lie = λ n its e. subst IsSome (sym (is_first n its e).1) refl;
    kept = λ n its j e f.
        let one = is_first n its e in
        let same : k ≡ j = some_one k j (sym one.1 ∙ f) in
        ap (slice_get bs) (sym same) ∙ has ∙ ap (λ x. Some (Some x)) (sym one.0);
    once = once;
  }
    where
      some_one : (a b : ℕ) → Some a ≡ Some b → a ≡ b
      some_one a b e = cc

  pub first_there : Has later first
  first_there = record { owner = sym owner_is; there = subst IsSome (sym (row_at 0)) refl }

pub one_there : (heap : Heap) (x : ObjName) → Has heap x → (i : ℕ) (n : ObjName) → slice_get (x ∷ []) i ≡ Some n → Has heap n
one_there heap x has zero n e = let same : x ≡ n = cc in subst (Has heap) same has
one_there heap x has (suc i) n e = cc

-- ---- the blocks

one_taken : (n : ObjName) → OneBlockEach (Some n ∷ None ∷ [])
one_taken n zero zero m e f = refl
one_taken n zero (suc zero) m e f = cc
one_taken n zero (suc (suc k)) m e f = cc
one_taken n (suc zero) k m e f = cc
one_taken n (suc (suc j)) k m e f = cc

pub taken_once : (n : ObjName) (bs new : Blocks) → bs ≡ free_blocks 2 → new ≡ fill (n ∷ []) bs → OneBlockEach new
unfolding fill
taken_once n bs new free takes = subst OneBlockEach (sym (takes ∙ ap (fill (n ∷ [])) free)) (one_taken n)
