-- Rows that go into free blocks.
use Rattle.std.proofs.Common.{◌≡◌, ◌≢◌, ◌⊎◌, ℕ, zero, suc, ◌+◌, List, [], ◌∷◌, ◌++◌, length, set, slice_get, Some, None, refl, sym, ap, subst, ◌∙◌, arith, inl, inr, ⊎_elim}
use Rattle.std.proofs.lemmas.Bool.{cases_eq}
use Rattle.std.proofs.lemmas.Option.{slice_get_within}
use Rattle.orca_names.specs.declared.names.ObjName.{ObjName}
use Rattle.block_table.specs.Blocks.{Blocks, fill, names_from}
use Rattle.block_table.proofs.Filling.{fill_first}
use Rattle.block_table.proofs.Telling.{get-set_other, get-set_same}
use Rattle.letter_kinds.specs.Holdings.{Row}
use Rattle.row_store.specs.Words.{CanPut, HoldsRow, IsRow, Words, with_row}
use Rattle.row_store.proofs.Blocks.{put_holds, put_keeps}
use Rattle.row_blocks.specs.Blocks.{LiePlaced, LiesIn, MayPutEach, MayPutFree, StillLie}

-- ---- words that may be written

-- those of each block: so those of the free ones
pub free_may : (blocks : Blocks) (places : List ℕ) → MayPutEach blocks places → MayPutFree blocks places
free_may blocks places may k free = may k (slice_get_within blocks k None free)

-- and those of as many others
pub still_may : (blocks later : Blocks) (places after : List ℕ) → length later ≡ length blocks → after ≡ places → MayPutEach blocks places → MayPutEach later after
still_may blocks later places after size same may k within = subst (CanPut k) (sym same) (may k (omega (arith, within, size)))

-- ---- one row

module _ (bs new : Blocks) (k : ℕ) (n : ObjName) (free : slice_get bs k ≡ Some None) (takes : new ≡ set bs k (Some n)) where
  -- a block that an object has is another
  another : (j : ℕ) (m : ObjName) → slice_get bs j ≡ Some (Some m) → j ≢ k
  another j m has same = let is = sym free ∙ ap (slice_get bs) (sym same) ∙ has in cc

  other_same : (j : ℕ) → j ≢ k → slice_get new j ≡ slice_get bs j
  other_same j other = ap (λ b. slice_get b j) takes ∙ get-set_other bs k j (Some n) other

  taken : slice_get new k ≡ Some (Some n)
  taken = ap (λ b. slice_get b k) takes ∙ get-set_same bs k (Some n) (slice_get_within bs k None free)

  pub may_put : (places more : List ℕ) → more ≡ places → MayPutFree bs places → MayPutFree new more
  may_put places more same may j e =
      subst (CanPut j) (sym same) (elim (cases_eq j k) as (λ _. CanPut j places) [
        | inl here ↦ may j (ap (slice_get bs) here ∙ free)
        | inr other ↦ may j (sym (other_same j other) ∙ e)
      ])

  module _ (row : Row) (known later : Words) (is : IsRow row) (puts : later ≡ with_row k row known) where
    pub lies_there : LiesIn n row k new later
    lies_there = record {
      has = taken;
      is_row = is;
      holds = subst (HoldsRow k row) (sym puts) (put_holds k row known);
    }

    pub others_lie : StillLie bs known new later
    others_lie m its j lies =
        let other = another j m lies.has in record {
          has = other_same j other ∙ lies.has;
          is_row = lies.is_row;
          holds = subst (HoldsRow j its) (sym puts)
              (put_keeps k j row its known (λ same. other (sym same)) is.few lies.is_row.few lies.holds);
        }

-- ---- rows one after another

-- one place more at the end
last_or : (xs : List ℕ) (x i y : ℕ) → slice_get (xs ++ x ∷ []) i ≡ Some y
    → (slice_get xs i ≡ Some y) ⊎ ((i ≡ length xs) × (x ≡ y))
last_or [] x zero y e = let same : x ≡ y = cc in inr (refl, same)
last_or [] x (suc i) y e = cc
last_or (z ∷ xs) x zero y e = inl e
last_or (z ∷ xs) x (suc i) y e =
    ⊎_elim (λ old. inl old) (λ last. inr (ap suc last.0, last.1)) (last_or xs x i y e)

-- one row more is placed
pub more_placed : (owner first : ℕ) (made : List Row) (placed more : List ℕ) (old new : Blocks) (known later : Words)
    (row : Row) (k : ℕ) → more ≡ placed ++ k ∷ [] → LiePlaced owner first made placed old known → StillLie old known new later
    → slice_get made (length placed) ≡ Some row
    → LiesIn (record { owner = owner; serial = first + length placed }) row k new later
    → LiePlaced owner first made more new later
more_placed owner first made placed more old new known later row k grown lie still at its = λ i its_row j e f. ⊎_elim
    (λ before. still _ its_row j (lie i its_row j e before))
    (λ last.
    let same : row ≡ its_row = some_one row its_row (sym at ∙ ap (slice_get made) (sym last.0) ∙ e) in
    subst (λ q. LiesIn (record { owner = owner; serial = first + q }) its_row j new later) (sym last.0)
    (subst (λ r. LiesIn (record { owner = owner; serial = first + length placed }) r j new later) same
    (subst (λ b. LiesIn (record { owner = owner; serial = first + length placed }) row b new later) last.1 its)))
    (last_or placed k i j (sym (ap (λ xs. slice_get xs i) grown) ∙ f))
  where
    some_one : (a b : Row) → Some a ≡ Some b → a ≡ b
    some_one a b e = cc

-- ---- names that take blocks

-- the first of them has its block already
pub first_filled : (owner serial named left all : ℕ) (old new : Blocks) → named ≡ serial → left + 1 ≡ all
    → new ≡ fill (record { owner = owner; serial = named } ∷ []) old
    → fill (names_from owner (serial + 1) left) new ≡ fill (names_from owner serial all) old
unfolding names_from
first_filled owner serial named left all old new is one takes =
    let next : serial + 1 ≡ suc serial = omega arith in
    let more : suc left ≡ all = omega arith in
    (λ i. fill (names_from owner (next i) left) (takes i))
    ∙ (ap (λ q. fill (names_from owner (suc serial) left) (fill (record { owner = owner; serial = q } ∷ []) old)) is
    ∙ (sym (fill_first (record { owner = owner; serial = serial }) (names_from owner (suc serial) left) old)
    ∙ ap (λ q. fill (names_from owner serial q) old) more))

pub none_filled : (owner serial : ℕ) (bs : Blocks) → fill (names_from owner serial 0) bs ≡ bs
unfolding names_from fill
none_filled owner serial bs = refl

-- where there are no blocks
pub nothing_filled : (bs : Blocks) (owner serial count : ℕ) → length bs ≡ 0 → bs ≡ fill (names_from owner serial count) bs
unfolding names_from fill
nothing_filled [] owner serial zero none = refl
nothing_filled [] owner serial (suc count) none = refl
nothing_filled (b ∷ bs) owner serial count none = absurd (omega arith)

-- ---- what is told
