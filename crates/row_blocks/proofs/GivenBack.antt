-- Blocks that are given back, one after another.
use Rattle.std.proofs.Common.{◌≡◌, ◌≢◌, ℕ, zero, suc, ◌+◌, ◌<◌, ◌≤◌, Bool, true, false, cond, List, [], ◌∷◌, length, set, slice_get, Option, Some, None, refl, sym, ap, ◌∙◌, arith, inl, inr}
use Rattle.std.proofs.lemmas.Bool.{cases_eq, cases_lt}
use Rattle.std.proofs.lemmas.Option.{get_or_from_slice_get, slice_get_within}
use Rattle.orca_names.specs.declared.names.ObjName.{ObjName}
use Rattle.block_table.specs.Blocks.{Blocks, OneBlockEach}
use Rattle.block_table.proofs.Filling.{Apart}
use Rattle.block_table.proofs.Telling.{get-set_other, get-set_same}
use Rattle.object_heap.specs.Free.{SerialsRise}
use Rattle.row_blocks.specs.Blocks.{free_if, without}

-- ---- one block

module _ (bs : Blocks) (k : ℕ) (n : ObjName) (its : slice_get bs k ≡ Some (Some n)) where
  -- who has a block then had it before, and it is another one
  had : (j : ℕ) (m : ObjName) → slice_get (set bs k None) j ≡ Some (Some m) → (slice_get bs j ≡ Some (Some m)) × (j ≢ k)
  had j m e = elim (cases_eq j k) as (λ _. (slice_get bs j ≡ Some (Some m)) × (j ≢ k)) [
    | inl same ↦
        let none = get-set_same bs k None (slice_get_within bs k (Some n) its) in
        let here = ap (slice_get (set bs k None)) (sym same) ∙ e in
        cc
    | inr other ↦ (sym (get-set_other bs k j None other) ∙ e, other)
  ]

  once_less : OneBlockEach bs → OneBlockEach (set bs k None)
  once_less once = λ i j m e f. once i j m (had i m e).0 (had j m f).0

module _ (gone : ObjName → Bool) where
  -- that of an object that goes is free anyway
  same_without : (bs : Blocks) (k : ℕ) (n : ObjName) → slice_get bs k ≡ Some (Some n) → gone n ≡ true
      → without gone (set bs k None) ≡ without gone bs
  same_without [] k n its goes = cc
  same_without (None ∷ bs) zero n its goes = cc
  same_without (Some m ∷ bs) zero n its goes =
      let same : m ≡ n = cc in
      ap (λ b. b ∷ without gone bs) (sym (ap (λ x. cond (gone x) None (Some m)) same ∙ ap (λ b. cond b None (Some m)) goes))
  same_without (b ∷ bs) (suc k) n its goes = ap (λ later. free_if gone b ∷ later) (same_without bs k n its goes)

  stays : (n : ObjName) (b : Bool) → gone n ≡ b → (gone n ≡ true → ⊥) → Some n ≡ cond b None (Some n)
  stays n true is none = absurd (none is)
  stays n false is none = refl

  -- where no object goes
  none_goes : (bs : Blocks) → ((k : ℕ) (n : ObjName) → slice_get bs k ≡ Some (Some n) → gone n ≡ true → ⊥)
      → bs ≡ without gone bs
  none_goes [] none = refl
  none_goes (None ∷ bs) none = ap (λ later. None ∷ later) (none_goes bs (λ k n e g. none (suc k) n e g))
  none_goes (Some m ∷ bs) none =
      let here = stays m (gone m) refl (none 0 m refl) in
      λ i. here i ∷ none_goes bs (λ k n e g. none (suc k) n e g) i

-- where there are no blocks
pub nothing_given : (gone : ObjName → Bool) (bs : Blocks) → length bs ≡ 0 → bs ≡ without gone bs
nothing_given gone [] none = refl
nothing_given gone (b ∷ bs) none = absurd (omega arith)

-- ---- one after another

-- the blocks of the names before the i-th were given back, those of the others were not yet
pub record Gives (gone : ObjName → Bool) (names : List ObjName) (lies : ObjName → Option ℕ) (old now : Blocks) (i : ℕ) : Type 0 where
  pub same : without gone now ≡ without gone old
  pub once : OneBlockEach now
  pub kept : (j : ℕ) (n : ObjName) (k : ℕ) → i ≤ j → slice_get names j ≡ Some n → lies n ≡ Some k
      → slice_get now k ≡ Some (Some n)
  pub left : (k : ℕ) (n : ObjName) → slice_get now k ≡ Some (Some n) → gone n ≡ true
      → (j : ℕ) × (i ≤ j) × (slice_get names j ≡ Some n)

module _ (gone : ObjName → Bool) (names : List ObjName) (lies : ObjName → Option ℕ) (old now : Blocks) (i : ℕ)
    (gives : Gives gone names lies old now i) where
  pub given_one : (n : ObjName) (k : ℕ) → Apart names → slice_get names i ≡ Some n → lies n ≡ Some k → gone n ≡ true
      → Gives gone names lies old (set now k None) (i + 1)
  given_one n k apart at lie goes = record {
    same = same_without gone now k n its goes ∙ gives.same;
    once = once_less now k n its gives.once;
    kept = λ j m b l e f.
        let was = gives.kept j m b (omega arith) e f in
        get-set_other now k b None (λ same. another j m b l e was same) ∙ was;
    left = λ b m e g.
        let was = had now k n its b m e in
        let found = gives.left b m was.0 g in
        (found.0, later found.0 m b found.1 found.2 was.0 was.1, found.2);
  }
    where
      its : slice_get now k ≡ Some (Some n)
      its = gives.kept i n k (omega arith) at lie

      -- a later name has another block
      another : (j : ℕ) (m : ObjName) (b : ℕ) → i + 1 ≤ j → slice_get names j ≡ Some m → slice_get now b ≡ Some (Some m) → b ≡ k → ⊥
      another j m b l e was same =
          let here = sym its ∙ (ap (slice_get now) (sym same) ∙ was) in
          let name : n ≡ m = cc in
          let place = apart i j m (at ∙ ap Some name) e in
          absurd (omega arith)

      later : (j : ℕ) (m : ObjName) (b : ℕ) → i ≤ j → slice_get names j ≡ Some m → slice_get now b ≡ Some (Some m) → b ≢ k → i + 1 ≤ j
      later j m b l e was other = elim (cases_eq j i) as (λ _. i + 1 ≤ j) [
        | inl same ↦
            let name : m ≡ n = some_one m n (sym e ∙ ap (slice_get names) same ∙ at) in
            absurd (other (gives.once b k n (was ∙ ap (λ x. Some (Some x)) name) its))
        | inr apart ↦ omega (arith, apart)
      ]
        where
          some_one : (a b : ObjName) → Some a ≡ Some b → a ≡ b
          some_one a b e = cc

  -- none is left
  pub all_given : length names ≤ i → now ≡ without gone old
  all_given end =
      none_goes gone now (λ k n e g.
      let found = gives.left k n e g in
      let l = slice_get_within names found.0 n found.2 in
      let m = found.1 in absurd (omega arith))
      ∙ gives.same

-- names whose serials rise are apart
pub apart_rise : (names : List ObjName) → SerialsRise names → Apart names
apart_rise names rise i j n e f = elim (cases_lt i j) as (λ _. i ≡ j) [
  | inl below ↦ absurd (no i j below e f)
  | inr above ↦ elim (cases_lt j i) as (λ _. i ≡ j) [ inl below ↦ absurd (no j i below f e) | inr l ↦ omega arith ]
]
  where
    no : (a b : ℕ) → a < b → slice_get names a ≡ Some n → slice_get names b ≡ Some n → ⊥
    no a b l p q =
        let less = rise a b n l (slice_get_within names b n q) in
        let low = ap (λ (x : ObjName). x.serial) (get_or_from_slice_get names a n n p) in
        let high = ap (λ (x : ObjName). x.serial) (get_or_from_slice_get names b n n q) in
        absurd (omega arith)
