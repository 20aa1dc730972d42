-- Of all numbers below one those that are touched tell all.
use Rattle.std.proofs.Common.{◌≡◌, ◌<◌, ◌≤◌, ℕ, zero, suc, ◌+◌, Bool, false, if◌then◌else◌, List, [], ◌∷◌, ◌++◌, inl, inr, refl, ap, sym, ◌∙◌, arith}
use Rattle.std.specs.Prelude.{flat_map}
use Rattle.std.specs.List.{AllByRecursion}
use Rattle.std.specs.List.Sorted.{IsStrictlySortedBy}
use Rattle.std.specs.Ordering.{nat_cmp}
use Rattle.std.specs.declared.cmp.Ordering.TheVariants.{Less}
use Rattle.std.proofs.lemmas.Bool.{cases_lt}
use Rattle.std.proofs.lemmas.Bool.Decides.{nat_tests}
use Rattle.std.proofs.lemmas.Slice.Eq.{bytes_eq-Decides}
use Rattle.letter_kinds.specs.Detector.{has}
use Rattle.picture_rules.specs.Parts.{numbers_below, or_gone}
use Rattle.picture_rules.specs.Words.{Line, text_of_lines}
use Rattle.picture_laws.specs.Touched.{KeptTellNothing, TouchedTellAll}

pub kept_tell_nothing : KeptTellNothing
kept_tell_nothing gone lines =
    ap (λ (b : Bool). if b then [] else or_gone gone lines) ((bytes_eq-Decides (text_of_lines lines) (text_of_lines lines)).1 refl)

-- ---- numbers from one on

abbrev numbers_from : ℕ → ℕ → List ℕ
numbers_from k zero = []
numbers_from k (suc c) = k ∷ numbers_from (suc k) c

from_more : (k c : ℕ) → numbers_from k (suc c) ≡ numbers_from k c ++ (k + c) ∷ []
from_more k zero = ap (λ n. n ∷ []) (let e : k ≡ k + 0 = omega arith in e)
from_more k (suc c) =
    ap (λ ns. k ∷ ns) (from_more (suc k) c ∙ ap (λ n. numbers_from (suc k) c ++ n ∷ []) (let e : suc k + c ≡ k + suc c = omega arith in e))

below_from : (n : ℕ) → numbers_below n ≡ numbers_from 0 n
below_from zero = refl
below_from (suc n) =
    ap (λ ns. ns ++ n ∷ []) (below_from n) ∙ ap (λ m. numbers_from 0 n ++ m ∷ []) (let e : n ≡ 0 + n = omega arith in e) ∙ sym (from_more 0 n)

-- ---- names that rise

abbrev AllFrom : ℕ → List ℕ → Type 0
AllFrom k xs = AllByRecursion (λ x. k ≤ x) xs

above_of : (a : ℕ) (xs : List ℕ) → AllByRecursion (λ x. nat_cmp a x ≡ Less) xs → AllFrom (suc a) xs
above_of a [] h = tt
above_of a (x ∷ xs) h = let lt : suc a ≤ x = let is = h.0 in grind (arith, nat_tests) in (lt, above_of a xs h.1)

all_above : (x : ℕ) (xs : List ℕ) → IsStrictlySortedBy nat_cmp (x ∷ xs) → AllFrom (suc x) xs
unfolding IsStrictlySortedBy
all_above x xs h = above_of x xs h.0

rest_rise : (x : ℕ) (xs : List ℕ) → IsStrictlySortedBy nat_cmp (x ∷ xs) → IsStrictlySortedBy nat_cmp xs
unfolding IsStrictlySortedBy
rest_rise x xs h = h.1

lower : (j k : ℕ) (xs : List ℕ) → j ≤ k → AllFrom k xs → AllFrom j xs
lower j k [] le h = tt
lower j k (x ∷ xs) le h = (omega (arith, le, h.0), lower j k xs le h.1)

not_among : (k : ℕ) (xs : List ℕ) → AllFrom (suc k) xs → has xs k ≡ false
not_among k [] h = refl
not_among k (x ∷ xs) h = grind (arith, nat_tests, h.0, not_among k xs h.1)

still_not : (x a : ℕ) (xs : List ℕ) → x < a → has xs a ≡ false → has (x ∷ xs) a ≡ false
still_not x a xs lt h = grind (arith, nat_tests, lt, h)

module _ (change : ℕ → List Line) where
  -- nothing is told of numbers that are not among these
  abbrev Quiet : ℕ → List ℕ → Type 0
  Quiet k xs = (a : ℕ) → k ≤ a → has xs a ≡ false → change a ≡ []

  -- nothing is told of these, where nothing is told of numbers from k on
  none_told : (k : ℕ) (xs : List ℕ) → AllFrom k xs → ((a : ℕ) → k ≤ a → change a ≡ []) → flat_map change xs ≡ []
  none_told k [] from past = refl
  none_told k (x ∷ xs) from past = ap (λ ls. ls ++ flat_map change xs) (past x from.0) ∙ none_told k xs from.1 past

  cut : (c k : ℕ) (xs : List ℕ) → AllFrom k xs → IsStrictlySortedBy nat_cmp xs → ((a : ℕ) → k + c ≤ a → change a ≡ []) → Quiet k xs
      → flat_map change (numbers_from k c) ≡ flat_map change xs
  cut zero k xs from rise past quiet = sym (none_told k xs from (λ a le. past a (omega (arith, le))))
  cut (suc c) k [] from rise past quiet =
      ap (λ ls. ls ++ flat_map change (numbers_from (suc k) c)) (quiet k (omega arith) refl)
      ∙ cut c (suc k) [] tt rise (λ a le. past a (omega (arith, le))) (λ a le h. quiet a (omega (arith, le)) h)
  cut (suc c) k (x ∷ xs) from rise past quiet = elim (cases_lt k x) [
    | inl less ↦
        let later = lower (suc k) (suc x) xs (omega (arith, less)) (all_above x xs rise) in
        ap (λ ls. ls ++ flat_map change (numbers_from (suc k) c)) (quiet k (omega arith) (not_among k (x ∷ xs) (omega (arith, less), later)))
        ∙ cut c (suc k) (x ∷ xs) (omega (arith, less), later) rise (λ a le. past a (omega (arith, le))) (λ a le h. quiet a (omega (arith, le)) h)
    | inr least ↦
        let same : k ≡ x = omega (arith, least, from.0) in
        let later = lower (suc k) (suc x) xs (omega (arith, same)) (all_above x xs rise) in
        ap (λ n. change n ++ flat_map change (numbers_from (suc k) c)) same
        ∙ ap (λ ls. change x ++ ls)
        (cut c (suc k) xs later (rest_rise x xs rise) (λ a le. past a (omega (arith, le)))
        (λ a le h. quiet a (omega (arith, le)) (still_not x a xs (omega (arith, le, same)) h)))
  ]

from_none : (xs : List ℕ) → AllFrom 0 xs
from_none [] = tt
from_none (x ∷ xs) = (omega arith, from_none xs)

pub touched_tell_all : TouchedTellAll
touched_tell_all change n touched rise past quiet =
    ap (flat_map change) (below_from n)
    ∙ cut change n 0 touched (from_none touched) rise (λ a le. past a (omega (arith, le))) (λ a le h. quiet a h)
