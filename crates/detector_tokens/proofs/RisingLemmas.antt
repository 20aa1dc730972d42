-- Names in rising order: where one stands.
use Rattle.std.proofs.Common.{◌≡◌, ℕ, zero, suc, ◌<◌, ◌≤◌, true, false, List, [], ◌∷◌, length, get_or, refl, sym, arith, Option, Some, None, is_some, slice_get, IfSome, IfNone, Result, Ok, Err, MatchResult}
use Rattle.std.specs.List.{AllByRecursion}
use Rattle.std.specs.declared.cmp.Ordering.TheVariants.{Less}
use Rattle.std.specs.List.Sorted.{IsBinarySearchResult, IsStrictlySortedBy}
use Rattle.std.specs.Ordering.{nat_cmp}
use Rattle.std.specs.Result.{result_ok}
use Rattle.std.proofs.lemmas.List.Sorted.{searched}
use Rattle.std.proofs.lemmas.Bool.Decides.{nat_tests}
use Rattle.letter_kinds.specs.Detector.{has}
use Rattle.std.specs.Ordering.{nat_cmp}

-- all of these are above a
abbrev pub AllAbove : ℕ → List ℕ → Type 0
AllAbove a xs = AllByRecursion (λ x. a < x) xs

above_of : (a : ℕ) (xs : List ℕ) → AllByRecursion (λ x. nat_cmp a x ≡ Less) xs → AllAbove a xs
above_of a [] h = tt
above_of a (x ∷ xs) h = let lt : a < x = let is = h.0 in grind (arith, nat_tests) in (lt, above_of a xs h.1)

less_of : (a : ℕ) (xs : List ℕ) → AllAbove a xs → AllByRecursion (λ x. nat_cmp a x ≡ Less) xs
less_of a [] h = tt
less_of a (x ∷ xs) h = let is : nat_cmp a x ≡ Less = let lt = h.0 in grind (arith, nat_tests) in (is, less_of a xs h.1)

pub first_above : (x : ℕ) (xs : List ℕ) → IsStrictlySortedBy nat_cmp (x ∷ xs) → AllAbove x xs
unfolding IsStrictlySortedBy
first_above x xs h = above_of x xs h.0

pub rest_rises : (x : ℕ) (xs : List ℕ) → IsStrictlySortedBy nat_cmp (x ∷ xs)
    → IsStrictlySortedBy nat_cmp xs
unfolding IsStrictlySortedBy
rest_rises x xs h = h.1

pub none_rise : IsStrictlySortedBy nat_cmp []
unfolding IsStrictlySortedBy
none_rise = tt

pub rising-cons : (x : ℕ) (xs : List ℕ) → AllAbove x xs → IsStrictlySortedBy nat_cmp xs
    → IsStrictlySortedBy nat_cmp (x ∷ xs)
unfolding IsStrictlySortedBy
rising-cons x xs above rest = (less_of x xs above, rest)

pub above-get : (x : ℕ) (xs : List ℕ) (i : ℕ) → AllAbove x xs → i < length xs → x < get_or xs i 0
above-get x [] i h lt = absurd (omega arith)
above-get x (y ∷ xs) zero h lt = h.0
above-get x (y ∷ xs) (suc i) h lt = above-get x xs i h.1 (omega arith)

pub rises : (xs : List ℕ) → IsStrictlySortedBy nat_cmp xs → (i j : ℕ) → i ≤ j → j < length xs → get_or xs i 0 ≤ get_or xs j 0
rises [] h i j le lt = absurd (omega arith)
rises (x ∷ xs) h zero zero le lt = omega arith
rises (x ∷ xs) h zero (suc j) le lt = omega (arith, above-get x xs j (first_above x xs h) (omega arith))
rises (x ∷ xs) h (suc i) zero le lt = absurd (omega arith)
rises (x ∷ xs) h (suc i) (suc j) le lt = rises xs (rest_rises x xs h) i j (omega arith) (omega arith)

pub has-gap : (xs : List ℕ) (x i : ℕ) → ((k : ℕ) → k < i → get_or xs k 0 < x)
    → ((k : ℕ) → i ≤ k → k < length xs → x < get_or xs k 0) → has xs x ≡ false
has-gap [] x i below above = refl
has-gap (y ∷ xs) x zero below above =
    let first = above 0 (omega arith) (omega arith) in
    grind (arith, nat_tests, has-gap xs x zero (λ k lt. absurd (omega arith)) (λ k le lt. above (suc k) (omega arith) (omega arith)))
has-gap (y ∷ xs) x (suc i) below above =
    let first = below 0 (omega arith) in
    grind (arith, nat_tests, has-gap xs x i (λ k lt. below (suc k) (omega arith)) (λ k le lt. above (suc k) (omega arith) (omega arith)))

-- who stands at a place is among them
pub has-at : (xs : List ℕ) (i x : ℕ) → slice_get xs i ≡ Some x → has xs x ≡ true
has-at [] i x e = absurd (cc)
has-at (y ∷ xs) zero x e = grind (arith, nat_tests)
has-at (y ∷ xs) (suc i) x e = grind (arith, nat_tests, has-at xs i x e)

-- what a binary search says
search_says : (xs : List ℕ) (x : ℕ) (r : Result ℕ ℕ)
    → MatchResult r (λ i. (i < length xs) × (get_or xs i 0 ≡ x)) (λ i. (i ≤ length xs) × ((k : ℕ) → k < i → get_or xs k 0 < x) × ((k : ℕ) → i ≤ k → k < length xs → x < get_or xs k 0))
    → IfNone (result_ok r) (has xs x ≡ false)
search_says xs x (Ok i) h = tt
search_says xs x (Err i) h = has-gap xs x i h.1 h.2

pub not_found : (xs : List ℕ) (x : ℕ) (r : Result ℕ ℕ) → IsStrictlySortedBy nat_cmp xs
    → IsBinarySearchResult (λ y. nat_cmp y x) xs r → IfNone (result_ok r) (has xs x ≡ false)
not_found xs x r h s = search_says xs x r (searched xs x r s (rises xs h))

-- a place was found exactly where the name is among them
pub found_is_has : (xs : List ℕ) (x : ℕ) (o : Option ℕ) → IfSome o (λ i. slice_get xs i ≡ Some x)
    → IfNone o (has xs x ≡ false) → is_some o ≡ has xs x
found_is_has xs x (Some i) some none = sym (has-at xs i x some)
found_is_has xs x None some none = sym none

-- a place that was found, by its index
pub place_is : (xs : List ℕ) (i x : ℕ) → slice_get xs i ≡ Some x → (i < length xs) × (get_or xs i 0 ≡ x)
place_is [] i x e = absurd (cc)
place_is (y ∷ xs) zero x e = (omega arith, cc)
place_is (y ∷ xs) (suc i) x e = let (lt, g) = place_is xs i x e in (omega arith, g)
