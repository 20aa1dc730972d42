-- Whether an actor is one of a list that rises.
use Rattle.std.proofs.Common.{◌≡◌, ◌≢◌, ◌<◌, ◌≤◌, ℕ, zero, suc, true, false, List, [], ◌∷◌, length, get_or, refl, sym, arith, Result, Ok, Err, MatchResult}
use Rattle.std.specs.List.Sorted.{IsBinarySearchResult, IsStrictlySortedBy}
use Rattle.std.specs.Ordering.{nat_cmp}
use Rattle.std.specs.Result.{is_ok}
use Rattle.std.proofs.lemmas.Bool.Decides.{nat_tests}
use Rattle.std.proofs.lemmas.List.Sorted.{searched}
use Rattle.std.proofs.lemmas.Map.Keys.{non_decreasing_from_sorted}
use Rattle.letter_kinds.specs.Detector.{has}

pub has_at : (xs : List ℕ) (x i : ℕ) → i < length xs → get_or xs i 0 ≡ x → has xs x ≡ true
has_at [] x i inside is = absurd (omega arith)
has_at (y ∷ xs) x zero inside is = grind (arith, nat_tests)
has_at (y ∷ xs) x (suc i) inside is = grind (arith, nat_tests, has_at xs x i (omega arith) is)

has_nowhere : (xs : List ℕ) (x : ℕ) → ((i : ℕ) → i < length xs → get_or xs i 0 ≢ x) → has xs x ≡ false
has_nowhere [] x other = refl
has_nowhere (y ∷ xs) x other =
    let first = other 0 (omega arith) in
    grind (arith, nat_tests, has_nowhere xs x (λ i inside. other (suc i) (omega arith)))

found_is_has : (xs : List ℕ) (x : ℕ) (r : Result ℕ ℕ)
    → MatchResult r (λ i. (i < length xs) × (get_or xs i 0 ≡ x))
    (λ i. (i ≤ length xs) × ((k : ℕ) → k < i → get_or xs k 0 < x) × ((k : ℕ) → i ≤ k → k < length xs → x < get_or xs k 0))
    → is_ok r ≡ has xs x
found_is_has xs x (Ok i) at = sym (has_at xs x i at.0 at.1)
found_is_has xs x (Err i) gap = sym (has_nowhere xs x (λ k inside is.
    let below = gap.1 k in
    let above : i ≤ k → x < get_or xs k 0 = λ le. gap.2 k le inside in
    grind (arith, below, above)))

-- a binary search finds it exactly where it is one of them
pub search_is_has : (xs : List ℕ) (x : ℕ) (r : Result ℕ ℕ) → IsStrictlySortedBy nat_cmp xs
    → IsBinarySearchResult (λ y. nat_cmp y x) xs r → is_ok r ≡ has xs x
search_is_has xs x r rises said = found_is_has xs x r (searched xs x r said (λ i j. non_decreasing_from_sorted xs rises i j 0))
