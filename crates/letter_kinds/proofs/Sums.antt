-- Sums over lists: one element is at most the whole, and a whole of nothings is nothing.
use Rattle.std.proofs.Common.{◌≡◌, ℕ, suc, zero, ◌<◌, ◌≤◌, List, [], ◌∷◌, length, get_or, refl, arith}
use Rattle.std.specs.Prelude.{sum_by}
use Rattle.std.proofs.lemmas.List.Sums.{sum_by-cons}

pub sum-nil : {A : Type 0} (f : A → ℕ) → sum_by f [] ≡ 0
sum-nil f = refl

pub sum-at : {A : Type 0} (f : A → ℕ) (xs : List A) (i : ℕ) (d : A) → i < length xs → f (get_or xs i d) ≤ sum_by f xs
sum-at f [] i d h = absurd (omega arith)
sum-at f (x ∷ xs) zero d h = omega (arith, sum_by-cons f x xs)
sum-at f (x ∷ xs) (suc i) d h = omega (arith, sum_by-cons f x xs, sum-at f xs i d (omega arith))

pub sum-zero : {A : Type 0} (f : A → ℕ) (xs : List A) (d : A) → ((i : ℕ) → f (get_or xs i d) ≡ 0) → sum_by f xs ≡ 0
sum-zero f [] d h = refl
sum-zero f (x ∷ xs) d h = omega (arith, sum_by-cons f x xs, h 0, sum-zero f xs d (λ i. h (suc i)))
