-- Filters of lists.
use Rattle.std.proofs.Common.{◌≡◌, ◌≢◌, ℕ, ◌≤◌, Bool, true, false, cond, List, [], ◌∷◌, length, filter, sum_by, arith, refl, ap}
use Rattle.std.specs.List.{AllByRecursion}
use Rattle.std.proofs.lemmas.List.Sums.{sum_by-cons}

pub length-filter_le : {A : Type 0} (p : A → Bool) (xs : List A) → length (filter p xs) ≤ length xs
length-filter_le p [] = omega arith
length-filter_le p (x ∷ xs) = grind (arith, length-filter_le p xs)

pub filter_full : {A : Type 0} (p : A → Bool) (xs : List A) → length xs ≤ length (filter p xs) → filter p xs ≡ xs
filter_full p [] h = refl
filter_full p (x ∷ xs) h = grind (arith, length-filter_le p xs, filter_full p xs)

pub filter_all : {A : Type 0} (p : A → Bool) (xs : List A) → AllByRecursion (λ x. p x ≡ true) xs → filter p xs ≡ xs
filter_all p [] h = refl
filter_all p (x ∷ xs) h = rw (h.0) (ap (λ ys. x ∷ ys) (filter_all p xs h.1))

-- dropping one leaves too few
too_few : {A : Type 0} (p : A → Bool) (x : A) (xs : List A) → filter p xs ≢ x ∷ xs
too_few p x xs h = omega (arith, length-filter_le p xs, ap length h)

all_cons : {A : Type 0} (p : A → Bool) (x : A) (xs : List A) → (filter p xs ≡ xs → AllByRecursion (λ y. p y ≡ true) xs) → filter p (x ∷ xs) ≡ x ∷ xs → (p x ≡ true) × AllByRecursion (λ y. p y ≡ true) xs
all_cons p x xs more h = grind (arith, too_few p x xs)

pub all_filter : {A : Type 0} (p : A → Bool) (xs : List A) → filter p xs ≡ xs → AllByRecursion (λ x. p x ≡ true) xs
all_filter p [] h = tt
all_filter p (x ∷ xs) h = all_cons p x xs (all_filter p xs) h

pub filter_commute : {A : Type 0} (p q : A → Bool) (xs : List A) → filter p (filter q xs) ≡ filter q (filter p xs)
filter_commute p q [] = refl
filter_commute p q (x ∷ xs) = grind (arith, filter_commute p q xs)

pub filter_twice : {A : Type 0} (p q : A → Bool) (xs : List A) → filter p (filter q xs) ≡ filter (λ x. cond (q x) (p x) false) xs
filter_twice p q [] = refl
filter_twice p q (x ∷ xs) = grind (arith, filter_twice p q xs)

pub filter_true : {A : Type 0} (xs : List A) → xs ≡ filter (λ x. true) xs
filter_true [] = refl
filter_true (x ∷ xs) = ap (λ ys. x ∷ ys) (filter_true xs)

pub sum_by-filter_le : {A : Type 0} (f : A → ℕ) (p : A → Bool) (xs : List A) → sum_by f (filter p xs) ≤ sum_by f xs
sum_by-filter_le f p [] = omega arith
sum_by-filter_le f p (x ∷ xs) = grind (arith, sum_by-cons f x xs, sum_by-cons f x (filter p xs), sum_by-filter_le f p xs)

split_yes : {A : Type 0} (P : A → Type 0) (x : A) (ys : List A) (b : Bool) → (AllByRecursion P (cond b (x ∷ ys) ys)) → (b ≡ true → P x) × AllByRecursion P ys
split_yes P x ys true h = (λ _. h.0, h.1)
split_yes P x ys false h = (λ e. absurd (cc), h)

join_yes : {A : Type 0} (P : A → Type 0) (x : A) (ys : List A) (b : Bool) → (b ≡ true → P x) → AllByRecursion P ys → AllByRecursion P (cond b (x ∷ ys) ys)
join_yes P x ys true h hs = (h refl, hs)
join_yes P x ys false h hs = hs

-- what holds of each that passes, and back
pub passing_each : {A : Type 0} (P : A → Type 0) (q : A → Bool) (xs : List A) → AllByRecursion P (filter q xs) → AllByRecursion (λ x. q x ≡ true → P x) xs
passing_each P q [] h = tt
passing_each P q (x ∷ xs) h =
    let two = split_yes P x (filter q xs) (q x) h in
    (two.0, passing_each P q xs two.1)

pub each_passing : {A : Type 0} (P : A → Type 0) (q : A → Bool) (xs : List A) → AllByRecursion (λ x. q x ≡ true → P x) xs → AllByRecursion P (filter q xs)
each_passing P q [] h = tt
each_passing P q (x ∷ xs) h = join_yes P x (filter q xs) (q x) h.0 (each_passing P q xs h.1)

pub each_of_two : {A : Type 0} (P Q R : A → Type 0) (xs : List A) → ((x : A) → P x → Q x → R x) → AllByRecursion P xs → AllByRecursion Q xs → AllByRecursion R xs
each_of_two P Q R [] f h h' = tt
each_of_two P Q R (x ∷ xs) f h h' = (f x h.0 h'.0, each_of_two P Q R xs f h.1 h'.1)
