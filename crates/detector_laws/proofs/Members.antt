-- What is one of a list.
use Rattle.std.proofs.Common.{◌≡◌, ℕ, ◌==◌, eq-eqb, Bool, true, false, cond, ◌⊎◌, inl, inr, ⊎_elim, List, [], ◌∷◌, ◌++◌, filter, find, Some, Contains, refl, ap, sym, subst, ◌∙◌}
use Rattle.std.proofs.lemmas.Bool.{false≢true, or_left, or_right}
use Rattle.std.proofs.lemmas.List.Elements.{Contains-push_cases}
use Rattle.std.specs.List.{AllByRecursion}
use Rattle.reach_walk.proofs.Elements.{Contains-cons_cases, Contains-head, Contains-later, none_in_nil}
use Rattle.letter_kinds.specs.Detector.{has}

-- one of a list is the first, or is among the others
pub first_or_later : {A : Type 0} (y : A) (ys : List A) (x : A) → Contains (y ∷ ys) x → (x ≡ y) ⊎ Contains ys x
first_or_later y ys x c = ⊎_elim (λ e. inl (sym e)) inr (Contains-cons_cases y ys x c)

-- or the last
pub earlier_or_last : {A : Type 0} (xs : List A) (y x : A) → Contains (xs ++ y ∷ []) x → Contains xs x ⊎ (x ≡ y)
earlier_or_last xs y x c = ⊎_elim inl (λ e. inr (sym e)) (Contains-push_cases xs y x c)

pub none_in_empty : {A : Type 0} (x : A) → ¬ Contains [] x
none_in_empty x c = none_in_nil x _ c

pub Contains-from_filter : {A : Type 0} (p : A → Bool) (x : A) (xs : List A) → Contains (filter p xs) x → Contains xs x × (p x ≡ true)
Contains-from_filter p x [] c = absurd (none_in_empty x c)
Contains-from_filter p x (y ∷ ys) c = by_test (p y) refl (Contains-from_filter p x ys) c
  where
    by_test : (b : Bool) → p y ≡ b → (Contains (filter p ys) x → Contains ys x × (p x ≡ true)) → Contains (cond b (y ∷ filter p ys) (filter p ys)) x → Contains (y ∷ ys) x × (p x ≡ true)
    by_test true e more c = ⊎_elim
        (λ same. (subst (Contains (y ∷ ys)) (sym same) (Contains-head y ys), ap p same ∙ e))
        (λ later. let z = more later in (Contains-later y ys x z.0, z.1))
        (first_or_later y (filter p ys) x c)
    by_test false e more c = let z = more c in (Contains-later y ys x z.0, z.1)

pub Contains-filter : {A : Type 0} (p : A → Bool) (x : A) (xs : List A) → Contains xs x → p x ≡ true → Contains (filter p xs) x
Contains-filter p x [] c passes = absurd (none_in_empty x c)
Contains-filter p x (y ∷ ys) c passes = by_test (p y) refl (λ later. Contains-filter p x ys later passes)
  where
    by_test : (b : Bool) → p y ≡ b → (Contains ys x → Contains (filter p ys) x) → Contains (cond b (y ∷ filter p ys) (filter p ys)) x
    by_test true e more = ⊎_elim
        (λ same. subst (Contains (y ∷ filter p ys)) (sym same) (Contains-head y (filter p ys)))
        (λ later. Contains-later y (filter p ys) x (more later))
        (first_or_later y ys x c)
    by_test false e more = ⊎_elim
        (λ same. absurd (false≢true (sym e ∙ (ap p (sym same) ∙ passes))))
        more
        (first_or_later y ys x c)

pub Contains-from_find : {A : Type 0} (p : A → Bool) (xs : List A) (x : A) → find p xs ≡ Some x → Contains xs x × (p x ≡ true)
Contains-from_find p [] x h = absurd (cc)
Contains-from_find p (y ∷ ys) x h = by_test (p y) refl (Contains-from_find p ys x) h
  where
    by_test : (b : Bool) → p y ≡ b → (find p ys ≡ Some x → Contains ys x × (p x ≡ true)) → cond b (Some y) (find p ys) ≡ Some x → Contains (y ∷ ys) x × (p x ≡ true)
    by_test true e more h = let same : y ≡ x = cc in (subst (Contains (y ∷ ys)) same (Contains-head y ys), ap p (sym same) ∙ e)
    by_test false e more h = let z = more h in (Contains-later y ys x z.0, z.1)

pub each_contained : {A : Type 0} (P : A → Type 0) (xs : List A) → AllByRecursion P xs → (x : A) → Contains xs x → P x
each_contained P [] h x c = absurd (none_in_empty x c)
each_contained P (y ∷ ys) h x c =
    ⊎_elim (λ e. subst P (sym e) h.0) (λ later. each_contained P ys h.1 x later) (first_or_later y ys x c)

pub contained_each : {A : Type 0} (P : A → Type 0) (xs : List A) → ((x : A) → Contains xs x → P x) → AllByRecursion P xs
contained_each P [] h = tt
contained_each P (y ∷ ys) h = (h y (Contains-head y ys), contained_each P ys (λ x c. h x (Contains-later y ys x c)))

-- what holds of each number that a list has holds of all its elements
pub each_has : (P : ℕ → Type 0) (ks : List ℕ) → ((k : ℕ) → has ks k ≡ true → P k) → AllByRecursion P ks
each_has P [] h = tt
each_has P (k ∷ ks) h = (h k (or_left (k == k) (has ks k) (eq-eqb k k refl)), each_has P ks (λ i p. h i (or_right (k == i) (has ks i) p)))
