-- Facts of all elements of a list, told by place.
use Rattle.std.proofs.Common.{◌≡◌, ℕ, ◌+◌, ◌<◌, zero, suc, Bool, true, false, ◌||◌, List, [], ◌∷◌, ◌++◌, drop, take, ap, refl, sym, ◌∙◌, Some, get_or, subst, zero-add, add-zero, arith}
use Rattle.std.specs.List.{All, AllPairs, enumerate_from, flat_map, list_any, slice_get}
use Rattle.std.proofs.lemmas.Option.{get_or_from_slice_get, slice_get-get_or, slice_get_within}
use Rattle.std.proofs.lemmas.List.Folds.{Any-from_list_any}
use Rattle.std.proofs.lemmas.Map.Keys.{any_passes_from_place}

pub All_by_place : {X : Type 0} (P : X → Type 0) (xs : List X) →
    ((i : ℕ) (x : X) → slice_get xs i ≡ Some x → P x) → All P xs
All_by_place P xs h = λ k d within. h k (get_or xs k d) (slice_get-get_or xs k d within)

pub All-slice_get : {X : Type 0} (P : X → Type 0) (xs : List X) → All P xs → (i : ℕ) (x : X) →
    slice_get xs i ≡ Some x → P x
All-slice_get P xs all i x found = subst P (get_or_from_slice_get xs i x x found)
    (all i x (slice_get_within xs i x found))

pub AllPairs_by_place : {X : Type 0} (R : X → X → Type 0) (xs : List X) →
    ((i j : ℕ) (x y : X) → i < j → slice_get xs i ≡ Some x → slice_get xs j ≡ Some y → R x y) →
    AllPairs R xs
AllPairs_by_place R xs h = λ i j d before within.
    h i j (get_or xs i d) (get_or xs j d) before (slice_get-get_or xs i d (omega arith))
    (slice_get-get_or xs j d within)

pub AllPairs-slice_get : {X : Type 0} (R : X → X → Type 0) (xs : List X) → AllPairs R xs →
    (i j : ℕ) (x y : X) → i < j → slice_get xs i ≡ Some x → slice_get xs j ≡ Some y → R x y
AllPairs-slice_get {X} R xs all i j x y before first second =
    let r : R (get_or xs i x) (get_or xs j x) = all i j x before (slice_get_within xs j y second) in
    let s : R x (get_or xs j x) = subst (λ (z : X). R z (get_or xs j x))
    (get_or_from_slice_get xs i x x first) r in
    subst (R x) (get_or_from_slice_get xs j y x second) s

-- a test that some element passes, or none

pub record PassesAt {X : Type 0} (p : X → Bool) (xs : List X) : Type 0 where
  pub place : ℕ
  pub element : X
  pub stands : slice_get xs place ≡ Some element
  pub passes : p element ≡ true

pub passes_at : {X : Type 0} (p : X → Bool) (xs : List X) → list_any p xs ≡ true → PassesAt p xs
passes_at p xs h =
    let found = Any-from_list_any p xs h in
    record {
      place = found.0;
      element = found.1;
      stands = slice_get-get_or xs found.0 found.1 found.2 ∙ ap Some found.3;
      passes = found.4;
    }

pub none_passes : {X : Type 0} (p : X → Bool) (xs : List X) →
    ((i : ℕ) (x : X) → slice_get xs i ≡ Some x → p x ≡ false) → list_any p xs ≡ false
none_passes p [] h = refl
none_passes p (x ∷ xs) h = ap (λ (b : Bool). b || list_any p xs) (h 0 x refl)
    ∙ none_passes p xs (λ i. h (suc i))

pub fails_each : {X : Type 0} (p : X → Bool) (xs : List X) → list_any p xs ≡ false → (i : ℕ) (x : X) →
    slice_get xs i ≡ Some x → p x ≡ false
fails_each p xs none i x found = cases (p x) refl
  where
    cases : (b : Bool) → p x ≡ b → p x ≡ false
    cases false e = e
    cases true e = let some = any_passes_from_place p xs i x found e in cc

-- what stands before a place, and after it

pub slice_get-take : {X : Type 0} (xs : List X) (n i : ℕ) → i < n → slice_get (take n xs) i ≡ slice_get xs i
slice_get-take [] zero i h = refl
slice_get-take [] (suc n) i h = refl
slice_get-take (x ∷ xs) zero i h = absurd (omega arith)
slice_get-take (x ∷ xs) (suc n) zero h = refl
slice_get-take (x ∷ xs) (suc n) (suc i) h = slice_get-take xs n i (omega arith)

pub take_is_before : {X : Type 0} (xs : List X) (n i : ℕ) (x : X) → slice_get (take n xs) i ≡ Some x → i < n
take_is_before xs zero i x found = cc
take_is_before [] (suc n) i x found = cc
take_is_before (y ∷ xs) (suc n) zero x found = omega arith
take_is_before (y ∷ xs) (suc n) (suc i) x found = let h = take_is_before xs n i x found in omega arith

pub slice_get-drop : {X : Type 0} (xs : List X) (n i : ℕ) → slice_get (drop n xs) i ≡ slice_get xs (n + i)
slice_get-drop xs zero i = ap (slice_get xs) (sym (zero-add i))
slice_get-drop [] (suc n) i = refl
slice_get-drop (x ∷ xs) (suc n) i = slice_get-drop xs n i
    ∙ ap (slice_get (x ∷ xs)) {x = suc (n + i)} (omega arith)

-- lists that are empty together

pub record AreEmpty {X : Type 0} (xs ys : List X) : Type 0 where
  pub first : xs ≡ []
  pub second : ys ≡ []

pub both_empty : {X : Type 0} (xs ys : List X) → xs ++ ys ≡ [] → AreEmpty xs ys
both_empty [] ys h = record { first = refl; second = h }
both_empty (x ∷ xs) ys h = cc

pub empty_append : {X : Type 0} (xs ys : List X) → AreEmpty xs ys → xs ++ ys ≡ []
empty_append xs ys h = rw (h.first, h.second)

-- each element with its number gives nothing
pub gives_nothing : {X Y : Type 0} (f : ℕ × X → List Y) (n : ℕ) (xs : List X) →
    flat_map f (enumerate_from n xs) ≡ [] →
    (i : ℕ) (x : X) → slice_get xs i ≡ Some x → f (n + i, x) ≡ []
gives_nothing f n [] h i x found = cc
gives_nothing {X} f n (y ∷ xs) h zero x found =
    let same : y ≡ x = cc in
    subst (λ (z : X). f (n + 0, z) ≡ []) same (rw add-zero
    (both_empty (f (n, y)) (flat_map f (enumerate_from (n + 1) xs)) h).first)
gives_nothing {X} f n (y ∷ xs) h (suc i) x found =
    let rest = gives_nothing f (n + 1) xs (both_empty (f (n, y))
    (flat_map f (enumerate_from (n + 1) xs)) h).second i x found in
    let number : n + 1 + i ≡ n + suc i = omega arith in
    subst (λ (k : ℕ). f (k, x) ≡ []) number rest

pub all_give_nothing : {X Y : Type 0} (f : ℕ × X → List Y) (n : ℕ) (xs : List X) →
    ((i : ℕ) (x : X) → slice_get xs i ≡ Some x → f (n + i, x) ≡ []) → flat_map f (enumerate_from n xs) ≡ []
all_give_nothing f n [] h = refl
all_give_nothing {X} f n (y ∷ xs) h =
    empty_append (f (n, y)) (flat_map f (enumerate_from (n + 1) xs)) (record {
      first = rw add-zero at (h 0 y refl);
      second = all_give_nothing f (n + 1) xs (λ i x found.
          let number : n + suc i ≡ n + 1 + i = omega arith in
          subst (λ (k : ℕ). f (k, x) ≡ []) number (h (suc i) x found));
    })
