-- Elements of lists.
use Rattle.std.proofs.Common.{◌≡◌, inl, inr, List, [], ◌∷◌, ◌++◌, map, Contains, sym, subst}
use Rattle.std.specs.List.{flat_map}
use Rattle.std.proofs.lemmas.List.Elements.{Contains-append_left, Contains-append_right, Contains-append_cases}
pub use Rattle.thing_list.proofs.Elements.{Contains-head, Contains-later, Contains-cons_cases, none_in_nil, only_one}

module _ {X Y : Type 0} where
  pub Contains-from_map : (f : X → Y) (xs : List X) (y : Y) → Contains (map f xs) y → (x : X) × Contains xs x × (f x ≡ y)
  Contains-from_map f [] y c = none_in_nil y _ c
  Contains-from_map f (x ∷ xs) y c = elim (Contains-cons_cases (f x) (map f xs) y c) as (λ _. (z : X) × Contains (x ∷ xs) z × (f z ≡ y)) [
    | inl e ↦ (x, Contains-head x xs, e)
    | inr d ↦ let from = Contains-from_map f xs y d in (from.0, Contains-later x xs from.0 from.1, from.2)
  ]

  pub Contains-from_flat_map : (f : X → List Y) (xs : List X) (y : Y) → Contains (flat_map f xs) y → (x : X) × Contains xs x × Contains (f x) y
  Contains-from_flat_map f [] y c = none_in_nil y _ c
  Contains-from_flat_map f (x ∷ xs) y c = elim (Contains-append_cases (f x) (flat_map f xs) y c) as (λ _. (z : X) × Contains (x ∷ xs) z × Contains (f z) y) [
    | inl d ↦ (x, Contains-head x xs, d)
    | inr d ↦ let from = Contains-from_flat_map f xs y d in (from.0, Contains-later x xs from.0 from.1, from.2)
  ]

  pub Contains-flat_map : (f : X → List Y) (xs : List X) (x : X) (y : Y) → Contains xs x → Contains (f x) y → Contains (flat_map f xs) y
  Contains-flat_map f [] x y c d = none_in_nil x (Contains [] y) c
  Contains-flat_map f (z ∷ xs) x y c d = elim (Contains-cons_cases z xs x c) as (λ _. Contains (f z ++ flat_map f xs) y) [
    | inl e ↦ Contains-append_left (f z) (flat_map f xs) y (subst (λ w. Contains (f w) y) (sym e) d)
    | inr k ↦ Contains-append_right (f z) (flat_map f xs) y (Contains-flat_map f xs x y k d)
  ]
