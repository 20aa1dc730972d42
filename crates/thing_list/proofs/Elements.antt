-- Elements of lists.
use Rattle.std.proofs.Common.{◌≡◌, ℕ, zero, suc, ◌<◌, ◌⊎◌, inl, inr, List, [], ◌∷◌, length, get_or, Contains, refl, arith}

module _ {X : Type 0} where
  pub Contains-head : (x : X) (xs : List X) → Contains (x ∷ xs) x
  Contains-head x xs = (0, omega arith, refl)

  pub Contains-later : (y : X) (xs : List X) (x : X) → Contains xs x → Contains (y ∷ xs) x
  Contains-later y xs x c = (suc c.0, omega (arith, c.1), c.2)

  pub Contains-cons_cases : (y : X) (xs : List X) (x : X) → Contains (y ∷ xs) x → (y ≡ x) ⊎ Contains xs x
  Contains-cons_cases y xs x c = cases c.0 c.1 c.2
    where
      cases : (k : ℕ) → k < length (y ∷ xs) → get_or (y ∷ xs) k x ≡ x → (y ≡ x) ⊎ Contains xs x
      cases zero l e = inl e
      cases (suc k) l e = inr (k, omega arith, e)

  pub none_in_nil : (x : X) (P : Type 0) → Contains [] x → P
  none_in_nil x P c = absurd (omega (arith, c.1))

  pub only_one : (y x : X) → Contains (y ∷ []) x → y ≡ x
  only_one y x c = elim (Contains-cons_cases y [] x c) as (λ _. y ≡ x) [ inl e ↦ e | inr d ↦ none_in_nil x (y ≡ x) d ]
