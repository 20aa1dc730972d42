-- The members of a set of one.
use Rattle.std.proofs.Common.{◌≡◌, ℕ, Bool, true, false, ◌||◌, [], ◌∷◌, refl, eqb-true, eq-eqb}
use Rattle.letter_kinds.specs.Detector.{has}

pub only_member : (a m : ℕ) → has (a ∷ []) m ≡ true → a ≡ m
only_member a m h = eqb-true a m (either _ h)
  where
    either : (b : Bool) → (b || false) ≡ true → b ≡ true
    either true e = refl
    either false e = cc

pub is_member : (a : ℕ) → has (a ∷ []) a ≡ true
is_member a = rw (eq-eqb a a refl) refl
