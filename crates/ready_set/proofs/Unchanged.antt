-- Writing what stands there changes nothing.
use Rattle.std.proofs.Common.{◌≡◌, ℕ, zero, suc, Bool, true, false, List, [], ◌∷◌, Some, slice_get, set, refl, ap}
use Rattle.std.proofs.Math.Bool.{beq, not}

pub set_what_is_there : (xs : List Bool) (a : ℕ) (on : Bool) → slice_get xs a ≡ Some on → set xs a on ≡ xs
set_what_is_there [] a on e = refl
set_what_is_there (x ∷ xs) zero on e = cc
set_what_is_there (x ∷ xs) (suc a) on e = ap (λ ys. x ∷ ys) (set_what_is_there xs a on e)

pub alike : (a b : Bool) → not (beq a b) ≡ false → a ≡ b
alike true true e = refl
alike false false e = refl
alike true false e = cc
alike false true e = cc
