-- What is told of a row, lent.
use Rattle.std.proofs.Common.{◌≡◌, ℕ, Option, Some, None, refl, ap}
use Rattle.letter_kinds.specs.Holdings.{Row}
use Rattle.row_store.specs.Told.{told_of}
use Rattle.row_store.specs.declared.told.Told.TheVariants.{Nothing, Here, In}

pub is_told : (row : Row) (block : Option ℕ) → Nothing ≡ told_of row block → ⊥
is_told row None e = cc
is_told row (Some block) e = cc

pub told_here : (row its : Row) (block : Option ℕ) → Here its ≡ told_of row block → (row ≡ its) × (block ≡ None)
told_here row its None e = let same : row ≡ its = cc in (same, refl)
told_here row its (Some block) e = cc

pub told_in : (row : Row) (at : ℕ) (block : Option ℕ) → In at ≡ told_of row block → block ≡ Some at
told_in row at None e = cc
told_in row at (Some block) e = let same : block ≡ at = cc in ap Some same
