-- A list of at most eight values in eight fixed places.
use Rattle.std.specs.Prelude.{ℕ, ◌≡◌, ◌-◌, ◌≤◌, List, ◌++◌, length, take, replicate}
use Rattle.std.proofs.Common.{arith}
use Rattle.std.proofs.lemmas.List.{length-take-le}
use Rattle.orca_names.specs.declared.names.Value.{Value}
use Rattle.orca_names.specs.declared.names.Value.TheVariants.{Null}

-- the values, and null in the places that are left
abbrev pub padded : List Value → List Value
padded values = values ++ replicate (8 - length values) Null

-- so many of the eight places are used, and the others are null
pub record UsesPlaces (used : ℕ) (places : List Value) : Type 0 where
  pub within : used ≤ 8
  pub eight : length places ≡ 8
  pub rest : places ≡ padded (take used places)

pub length-take-used : (used : ℕ) (places : List Value) → UsesPlaces used places
    → length (take used places) ≡ used
length-take-used used places kept =
    length-take-le used places (omega (arith, kept.within, kept.eight))
