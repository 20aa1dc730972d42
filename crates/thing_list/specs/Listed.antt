-- A list that stands in place while it is short.
use Rattle.std.specs.Prelude.{ℕ, ◌≡◌, ◌≤◌, List, [], ◌∷◌, length, take}
use Rattle.orca_names.specs.declared.names.Thing.{Thing}

-- the first of a few places, unless there are many
abbrev pub listed_in : List Thing → ℕ → List Thing → List Thing
listed_in few count [] = take count few
listed_in few count (x ∷ xs) = x ∷ xs

-- so many of the eight places are used
pub record HasPlaces (few : List Thing) (count : ℕ) : Type 0 where
  pub within : count ≤ 8
  pub eight : length few ≡ 8
