-- The first place that is on, from a place on.
use Rattle.std.specs.Prelude.{ℕ, ◌≡◌, ◌<◌, ◌≤◌, Bool, true, false, List, Option, None, Some, length, slice_index_or}

-- the places from one on and before another are off
abbrev pub AreOff : List Bool → ℕ → ℕ → Type 0
AreOff ons from end = (k : ℕ) → from ≤ k → k < end → slice_index_or ons k false ≡ false

-- from a place on it is the first that is on; nothing where none is
abbrev pub IsNext : List Bool → ℕ → Option ℕ → Type 0
IsNext ons from None = AreOff ons from (length ons)
IsNext ons from (Some at) =
    (from ≤ at) × (slice_index_or ons at false ≡ true) × AreOff ons from at

-- the places from one on and before another are on
abbrev pub AreOn : List Bool → ℕ → ℕ → Type 0
AreOn ons from end = (k : ℕ) → from ≤ k → k < end → slice_index_or ons k false ≡ true
