-- Sums beside names, one for each.
use Rattle.std.specs.Prelude.{ℕ, ◌≡◌, ◌+◌, ◌<◌, ◌≤◌, List, length, slice_index}

-- each sum is the amount of its name
abbrev pub AreSums : List ℕ → (ℕ → ℕ) → List ℕ → Type 0
AreSums names amount sums =
    (k : ℕ) → k < length names → slice_index sums k ≡ amount (slice_index names k)

-- each sum is at least the amount of its name
abbrev pub AreEnough : List ℕ → (ℕ → ℕ) → List ℕ → Type 0
AreEnough names amount sums =
    (k : ℕ) → k < length names → amount (slice_index names k) ≤ slice_index sums k

-- each sum has risen by the amount of its name
abbrev pub AreRaised : List ℕ → (ℕ → ℕ) → List ℕ → List ℕ → Type 0
AreRaised names amount before after = (k : ℕ) → k < length names
    → slice_index after k ≡ slice_index before k + amount (slice_index names k)

-- each sum has fallen by the amount of its name
abbrev pub AreLowered : List ℕ → (ℕ → ℕ) → List ℕ → List ℕ → Type 0
AreLowered names amount before after = (k : ℕ) → k < length names
    → slice_index after k + amount (slice_index names k) ≡ slice_index before k
