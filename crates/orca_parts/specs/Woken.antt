-- Whom an event wakes.
use Rattle.std.specs.Prelude.{ℕ, ◌≤◌, ◌<◌, ◌⊎◌, length, min, Option, None, Some}
use Rattle.machine_rules.specs.Actors.{Actors, mail_at}

-- the actor was made, or more letters wait for it
abbrev pub IsWoken : Actors → Actors → ℕ → Type 0
IsWoken old new a =
    ((length old ≤ a) × (a < length new)) ⊎ (length (mail_at old a) < length (mail_at new a))

-- the lowest of those that are woken; none where nobody is
abbrev pub IsLowestWoken : Actors → Actors → Option ℕ → Type 0
IsLowestWoken old new None = (a : ℕ) → IsWoken old new a → ⊥
IsLowestWoken old new (Some a) = IsWoken old new a × ((b : ℕ) → IsWoken old new b → a ≤ b)

-- the lower of two, each of which may be none
abbrev pub lower_of : Option ℕ → Option ℕ → Option ℕ
lower_of None two = two
lower_of (Some a) None = Some a
lower_of (Some a) (Some b) = Some (min a b)
