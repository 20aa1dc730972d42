-- Who has events in a round of the one-worker order.
use Rattle.std.specs.Prelude.{ℕ, ◌≡◌, ◌<◌, ◌≤◌, Bool, true, false, Option, None, Some}
use Rattle.actor_table.specs.declared.rounds.Round.{Round}
use Rattle.actor_table.specs.declared.rounds.Round.TheVariants.{Acting, Settling}
use Rattle.actor_table.specs.declared.slot.Slot.{Slot}
use Rattle.actor_table.specs.Slots.{can_act, can_settle}

-- its cell is at home, and it has an event in the round once it has none in the round before
abbrev pub has_event : Round → Slot → Bool
has_event Acting x = can_act x
has_event Settling x = can_settle x

-- from a number on it is the first that passes; none where none does
abbrev pub IsNextThat : (ℕ → Bool) → ℕ → Option ℕ → Type 0
IsNextThat passes from None = (k : ℕ) → from ≤ k → passes k ≡ false
IsNextThat passes from (Some a) =
    (from ≤ a) × (passes a ≡ true) × ((k : ℕ) → from ≤ k → k < a → passes k ≡ false)
