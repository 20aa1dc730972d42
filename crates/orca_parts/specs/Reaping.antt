-- Who can be reaped.
use Rattle.std.specs.Prelude.{ℕ, ◌≡◌, true, List, Some, ⊤}
use Rattle.letter_kinds.specs.Detector.{Detector, Token, has}
use Rattle.machine_rules.specs.Detect.{acked_token}
use Rattle.actor_table.specs.Changes.{HasCell}
use Rattle.actor_table.specs.declared.slot.Slot.{Slot}
use Rattle.actor_table.specs.Slots.{slot_at}

-- the cells of these are at home
abbrev pub AreHome : List ℕ → List Slot → Type 0
AreHome members slots = (m : ℕ) → has members m ≡ true → HasCell (slot_at slots m) (λ c. ⊤)

-- so are those of the members of the token, if all of them acknowledged
abbrev pub AckedAreHome : ℕ → Detector → List Slot → Type 0
AckedAreHome number d slots = (t : Token) → acked_token number d ≡ Some t → AreHome t.members slots
