-- The letters that an event gives out, and room for them.
use Rattle.std.specs.Prelude.{ℕ, ◌≡◌, ◌≤◌, ◌+◌, ◌==◌, true, if◌then◌else◌, is_some, unwrap_or, List, [], ◌∷◌, Option}
use Rattle.std.specs.BTreeMap.{BTreeMap, get}
use Rattle.std.specs.Ordering.{nat_cmp}
use Rattle.orca_names.specs.declared.names.Thing.{Thing}
use Rattle.row_store.specs.Told.{Lying}
use Rattle.letter_kinds.specs.Telling.{TellsOnly}
use Rattle.machine_rules.specs.Actors.{Actors, seat_at}
use Rattle.actor_table.specs.declared.slot.Slot.{Slot}
use Rattle.actor_table.specs.Slots.{actors_of, away_of, slot_at}
use Rattle.actor_table.specs.Telling.{TableLies, TableTells}
use Rattle.orca_parts.specs.Woken.{IsLowestWoken}

-- how many letters go to an actor, where one goes to each of these
abbrev pub letters_to : ℕ → List ℕ → ℕ
letters_to a [] = 0
letters_to a (to ∷ names) = (if to == a then 1 else 0) + letters_to a names

-- how many to an actor are count_for
abbrev pub count_for : BTreeMap ℕ ℕ → ℕ → ℕ
count_for counts a = unwrap_or (get nat_cmp counts a) 0

-- each actor that is present has room for those that go to it
abbrev pub FitLetters : List ℕ → List Slot → Type 0
FitLetters names slots = (a : ℕ) → is_some (seat_at (actors_of slots) a) ≡ true
    → letters_to a names ≤ (slot_at slots a).mail.spare

-- this becomes of the actors, the same cells are away, the lowest actor that wakes is told; of rows in
-- blocks nothing is told but what was told before and these, and own rows that lay in blocks do
pub record Posts (become : Actors → Actors) (more : List (Thing × Lying)) (old new : List Slot)
    (lowest : Option ℕ) : Type 0 where
  pub actors : actors_of new ≡ become (actors_of old)
  pub away : away_of new ≡ away_of old
  pub woken : IsLowestWoken (actors_of old) (actors_of new) lowest
  pub told : TellsOnly (TableTells old) more (TableTells new)
  pub lie : TableLies old → TableLies new
