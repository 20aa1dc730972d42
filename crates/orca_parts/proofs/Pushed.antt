-- Letters are pushed one after another.
use Rattle.std.proofs.Common.{◌≡◌, ◌≤◌, ◌+◌, ◌==◌, ℕ, List, [], ◌∷◌, Option, None, refl, sym, ap, subst, ◌∙◌}
use Rattle.std.specs.Prelude.{if◌then◌else◌}
use Rattle.letter_kinds.specs.Letters.{Letter}
use Rattle.letter_kinds.specs.Telling.{TellsOnly}
use Rattle.letter_kinds.proofs.Telling.{tells_then}
use Rattle.machine_rules.specs.Actors.{Actors, push_letter}
use Rattle.actor_table.specs.declared.slot.Slot.{Slot}
use Rattle.actor_table.specs.Slots.{actors_of, away_of, slot_at}
use Rattle.actor_table.specs.Telling.{TableLies, TableTells}
use Rattle.actor_table.proofs.Telling.{still_told}
use Rattle.orca_parts.specs.Letters.{FitLetters, Posts}
use Rattle.orca_parts.specs.Woken.{IsLowestWoken, lower_of}
use Rattle.orca_parts.proofs.Posting.{rest_fits}
use Rattle.orca_parts.proofs.Waking.{Grows, grows_then, push_grows, still_grows, still_none, woken_then}

-- those to these names are left; once they have become of the actors what they do, all letters have
pub record Pushes (names : List ℕ) (become : Actors → Actors) (all : Actors) (start now : List Slot) (lowest : Option ℕ) : Type 0 where
  pub fits : FitLetters names now
  pub told : TellsOnly (TableTells start) [] (TableTells now)
  pub lie : TableLies start → TableLies now
  pub actors : become (actors_of now) ≡ all
  pub away : away_of now ≡ away_of start
  pub grows : Grows (actors_of start) (actors_of now)
  pub woken : IsLowestWoken (actors_of start) (actors_of now) lowest

-- at first all are
pub pushes_none : (names : List ℕ) (become : Actors → Actors) (slots : List Slot) → FitLetters names slots
    → Pushes names become (become (actors_of slots)) slots slots None
pushes_none names become slots fits = record {
  fits = fits;
  told = still_told slots;
  lie = λ lies. lies;
  actors = refl;
  away = refl;
  grows = still_grows (actors_of slots);
  woken = still_none (actors_of slots);
}

-- the first of them goes
pub pushes_one : (to : ℕ) (letter : Letter) (rest : List ℕ) (become : Actors → Actors) (all : Actors) (start old new : List Slot) (lowest one : Option ℕ)
    → Pushes (to ∷ rest) (λ actors. become (push_letter to letter actors)) all start old lowest → Posts (push_letter to letter) [] old new one
    → ((b : ℕ) → (slot_at old b).mail.spare ≤ (slot_at new b).mail.spare + (if b == to then 1 else 0))
    → Pushes rest become all start new (lower_of lowest one)
pushes_one to letter rest become all start old new lowest one before does room =
    let goes = subst (Grows (actors_of old)) (sym does.actors) (push_grows to letter (actors_of old)) in
    record {
      fits = rest_fits to letter rest old new before.fits does.actors room;
      told = tells_then (TableTells start) (TableTells old) (TableTells new) [] before.told does.told;
      lie = λ lies. does.lie (before.lie lies);
      actors = ap become does.actors ∙ before.actors;
      away = does.away ∙ before.away;
      grows = grows_then (actors_of start) (actors_of old) (actors_of new) before.grows goes;
      woken = woken_then (actors_of start) (actors_of old) (actors_of new) before.grows goes lowest one before.woken does.woken;
    }

-- in the end none is left
pub pushes_all : (names : List ℕ) (become does : Actors → Actors) (start now : List Slot) (lowest : Option ℕ) → become (actors_of now) ≡ actors_of now
    → Pushes names become (does (actors_of start)) start now lowest → Posts does [] start now lowest
pushes_all names become does start now lowest none pushes =
    record { actors = sym none ∙ pushes.actors; away = pushes.away; woken = pushes.woken; told = pushes.told; lie = pushes.lie }
