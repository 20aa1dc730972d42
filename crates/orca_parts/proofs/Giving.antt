-- What holds of letters where places change.
use Rattle.std.proofs.Common.{◌≡◌, ◌≢◌, ◌≤◌, ℕ, true, List, [], ◌∷◌, set, Option, None, Some, refl, sym, ap, subst, ◌∙◌, arith, inl, inr, length}
use Rattle.std.specs.Prelude.{is_some}
use Rattle.std.proofs.lemmas.Bool.{cases_eq, cases_lt}
use Rattle.std.proofs.lemmas.List.{get_or-set_same, get_or-set_other, get_or_past, length-set, set_past}
use Rattle.machine_rules.specs.Actors.{Actors, Seat, seat, seat_at}
use Rattle.machine_rules.specs.Cell as rules
use Rattle.machine_rules.specs.Detect.{empty_seats}
use Rattle.actor_cell.specs.declared.cell.Cell.{Cell}
use Rattle.actor_cell.specs.Cells.{as_cell}
use Rattle.actor_table.specs.declared.slot.Slot.{Slot}
use Rattle.actor_table.specs.declared.slot.Place.TheVariants.{Home}
use Rattle.actor_table.specs.Changes.{KeepsRoom, changed_at, with_cell_by}
use Rattle.actor_table.specs.Slots.{actors_of, seat_in, slot_at}
use Rattle.actor_table.proofs.Changing.{seat_read}
use Rattle.orca_parts.specs.Letters.{FitLetters, letters_to}

-- letters still fit where no actor came and no room went
pub fits_kept : (names : List ℕ) (old new : List Slot) → FitLetters names old → KeepsRoom old new
    → ((a : ℕ) → is_some (seat_at (actors_of new) a) ≡ true → is_some (seat_at (actors_of old) a) ≡ true)
    → FitLetters names new
fits_kept names old new fits room present a there = omega (arith, fits a (present a there), room a)

-- the seat that is emptied is empty
pub emptied : (actors : Actors) (a : ℕ) → is_some (seat_at (set actors a None) a) ≡ true → ⊥
emptied actors a there = elim (cases_lt a (length actors)) as (λ _. ⊥) [
  | inl h ↦ let z = sym (ap is_some (get_or-set_same actors a None None h)) ∙ there in cc
  | inr past ↦ let z = sym (ap is_some (get_or_past (set actors a None) a None (omega (arith, past, length-set actors a None)))) ∙ there in cc
]

-- letters still fit where one actor went
pub fits_without : (names : List ℕ) (old new : List Slot) (a : ℕ) → FitLetters names old
    → actors_of new ≡ set (actors_of old) a None → ((b : ℕ) → b ≢ a → slot_at new b ≡ slot_at old b)
    → FitLetters names new
fits_without names old new a fits gone others b there = elim (cases_eq b a) as (λ _. letters_to b names ≤ (slot_at new b).mail.spare) [
  | inl same ↦ absurd (emptied (actors_of old) a (subst (λ c. is_some (seat_at (set (actors_of old) a None) c) ≡ true) same now))
  | inr other ↦ subst (λ (x : Slot). letters_to b names ≤ x.mail.spare) (sym (others b other))
      (fits b (sym (ap is_some (get_or-set_other (actors_of old) a b None None other)) ∙ now))
]
  where
    now : is_some (seat_at (set (actors_of old) a None) b) ≡ true
    now = sym (ap (λ xs. is_some (seat_at xs b)) gone) ∙ there

-- seats are emptied one after another
pub seats_emptied : (a : ℕ) (rest : List ℕ) (actors : Actors) → empty_seats (a ∷ rest) actors ≡ empty_seats rest (set actors a None)
unfolding empty_seats
seats_emptied a rest actors = refl

pub none_emptied : (actors : Actors) → empty_seats [] actors ≡ actors
unfolding empty_seats
none_emptied actors = refl

-- the seat of an actor whose cell is at home
pub seat_here : (slots : List Slot) (a : ℕ) (c : Cell) → (slot_at slots a).place ≡ Home c
    → seat_at (actors_of slots) a ≡ seat (as_cell c) (slot_at slots a).mail.letters
seat_here slots a c home = seat_read slots a ∙ ap (λ p. seat_in p (slot_at slots a).mail.letters) home

-- who is present stays so where one cell changes
pub changed_present : (change : rules.Cell → rules.Cell) (a : ℕ) (actors : Actors) (b : ℕ)
    → is_some (seat_at (changed_at (with_cell_by change) a actors) b) ≡ is_some (seat_at actors b)
changed_present change a actors b = elim (cases_lt a (length actors)) as (λ _. is_some (seat_at (changed_at (with_cell_by change) a actors) b) ≡ is_some (seat_at actors b)) [
  | inl h ↦ elim (cases_eq b a) as (λ _. is_some (seat_at (changed_at (with_cell_by change) a actors) b) ≡ is_some (seat_at actors b)) [
    | inl same ↦ subst (λ d. is_some (seat_at (changed_at (with_cell_by change) a actors) d) ≡ is_some (seat_at actors d)) (sym same)
        (ap is_some (get_or-set_same actors a (with_cell_by change (seat_at actors a)) None h) ∙ by (seat_at actors a))
    | inr other ↦ ap is_some (get_or-set_other actors a b (with_cell_by change (seat_at actors a)) None other)
  ]
  | inr past ↦ ap (λ xs. is_some (seat_at xs b)) (set_past actors a (with_cell_by change (seat_at actors a)) past)
]
  where
    by : (o : Option Seat) → is_some (with_cell_by change o) ≡ is_some o
    by None = refl
    by (Some o) = refl
