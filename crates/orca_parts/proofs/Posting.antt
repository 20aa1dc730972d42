-- Letters go to their actors one after another.
use Rattle.std.proofs.Common.{◌≡◌, ◌≤◌, ℕ, ◌+◌, ◌==◌, inl, inr, Bool, true, false, List, ◌∷◌, length, set, Option, None, Some, refl, sym, ap, subst, ◌∙◌, arith}
use Rattle.std.specs.Prelude.{if◌then◌else◌, is_some}
use Rattle.std.proofs.lemmas.Bool.{cases_eq, cases_lt}
use Rattle.std.proofs.lemmas.List.{get_or-set_same, get_or-set_other, set_past}
use Rattle.letter_kinds.specs.Letters.{Letter}
use Rattle.machine_rules.specs.Actors.{Actors, Seat, push_letter, seat_at, with_letter_more}
use Rattle.actor_table.specs.declared.slot.Slot.{Slot}
use Rattle.actor_table.specs.Slots.{actors_of, slot_at}
use Rattle.orca_parts.specs.Letters.{FitLetters, letters_to}

more_is_some : (letter : Letter) (o : Option Seat) → is_some (with_letter_more letter o) ≡ is_some o
more_is_some letter None = refl
more_is_some letter (Some o) = refl

-- who is present stays so
pub push_keeps : (to : ℕ) (letter : Letter) (actors : Actors) (a : ℕ) → is_some (seat_at (push_letter to letter actors) a) ≡ is_some (seat_at actors a)
unfolding push_letter
push_keeps to letter actors a = elim (cases_lt to (length actors)) as (λ _. is_some (seat_at (set actors to (with_letter_more letter (seat_at actors to))) a) ≡ is_some (seat_at actors a)) [
  | inl h ↦ elim (cases_eq a to) as (λ _. is_some (seat_at (set actors to (with_letter_more letter (seat_at actors to))) a) ≡ is_some (seat_at actors a)) [
    | inl same ↦ subst (λ b. is_some (seat_at (set actors to (with_letter_more letter (seat_at actors to))) b) ≡ is_some (seat_at actors b)) (sym same)
        (ap is_some (get_or-set_same actors to (with_letter_more letter (seat_at actors to)) None h) ∙ more_is_some letter (seat_at actors to))
    | inr other ↦ ap is_some (get_or-set_other actors to a (with_letter_more letter (seat_at actors to)) None other)
  ]
  | inr past ↦ ap (λ xs. is_some (seat_at xs a)) (set_past actors to (with_letter_more letter (seat_at actors to)) past)
]

-- once the first letter went, the others fit
pub rest_fits : (to : ℕ) (letter : Letter) (rest : List ℕ) (old new : List Slot) → FitLetters (to ∷ rest) old
    → actors_of new ≡ push_letter to letter (actors_of old)
    → ((b : ℕ) → (slot_at old b).mail.spare ≤ (slot_at new b).mail.spare + (if b == to then 1 else 0))
    → FitLetters rest new
rest_fits to letter rest old new fits pushed room a there =
    let was : is_some (seat_at (actors_of old) a) ≡ true = sym (push_keeps to letter (actors_of old) a) ∙ sym (ap (λ xs. is_some (seat_at xs a)) pushed) ∙ there in
    by (to == a) (a == to) refl refl (fits a was) (room a)
  where
    by : (b d : Bool) → (to == a) ≡ b → (a == to) ≡ d → (if b then 1 else 0) + letters_to a rest ≤ (slot_at old a).mail.spare
        → (slot_at old a).mail.spare ≤ (slot_at new a).mail.spare + (if d then 1 else 0) → letters_to a rest ≤ (slot_at new a).mail.spare
    by true d e f had have = omega (arith, had, have, one d)
      where
        one : (x : Bool) → (if x then 1 else 0) ≤ 1
        one true = omega arith
        one false = omega arith
    by false true e f had have = grind (arith)
    by false false e f had have = omega (arith, had, have)

-- there is room for the first
pub first_fits : (to : ℕ) (rest : List ℕ) (slots : List Slot) → FitLetters (to ∷ rest) slots
    → is_some (seat_at (actors_of slots) to) ≡ true → 1 ≤ (slot_at slots to).mail.spare
first_fits to rest slots fits there = by (to == to) refl (fits to there)
  where
    by : (b : Bool) → (to == to) ≡ b → (if b then 1 else 0) + letters_to to rest ≤ (slot_at slots to).mail.spare → 1 ≤ (slot_at slots to).mail.spare
    by true e had = omega (arith, had)
    by false e had = grind (arith)
