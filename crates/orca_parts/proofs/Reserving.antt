-- Memory is taken for letters one after another.
use Rattle.std.proofs.Common.{◌≡◌, ◌≤◌, ℕ, ◌+◌, ◌==◌, inl, inr, Bool, true, false, List, [], ◌∷◌, length, get_or, Some, refl, sym, ap, subst, ◌∙◌, arith}
use Rattle.std.specs.Prelude.{T, if◌then◌else◌, is_some}
use Rattle.std.specs.BTreeMap.{BTreeMap, Updates}
use Rattle.std.specs.List.Sorted.{IsStrictlySortedBy}
use Rattle.std.specs.FinMap.Entries.{below_all, is_sorted}
use Rattle.local_sweep.proofs.Filtered.{first, second}
use Rattle.std.specs.Ordering.{is_lt, nat_cmp}
use Rattle.std.proofs.lemmas.Bool.{cases_eq}
use Rattle.std.proofs.lemmas.Bool.Decides.{nat_tests}
use Rattle.letter_kinds.specs.Counting.{Amount}
use Rattle.detector_tokens.proofs.RisingLemmas.{AllAbove, first_above, rest_rises}
use Rattle.machine_rules.specs.Actors.{seat_at}
use Rattle.actor_table.specs.declared.slot.Slot.{Slot}
use Rattle.actor_table.specs.Changes.{KeepsRoom, OnlyTableRoom}
use Rattle.actor_table.specs.Slots.{Table, actors_of, slot_at}
use Rattle.orca_parts.specs.Letters.{FitLetters, count_for, letters_to}
use Rattle.orca_parts.specs.Touched.{receivers}
use Rattle.actor_table.specs.Telling.{TableTells}
use Rattle.actor_table.proofs.Telling.{still_told}
use Rattle.letter_kinds.proofs.Telling.{tells_then}

-- ---- letters are count_for

-- one letter more to the actor is count_for
pub counted_up : (old new : BTreeMap ℕ ℕ) (to n : ℕ) → Updates nat_cmp old new to (Some n) → n ≡ count_for old to + 1 → (b : ℕ) → count_for new b ≡ count_for old b + (if to == b then 1 else 0)
counted_up old new to n updates is b = elim (cases_eq to b) as (λ _. count_for new b ≡ count_for old b + (if to == b then 1 else 0)) [
  | inl same ↦ grind (arith, nat_tests, updates.0 b, is, ap (count_for old) same)
  | inr other ↦ grind (arith, nat_tests, updates.0 b)
]

few : (b : Bool) → (if b then 1 else 0) ≤ 1
few true = omega arith
few false = omega arith

-- no more letters go to an actor than there are
pub to_few : (a : ℕ) (names : List ℕ) → letters_to a names ≤ length names
to_few a [] = omega arith
to_few a (to ∷ names) = omega (arith, few (to == a), to_few a names)

-- the first of them is one to its actor
pub first_counts : (to : ℕ) (names : List ℕ) → letters_to to (to ∷ names) ≡ 1 + letters_to to names
first_counts to names = grind (arith, nat_tests)

module _ (old new : List Slot) (actors : actors_of new ≡ actors_of old) (room : KeepsRoom old new) where
  was_there : (b : ℕ) → is_some (seat_at (actors_of new) b) ≡ true → is_some (seat_at (actors_of old) b) ≡ true
  was_there b there = sym (ap (λ os. is_some (seat_at os b)) actors) ∙ there

  -- what is count_for fits where there is room for one letter more to the actor
  pub counted_fits : (to n : ℕ) (was now : ℕ → ℕ) → ((b : ℕ) → is_some (seat_at (actors_of old) b) ≡ true → was b ≤ (slot_at old b).mail.spare)
      → (is_some (seat_at (actors_of old) to) ≡ true → n ≤ (slot_at new to).mail.spare) → n ≡ was to + 1 → ((b : ℕ) → now b ≡ was b + (if to == b then 1 else 0))
      → (b : ℕ) → is_some (seat_at (actors_of new) b) ≡ true → now b ≤ (slot_at new b).mail.spare
  counted_fits to n was now fits ok is up b there = elim (cases_eq to b) as (λ _. now b ≤ (slot_at new b).mail.spare) [
    | inl same ↦ omega (
      arith,
      up b,
      few (to == b),
      is,
      ap was same,
      ap (λ c. (slot_at new c).mail.spare) same,
      ok (subst (λ c. is_some (seat_at (actors_of old) c) ≡ true) (sym same) (was_there b there)),
    )
    | inr other ↦ grind (arith, nat_tests, up b, fits b (was_there b there), room b)
  ]

  -- where at most one letter goes to each
  each_fits : (to : ℕ) (names rest : List ℕ) → ((b : ℕ) → letters_to b names ≤ 1)
      → ((b : ℕ) → is_some (seat_at (actors_of old) b) ≡ true → letters_to b names ≤ (slot_at old b).mail.spare + letters_to b (to ∷ rest))
      → (is_some (seat_at (actors_of old) to) ≡ true → 1 ≤ (slot_at new to).mail.spare)
      → (b : ℕ) → is_some (seat_at (actors_of new) b) ≡ true → letters_to b names ≤ (slot_at new b).mail.spare + letters_to b rest
  each_fits to names rest once fits ok b there = elim (cases_eq to b) as (λ _. letters_to b names ≤ (slot_at new b).mail.spare + letters_to b rest) [
    | inl same ↦ omega (
      arith,
      once b,
      ap (λ c. (slot_at new c).mail.spare) same,
      ok (subst (λ c. is_some (seat_at (actors_of old) c) ≡ true) (sym same) (was_there b there)),
    )
    | inr other ↦ grind (arith, nat_tests, fits b (was_there b there), room b)
  ]

  -- where there is one letter
  pub one_fits : {X : Type 0} (groups : List (ℕ × X)) (d : ℕ × X) → length groups ≡ 1
      → (is_some (seat_at (actors_of old) (get_or groups 0 d).0) ≡ true → 1 ≤ (slot_at new (get_or groups 0 d).0).mail.spare) → FitLetters (receivers groups) new
  one_fits [] d one ok b there = absurd (omega (arith, one))
  one_fits (x ∷ []) d one ok b there = elim (cases_eq x.0 b) as (λ _. letters_to b (x.0 ∷ []) ≤ (slot_at new b).mail.spare) [
    | inl same ↦ omega (
      arith,
      few (x.0 == b),
      ap (λ c. (slot_at new c).mail.spare) same,
      ok (subst (λ c. is_some (seat_at (actors_of old) c) ≡ true) (sym same) (was_there b there)),
    )
    | inr other ↦ grind (arith, nat_tests)
  ]
  one_fits (x ∷ y ∷ rest) d one ok b there = absurd (omega (arith, one))

-- ---- one letter to each

-- a letter goes to each of these, and memory is taken but for those to the rest
pub record Reserves (rest names : List ℕ) (start now : Table) : Type 0 where
  pub same : OnlyTableRoom start now
  pub fits : (b : ℕ) → is_some (seat_at (actors_of now.slots) b) ≡ true → letters_to b names ≤ (slot_at now.slots b).mail.spare + letters_to b rest

pub still_room : (t : Table) → OnlyTableRoom t t
still_room t = record { places = refl; letters = refl; told = still_told t.slots; actors = refl; away = refl; space = record { spare = refl; room = λ b. omega arith } }

pub more_room : (one two three : Table) → OnlyTableRoom one two → OnlyTableRoom two three → OnlyTableRoom one three
more_room one two three first second = record {
  places = second.places ∙ first.places;
  letters = second.letters ∙ first.letters;
  told = tells_then (TableTells one.slots) (TableTells two.slots) (TableTells three.slots) [] first.told second.told;
  actors = second.actors ∙ first.actors;
  away = second.away ∙ first.away;
  space = record { spare = second.space.spare ∙ first.space.spare; room = λ b. omega (arith, first.space.room b, second.space.room b) };
}

pub reserves_none : (names : List ℕ) (t : Table) → Reserves names names t t
reserves_none names t = record { same = still_room t; fits = λ b there. omega arith }

pub reserves_one : (to : ℕ) (rest names : List ℕ) (start old new : Table) → ((b : ℕ) → letters_to b names ≤ 1) → Reserves (to ∷ rest) names start old
    → OnlyTableRoom old new → (is_some (seat_at (actors_of old.slots) to) ≡ true → 1 ≤ (slot_at new.slots to).mail.spare) → Reserves rest names start new
reserves_one to rest names start old new once before does ok = record {
  same = more_room start old new before.same does;
  fits = each_fits old.slots new.slots does.actors does.space.room to names rest once before.fits ok;
}

pub reserves_all : (rest names : List ℕ) (start now : Table) → rest ≡ [] → Reserves rest names start now → FitLetters names now.slots
reserves_all rest names start now none reserves b there = omega (arith, reserves.fits b there, ap (letters_to b) none)

-- ---- groups that rise

none_below : (a b : ℕ) (groups : List (ℕ × List Amount)) → T (below_all nat_cmp b groups) → a ≤ b → letters_to a (receivers groups) ≡ 0
none_below a b [] below le = refl
none_below a b (g ∷ groups) below le =
    let above = first (is_lt (nat_cmp b g.0)) (below_all nat_cmp b groups) below in
    let rest = none_below a b groups (second (is_lt (nat_cmp b g.0)) (below_all nat_cmp b groups) below) le in
    by (is_lt (nat_cmp b g.0)) refl above rest
  where
    by : (q : Bool) → is_lt (nat_cmp b g.0) ≡ q → T q → letters_to a (receivers groups) ≡ 0 → letters_to a (receivers (g ∷ groups)) ≡ 0
    by true e t rest = grind (arith, nat_tests)
    by false e t rest = absurd t

-- a letter goes to the owner of each
pub once_each : (groups : List (ℕ × List Amount)) → T (is_sorted nat_cmp groups) → (a : ℕ) → letters_to a (receivers groups) ≤ 1
once_each [] rises a = omega arith
once_each (g ∷ groups) rises a =
    let below = first (below_all nat_cmp g.0 groups) (is_sorted nat_cmp groups) rises in
    let rest = second (below_all nat_cmp g.0 groups) (is_sorted nat_cmp groups) rises in
    elim (cases_eq g.0 a) as (λ _. letters_to a (receivers (g ∷ groups)) ≤ 1) [
      | inl same ↦ omega (arith, few (g.0 == a), none_below a g.0 groups below (omega (arith, same)))
      | inr other ↦ grind (arith, nat_tests, once_each groups rest a)
    ]

-- names that rise
none_above : (a : ℕ) (members : List ℕ) → AllAbove a members → letters_to a members ≡ 0
none_above a [] above = refl
none_above a (m ∷ members) above =
    let first = above.0 in
    let rest = none_above a members above.1 in
    grind (arith, nat_tests)

pub asked_once : (members : List ℕ) → IsStrictlySortedBy nat_cmp members → (a : ℕ) → letters_to a members ≤ 1
asked_once [] rises a = omega arith
asked_once (m ∷ members) rises a = elim (cases_eq m a) as (λ _. letters_to a (m ∷ members) ≤ 1) [
  | inl same ↦ omega (arith, few (m == a), none_above a members (subst (λ x. AllAbove x members) same (first_above m members rises)))
  | inr other ↦ grind (arith, nat_tests, asked_once members (rest_rises m members rises) a)
]
