-- Whom letters wake, one after another.
use Rattle.std.proofs.Common.{◌≡◌, ◌≢◌, ◌≤◌, ◌⊎◌, inl, inr, ℕ, ◌+◌, Bool, true, false, List, [], ◌∷◌, ◌++◌, length, set, Option, None, Some, refl, sym, ap, subst, ◌∙◌, arith, length-append}
use Rattle.std.specs.Prelude.{if◌then◌else◌, is_some, min}
use Rattle.std.proofs.lemmas.Grind.{common_steps}
use Rattle.std.proofs.lemmas.Bool.{cases_eq, cases_lt}
use Rattle.std.proofs.lemmas.List.{get_or-set_other, length-set}
use Rattle.std.proofs.Math.ListN.{get_or-append}
use Rattle.letter_kinds.specs.Letters.{Letter}
use Rattle.machine_rules.proofs.Posting.{push_here, push_other, length-push}
use Rattle.machine_rules.specs.Actors.{Actors, Seat, letters_of, mail_at, push_letter, seat_at, with_letter_more}
use Rattle.machine_rules.specs.Cell.{Cell}
use Rattle.machine_rules.specs.Detect.{empty_seats}
use Rattle.actor_cell.specs.Pushing.{push_all}
use Rattle.actor_table.specs.Changes.{changed_at, with_cell_by}
use Rattle.orca_parts.specs.Woken.{IsLowestWoken, IsWoken, lower_of}
use Rattle.orca_parts.proofs.Giving.{emptied, none_emptied, seats_emptied}
use Rattle.orca_parts.proofs.Posting.{push_keeps}

-- ---- one after another

-- no actor is lost, and no letter
pub record Grows (old new : Actors) : Type 0 where
  pub more : length old ≤ length new
  pub mails : (a : ℕ) → length (mail_at old a) ≤ length (mail_at new a)

pub still_grows : (actors : Actors) → Grows actors actors
still_grows actors = record { more = omega arith; mails = λ a. omega arith }

pub grows_then : (old mid new : Actors) → Grows old mid → Grows mid new → Grows old new
grows_then old mid new first second = record {
  more = omega (arith, first.more, second.more);
  mails = λ a. omega (arith, first.mails a, second.mails a);
}

module _ (old mid new : Actors) (first : Grows old mid) (second : Grows mid new) where
  woken_first : (a : ℕ) → IsWoken old mid a → IsWoken old new a
  woken_first a (inl made) = inl (made.0, omega (arith, made.1, second.more))
  woken_first a (inr got) = inr (omega (arith, got, second.mails a))

  woken_second : (a : ℕ) → IsWoken mid new a → IsWoken old new a
  woken_second a (inl made) = inl (omega (arith, made.0, first.more), made.1)
  woken_second a (inr got) = inr (omega (arith, got, first.mails a))

  woken_by : (a : ℕ) → IsWoken old new a → IsWoken old mid a ⊎ IsWoken mid new a
  woken_by a (inl made) = elim (cases_lt a (length mid)) as (λ _. IsWoken old mid a ⊎ IsWoken mid new a) [
    | inl h ↦ inl (inl (made.0, h))
    | inr past ↦ inr (inl (past, made.1))
  ]
  woken_by a (inr got) = elim (cases_lt (length (mail_at old a)) (length (mail_at mid a))) as (λ _. IsWoken old mid a ⊎ IsWoken mid new a) [
    | inl h ↦ inl (inr h)
    | inr none ↦ inr (inr (omega (arith, none, got)))
  ]

  -- the lowest is the lower of those of both
  pub woken_then : (one two : Option ℕ) → IsLowestWoken old mid one → IsLowestWoken mid new two → IsLowestWoken old new (lower_of one two)
  woken_then None None none never = λ a woken. elim (woken_by a woken) as (λ _. ⊥) [ inl w ↦ none a w | inr w ↦ never a w ]
  woken_then None (Some b) none low = (
    woken_second b low.0,
    λ a woken. elim (woken_by a woken) as (λ _. b ≤ a) [ inl w ↦ absurd (none a w) | inr w ↦ low.1 a w ],
  )
  woken_then (Some b) None low none = (
    woken_first b low.0,
    λ a woken. elim (woken_by a woken) as (λ _. b ≤ a) [ inl w ↦ low.1 a w | inr w ↦ absurd (none a w) ],
  )
  woken_then (Some b) (Some d) low lower = (
    elim (cases_lt b d) as (λ _. IsWoken old new (min b d)) [
      | inl h ↦ subst (IsWoken old new) (let is : b ≡ min b d = omega (arith, h) in is) (woken_first b low.0)
      | inr h ↦ subst (IsWoken old new) (let is : d ≡ min b d = omega (arith, h) in is) (woken_second d lower.0)
    ],
    λ a woken. elim (woken_by a woken) as (λ _. min b d ≤ a) [
      | inl w ↦ omega (arith, low.1 a w)
      | inr w ↦ omega (arith, lower.1 a w)
    ],
  )

-- ---- what comes before wakes nobody

-- where just the same are woken
lowest_same : (old mid new : Actors) (lowest : Option ℕ) → ((a : ℕ) → IsWoken mid new a → IsWoken old new a)
    → ((a : ℕ) → IsWoken old new a → IsWoken mid new a) → IsLowestWoken mid new lowest → IsLowestWoken old new lowest
lowest_same old mid new None up down none = λ a woken. none a (down a woken)
lowest_same old mid new (Some b) up down low = (up b low.0, λ a woken. low.1 a (down a woken))

-- as many letters wait for each as before, or none in the end
pub woken_after : (old mid new : Actors) (lowest : Option ℕ) → length mid ≡ length old
    → ((a : ℕ) → (length (mail_at mid a) ≡ length (mail_at old a)) ⊎ (length (mail_at new a) ≡ 0))
    → IsLowestWoken mid new lowest → IsLowestWoken old new lowest
woken_after old mid new lowest long same low = lowest_same old mid new lowest up down low
  where
    up : (a : ℕ) → IsWoken mid new a → IsWoken old new a
    up a (inl made) = inl (omega (arith, made.0, long), made.1)
    up a (inr got) = elim (same a) as (λ _. IsWoken old new a) [
      | inl as_many ↦ inr (omega (arith, as_many, got))
      | inr none ↦ absurd (omega (arith, none, got))
    ]

    down : (a : ℕ) → IsWoken old new a → IsWoken mid new a
    down a (inl made) = inl (omega (arith, made.0, long), made.1)
    down a (inr got) = elim (same a) as (λ _. IsWoken mid new a) [
      | inl as_many ↦ inr (omega (arith, as_many, got))
      | inr none ↦ absurd (omega (arith, none, got))
    ]

-- no actor comes, and no letter
pub none_woken : (old new : Actors) → length new ≡ length old → ((a : ℕ) → length (mail_at new a) ≤ length (mail_at old a))
    → IsLowestWoken old new None
none_woken old new long fewer a (inl made) = omega (arith, made.0, made.1, long)
none_woken old new long fewer a (inr got) = omega (arith, fewer a, got)

pub still_none : (actors : Actors) → IsLowestWoken actors actors None
still_none actors = none_woken actors actors refl (λ a. omega arith)

-- ---- one letter

mail_more : (letter : Letter) (o : Option Seat)
    → length (letters_of (with_letter_more letter o)) ≡ length (letters_of o) + (if is_some o then 1 else 0)
mail_more letter None = refl
mail_more letter (Some o) = length-append o.mail (letter ∷ [])

module _ (to : ℕ) (letter : Letter) (actors : Actors) where
  mail_to : length (mail_at (push_letter to letter actors) to) ≡ length (mail_at actors to) + (if is_some (seat_at actors to) then 1 else 0)
  mail_to = ap (λ o. length (letters_of o)) (push_here actors to letter) ∙ mail_more letter (seat_at actors to)

  mail_off : (a : ℕ) → a ≢ to → length (mail_at (push_letter to letter actors) a) ≡ length (mail_at actors a)
  mail_off a other = ap (λ o. length (letters_of o)) (push_other actors to letter a other)

  pub push_grows : Grows actors (push_letter to letter actors)
  push_grows = record {
    more = omega (arith, length-push to letter actors);
    mails = λ a. elim (cases_eq a to) as (λ _. length (mail_at actors a) ≤ length (mail_at (push_letter to letter actors) a)) [
      | inl same ↦ subst (λ b. length (mail_at actors b) ≤ length (mail_at (push_letter to letter actors) b)) (sym same) (omega (arith, mail_to))
      | inr other ↦ omega (arith, mail_off a other)
    ];
  }

  -- it wakes its actor, where this is present
  pub push_wakes : IsLowestWoken actors (push_letter to letter actors) (if is_some (seat_at actors to) then Some to else None)
  push_wakes = by (is_some (seat_at actors to)) mail_to
    where
      others : (a : ℕ) → a ≢ to → IsWoken actors (push_letter to letter actors) a → ⊥
      others a other (inl made) = omega (arith, made.0, made.1, length-push to letter actors)
      others a other (inr got) = omega (arith, got, mail_off a other)

      by : (q : Bool) → length (mail_at (push_letter to letter actors) to) ≡ length (mail_at actors to) + (if q then 1 else 0)
          → IsLowestWoken actors (push_letter to letter actors) (if q then Some to else None)
      by true more = (
        inr (omega (arith, more)),
        λ a woken. elim (cases_eq a to) as (λ _. to ≤ a) [ inl same ↦ omega (arith, same) | inr other ↦ absurd (others a other woken) ],
      )
      by false more = λ a woken. elim (cases_eq a to) as (λ _. ⊥) [
        | inl same ↦ it (subst (IsWoken actors (push_letter to letter actors)) same woken)
        | inr other ↦ others a other woken
      ]
        where
          it : IsWoken actors (push_letter to letter actors) to → ⊥
          it (inl made) = omega (arith, made.0, made.1, length-push to letter actors)
          it (inr got) = omega (arith, got, more)

-- ---- what an actor does of itself

same_mail : (change : Cell → Cell) (a : ℕ) (actors : Actors) (b : ℕ)
    → length (mail_at (changed_at (with_cell_by change) a actors) b) ≡ length (mail_at actors b)
same_mail change a actors b = grind (arith, common_steps)

-- where a cell changes first
pub woken_changed : (change : Cell → Cell) (a : ℕ) (old mid new : Actors) (lowest : Option ℕ) → mid ≡ changed_at (with_cell_by change) a old
    → IsLowestWoken mid new lowest → IsLowestWoken old new lowest
woken_changed change a old mid new lowest is low = woken_after old mid new lowest
    (ap length is ∙ length-set old a (with_cell_by change (seat_at old a)))
    (λ b. inl (ap (λ xs. length (mail_at xs b)) is ∙ same_mail change a old b)) low

-- where a cell changes alone
pub none_woken_by : (change : Cell → Cell) (a : ℕ) (old new : Actors) → new ≡ changed_at (with_cell_by change) a old → IsLowestWoken old new None
none_woken_by change a old new is = none_woken old new
    (ap length is ∙ length-set old a (with_cell_by change (seat_at old a)))
    (λ b. omega (arith, ap (λ xs. length (mail_at xs b)) is, same_mail change a old b))

-- ---- actors go, and letters follow

no_mail : (o : Option Seat) → is_some o ≡ false → length (letters_of o) ≡ 0
no_mail None none = refl
no_mail (Some o) none = cc

all_keep : (letters : List (ℕ × Letter)) (actors : Actors) (a : ℕ) → is_some (seat_at (push_all letters actors) a) ≡ is_some (seat_at actors a)
all_keep [] actors a = refl
all_keep (l ∷ letters) actors a = all_keep letters (push_letter l.0 l.1 actors) a ∙ push_keeps l.0 l.1 actors a

-- some went, and the others stay as they were
pub record OnlyLoses (old new : Actors) : Type 0 where
  pub long : length new ≡ length old
  pub others : (a : ℕ) → is_some (seat_at new a) ≡ true → seat_at new a ≡ seat_at old a

pub loses_one : (a : ℕ) (actors : Actors) → OnlyLoses actors (set actors a None)
loses_one a actors = record {
  long = length-set actors a None;
  others = λ b there. elim (cases_eq b a) as (λ _. seat_at (set actors a None) b ≡ seat_at actors b) [
    | inl same ↦ absurd (emptied actors a (subst (λ d. is_some (seat_at (set actors a None) d) ≡ true) same there))
    | inr other ↦ get_or-set_other actors a b None None other
  ];
}

pub loses_all : (members : List ℕ) (actors : Actors) → OnlyLoses actors (empty_seats members actors)
loses_all [] actors = subst (OnlyLoses actors) (sym (none_emptied actors)) (record { long = refl; others = λ b there. refl })
loses_all (a ∷ members) actors =
    let first = loses_one a actors in
    let rest = loses_all members (set actors a None) in
    subst (OnlyLoses actors) (sym (seats_emptied a members actors)) (record {
      long = rest.long ∙ first.long;
      others = λ b there. rest.others b there ∙ first.others b (sym (ap is_some (rest.others b there)) ∙ there);
    })

-- where these went first
pub woken_without : (letters : List (ℕ × Letter)) (old mid new : Actors) (lowest : Option ℕ) → OnlyLoses old mid → new ≡ push_all letters mid
    → IsLowestWoken mid new lowest → IsLowestWoken old new lowest
woken_without letters old mid new lowest loses is low = woken_after old mid new lowest loses.long (λ a. by a (is_some (seat_at mid a)) refl) low
  where
    by : (a : ℕ) (q : Bool) → is_some (seat_at mid a) ≡ q → (length (mail_at mid a) ≡ length (mail_at old a)) ⊎ (length (mail_at new a) ≡ 0)
    by a true there = inl (ap (λ o. length (letters_of o)) (loses.others a there))
    by a false gone = inr (no_mail (seat_at new a) (ap (λ xs. is_some (seat_at xs a)) is ∙ all_keep letters mid a ∙ gone))

-- ---- an actor that is made

-- it alone is woken
pub made_wakes : (o : Option Seat) (old new : Actors) → letters_of o ≡ [] → new ≡ old ++ o ∷ [] → IsLowestWoken old new (Some (length old))
made_wakes o old new empty is = (inl (omega arith, omega (arith, long)), lowest)
  where
    long : length new ≡ length old + 1
    long = ap length is ∙ length-append old (o ∷ [])

    lowest : (a : ℕ) → IsWoken old new a → length old ≤ a
    lowest a (inl made) = made.0
    lowest a (inr got) = elim (cases_lt a (length old)) as (λ _. length old ≤ a) [
      | inl h ↦ absurd (omega (arith, got, ap (λ xs. length (mail_at xs a)) is, ap (λ o. length (letters_of o)) (get_or-append old (o ∷ []) None a h)))
      | inr past ↦ past
    ]
