-- What the table and the detector tell first is the first enabled event of an actor, and of the detector.
use Rattle.std.proofs.Common.{◌≡◌, ◌≢◌, ◌≤◌, ◌==◌, ℕ, Bool, true, false, List, [], ◌∷◌, Option, Some, None, refl, sym, subst, ◌∙◌, arith, eqb-true}
use Rattle.std.specs.Prelude.{if◌then◌else◌, option_and_then, option_map, IfSome, MatchOption}
use Rattle.std.specs.Option.{option_map_or}
use Rattle.std.specs.List.{AllByRecursion, find}
use Rattle.event_rule.specs.Events.{first_of, is_of, is_of_detector}
use Rattle.event_rule.specs.declared.event.Event.{Event}
use Rattle.event_rule.specs.declared.event.Event.TheVariants.{Reap}
use Rattle.event_rule.proofs.Order.{IsFirstOf, NonePasses, first_is, off, own, theirs, upto_by}
use Rattle.event_rule.proofs.Ordered.{Upto}
use Rattle.letter_kinds.specs.Detector.{Token, all_acked}
use Rattle.letter_kinds.specs.Letters.{Letter}
use Rattle.machine_rules.specs.Guards.{may_do}
use Rattle.machine_rules.specs.State.{State}
use Rattle.detector_tokens.specs.Open.{IsLowestAcked, first_acked}
use Rattle.actor_table.specs.declared.slot.Slot.{Slot}
use Rattle.actor_table.specs.declared.slot.Place.{Place}
use Rattle.actor_table.specs.declared.slot.Place.TheVariants.{Home, Away, Gone}
use Rattle.actor_table.specs.Slots.{actors_of, away_of, event_in, event_of, is_away_in, may_in, seat_in, slot_at}
use Rattle.orca_core.proofs.Enabled.{Can, IsFound, first_of_kind, quiet_of_kind}

-- ---- of an actor

-- what the actor at this place, with these letters, may do at home
abbrev may_event : Place → List Letter → Event → Bool
may_event p mail e = may_in (λ c letters. may_do c letters e) p mail

-- an actor's first event is the first that it may do at home
by_tests : (a : ℕ) (p : Place) (mail : List Letter)
    → (if is_away_in p then None else option_and_then (event_in a) (seat_in p mail)) ≡ first_of (may_event p mail) a
by_tests a (Home c) mail = refl
by_tests a (Away c) mail = refl
by_tests a Gone mail = refl

-- ---- of tokens

-- the token of this number is among these, and all its members acknowledged
abbrev is_acked_in : ℕ → List Token → Bool
is_acked_in n tokens = option_map_or all_acked (find (λ (t : Token). t.number == n) tokens) false

-- no such token has a number below the lowest
lowest_upto : (number n : ℕ) (tokens : List Token)
    → AllByRecursion (λ (t : Token). all_acked t ≡ true → number ≤ t.number) tokens
    → is_acked_in n tokens ≡ true → number ≤ n
lowest_upto number n [] low on = cc
lowest_upto number n (t ∷ tokens) low on = by (t.number == n) refl (lowest_upto number n tokens low.1) on
  where
    by : (this : Bool) → (t.number == n) ≡ this → (is_acked_in n tokens ≡ true → number ≤ n)
        → option_map_or all_acked (if this then Some t else find (λ (u : Token). u.number == n) tokens) false ≡ true
        → number ≤ n
    by true is later on = omega (arith, low.0 on, eqb-true t.number n is)
    by false is later on = later on

-- where no token is found whose members all acknowledged, that of no number is such
none_acked : (n : ℕ) (tokens : List Token) → first_acked tokens ≡ None → is_acked_in n tokens ≢ true
none_acked n [] none on = cc
none_acked n (t ∷ tokens) none on = by (all_acked t) refl (t.number == n) (λ later. none_acked n tokens later) none on
  where
    by : (acked : Bool) → all_acked t ≡ acked → (this : Bool)
        → (first_acked tokens ≡ None → is_acked_in n tokens ≢ true)
        → option_map (λ (u : Token). u.number) (if acked then Some t else find all_acked tokens) ≡ None
        → option_map_or all_acked (if this then Some t else find (λ (u : Token). u.number == n) tokens) false ≢ true
    by true is this later none on = cc
    by false is true later none on = off (all_acked t) is on
    by false is false later none on = later none on

module _ (slots : List Slot) (away : List Bool) (s : State)
    (out : away ≡ away_of slots) (same : s.actors ≡ actors_of slots) where
  -- an actor's first event is the first of its enabled events
  pub first_of_actor : (a : ℕ) (found : Option Event) → found ≡ event_of a (slot_at slots a)
      → IsFound (is_of a) away s found
  first_of_actor a found is =
      subst (IsFound (is_of a) away s) (sym (is ∙ by_tests a x.place x.mail.letters)) (by (first_of may a) (first_is may a))
    where
      x : Slot
      x = slot_at slots a

      may : Event → Bool
      may = may_event x.place x.mail.letters

      -- what it may do at home can be, and the other way round
      can : (f : Event) → is_of a f ≡ true → may f ≡ true → Can slots s f
      can = own (λ f. may f ≡ true → Can slots s f) a (λ on. on) (λ on. on) (λ on. on) (λ on. on) (λ on. on)

      only : (f : Event) → is_of a f ≡ true → Can slots s f → may f ≡ true
      only = own (λ f. Can slots s f → may f ≡ true) a (λ on. on) (λ on. on) (λ on. on) (λ on. on) (λ on. on)

      by : (o : Option Event) → MatchOption o (NonePasses may a) (IsFirstOf may a) → IsFound (is_of a) away s o
      by None none = quiet_of_kind slots away s out same (is_of a) (λ f its on. none f its (only f its on))
      by (Some e) first = first_of_kind slots away s out same (is_of a) e first.0 (can e first.0 first.1)
          (λ f its on. first.2 f its (only f its on))

  -- where nothing is to be heard or scanned, the lowest token that all acknowledged is the detector's first
  pub first_of_tokens : s.notes ≡ [] → s.detector.news ≡ false → (found : Option ℕ)
      → found ≡ first_acked s.detector.tokens → IfSome found (IsLowestAcked s.detector)
      → IsFound is_of_detector away s (option_map Reap found)
  first_of_tokens heard scanned None none lowest = quiet_of_kind slots away s out same is_of_detector
      (theirs (λ f. ¬ Can slots s f) (λ some. some heard) (off s.detector.news scanned)
      (λ n. none_acked n s.detector.tokens (sym none)))
  first_of_tokens heard scanned (Some number) is lowest =
      first_of_kind slots away s out same is_of_detector (Reap number) refl lowest.acked
      (theirs (λ f. Can slots s f → Upto (Reap number) f) (λ some. absurd (some heard)) (off s.detector.news scanned)
      (λ n on. upto_by (Reap number) (Reap n) (omega arith)
      (λ r. lowest_upto number n s.detector.tokens lowest.lowest on) (λ r same. omega arith)))
