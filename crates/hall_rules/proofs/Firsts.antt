-- The first event of an actor, of the free ones and of the detector, where no cell is away.
use Rattle.std.proofs.Common.{◌≡◌, ◌≢◌, ℕ, ◌==◌, Bool, true, false, List, [], Option, Some, None, refl, sym, ap, subst, ◌∙◌, eqb-true}
use Rattle.std.specs.Prelude.{if◌then◌else◌, MatchOption}
use Rattle.std.specs.Option.{option_map_or}
use Rattle.event_rule.specs.Events.{actor_of, is_of}
use Rattle.event_rule.specs.Runs.{Goes, IsFirst, IsFull, IsQuiet, Machine, NotEnabled, Step}
use Rattle.event_rule.specs.declared.event.Event.{Event}
use Rattle.event_rule.proofs.Order.{IsFirstOf, NonePasses, first_is, own}
use Rattle.event_rule.proofs.OneRun.{none_at_quiet, one_is_first}
use Rattle.machine_rules.specs.Next.{next}
use Rattle.machine_rules.specs.State.{State}
use Rattle.orca_parts.specs.Away.{is_out, next_without}
use Rattle.orca_core.specs.Firsts.{next_of_kind}
use Rattle.orca_core.proofs.Enabled.{in_kind, of_kind, with_none_away}
use Rattle.hall_rules.specs.Causes.{event_at, is_enabled}

-- where no cell is away, the events of a kind lead where they do
pub same_kind : (kind : Event → Bool) (away : List Bool) → ((a : ℕ) → is_out away a ≡ false)
    → next_of_kind kind away ≡ next_of_kind kind []
same_kind kind away home =
    let same : next_without away ≡ next_without [] = with_none_away away home ∙ sym (with_none_away [] (λ a. refl)) in
    λ i s e. if kind e then same i s e else NotEnabled

-- what an event of this one leads to, as one of the actor a, while these cells are away
abbrev led_of : ℕ → List Bool → Option ℕ → Step State → Step State
led_of a away who step =
    if option_map_or (λ b. b == a) who false then (if option_map_or (is_out away) who false then NotEnabled else step)
    else NotEnabled

-- the events of an actor whose cell is not away lead where they do, too
pub same_of : (a : ℕ) (away : List Bool) → is_out away a ≡ false → next_of_kind (is_of a) away ≡ next_of_kind (is_of a) []
same_of a away home i s e = by (actor_of e) (next s e) i
  where
    by : (who : Option ℕ) (step : Step State) → led_of a away who step ≡ led_of a [] who step
    by None step = refl
    by (Some b) step = pick (b == a) refl
      where
        pick : (c : Bool) → (b == a) ≡ c
            → (if c then (if is_out away b then NotEnabled else step) else NotEnabled) ≡ (if c then step else NotEnabled)
        pick true is = ap (λ o. if o then NotEnabled else step) (ap (is_out away) (eqb-true b a is) ∙ home)
        pick false is = refl

-- what was found is the first of these events; nothing: none is enabled
abbrev IsFound : Machine State → State → Option Event → Type 0
IsFound step s found = MatchOption found (IsQuiet step s) (IsFirst step s)

-- only one thing can be found
one_found : (step : Machine State) (s : State) (x y : Option Event) → IsFound step s x → IsFound step s y → x ≡ y
one_found step s None None p q = refl
one_found step s None (Some f) p q = absurd (none_at_quiet step s f p q)
one_found step s (Some e) None p q = absurd (none_at_quiet step s e q p)
one_found step s (Some e) (Some f) p q = ap Some (one_is_first step s e f p q)

-- ---- an actor's first event

enabled_on : (step : Step State) → is_enabled step ≡ true → step ≢ NotEnabled
enabled_on NotEnabled is e = cc
enabled_on IsFull is e = cc
enabled_on (Goes t) is e = cc

enabled_if : (step : Step State) → step ≢ NotEnabled → is_enabled step ≡ true
enabled_if NotEnabled on = absurd (on refl)
enabled_if IsFull on = refl
enabled_if (Goes t) on = refl

not_enabled : (step : Step State) → is_enabled step ≡ false → step ≡ NotEnabled
not_enabled NotEnabled is = refl
not_enabled IsFull is = cc
not_enabled (Goes t) is = cc

module _ (s : State) (a : ℕ) where
  abbrev here : Machine State
  here = next_of_kind (is_of a) []

  abbrev on : Event → Bool
  on e = is_enabled (next s e)

  -- with no cell away an event leads where it does
  plain : (e : Event) → next_without [] s e ≡ next s e
  plain e = ap (λ (step : Machine State). step s e) (with_none_away [] (λ b. refl))

  -- an event of it that passes is first where none that passes comes before
  first : (e : Event) → IsFirstOf on a e → IsFirst here s e
  first e is = record {
    enabled = in_kind (is_of a e) (next_without [] s e) is.0 (λ none. enabled_on (next s e) is.1 (sym (plain e) ∙ none));
    least = λ f f_on.
        let z = of_kind (is_of a f) (next_without [] s f) f_on in
        is.2 f z.0 (enabled_if (next s f) (λ none. z.1 (plain f ∙ none)));
  }

  quiet : NonePasses on a → IsQuiet here s
  quiet none f = by (is_of a f) refl (is_enabled (next s f)) refl
    where
      by : (b : Bool) → is_of a f ≡ b → (c : Bool) → is_enabled (next s f) ≡ c → here s f ≡ NotEnabled
      by false is c on_is = ap (λ b. if b then next_without [] s f else NotEnabled) is
      by true is true on_is = absurd (none f is on_is)
      by true is false on_is =
          ap (λ b. if b then next_without [] s f else NotEnabled) is ∙ plain f ∙ not_enabled (next s f) on_is

  -- the first of them that is enabled is first
  first_found : (found : Option Event) → MatchOption found (NonePasses on a) (IsFirstOf on a) → IsFound here s found
  first_found None none = quiet none
  first_found (Some e) is = first e is

  -- so it is what is found of the actor
  pub event_is : (found : Option Event) → IsFound here s found → found ≡ event_at s a
  event_is found is = one_found here s found (event_at s a) is (first_found (event_at s a) (first_is on a))

  -- and an event of the actor
  pub event_of_actor : (e : Event) → event_at s a ≡ Some e → actor_of e ≡ Some a
  event_of_actor e is = own (λ f. actor_of f ≡ Some a) a refl refl refl refl refl e
      (subst (λ o. MatchOption o (NonePasses on a) (IsFirstOf on a)) is (first_is on a)).0
