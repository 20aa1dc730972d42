-- What the first actor that can do something does is the first enabled event.
use Rattle.std.proofs.Common.{◌≡◌, ◌≢◌, ℕ, ◌<◌, ◌≤◌, ◌⊎◌, inl, inr, Bool, true, false, List, [], ◌∷◌, ◌++◌, All, IfNone, IfSome, MatchOption, if◌then◌else◌, length, take, slice_get, Option, None, Some, refl, sym, ap, ap₂, subst, ◌∙◌, arith, nat_lt, option_and_then, slice_set}
use Rattle.std.specs.Option.{option_map_or}
use Rattle.std.specs.Ordering.{nat_cmp, ordering_then}
use Rattle.std.specs.Cmp.{nat_cmp_is}
use Rattle.std.specs.declared.cmp.Ordering.TheVariants.{Less, Equal, Greater}
use Rattle.std.proofs.lemmas.Bool.{cases_lt}
use Rattle.std.proofs.lemmas.List.{get_or-take, length-take-le}
use Rattle.std.proofs.lemmas.Option.{get_or_from_slice_get, slice_get_within}
use Rattle.orca_names.specs.declared.names.Value.{Value}
use Rattle.orca_names.specs.declared.row.Fields.{Fields}
use Rattle.event_rule.specs.Events.{event_cmp}
use Rattle.event_rule.specs.declared.event.Event.{Event}
use Rattle.event_rule.specs.declared.event.Event.TheVariants.{Take, Go, Collect, Leave, Block, Hear, Scan, Reap}
use Rattle.turn_rules.specs.declared.act.Act.{Act}
use Rattle.turn_rules.specs.declared.act.Act.TheVariants.{Post, New, Print, End}
use Rattle.turn_rules.specs.declared.act.Frame.{Frame}
use Rattle.plain_rules.specs.declared.PlainActor.{PlainActor}
use Rattle.plain_rules.specs.declared.PlainLetter.{PlainLetter}
use Rattle.event_rule.specs.Runs.{Step, NotEnabled, IsFull, Goes, IsEnabled, IsFirst, IsQuiet}
use Rattle.plain_rules.specs.Run.{plain_next}
use Rattle.plain_rules.specs.Machine.{PlainState, after_act, after_letter, after_turn, fresh_actor, next_state, plain_go, plain_take, stopped_at, actor_after_take, turn_of_actor, with_name, with_turn}
use Rattle.plain_machine.specs.First.{ComesFirst, IsIdle, event_of, event_with}

-- an actor of the table can do the event
record CanDo (s : PlainState) (e : Event) : Type 0 where
  place : ℕ
  actor : PlainActor
  there : slice_get s.actors place ≡ Some actor
  event : event_of place actor ≡ Some e

-- ---- what is enabled is what some actor can do

-- what a go and a take lead to, by what stands in the table
gone : (s : PlainState) (a : ℕ) → PlainActor → Option Frame → Step PlainState
gone s a x frame = option_map_or (λ f. after_turn s a f (turn_of_actor s a x f)) frame NotEnabled

took : (s : PlainState) (a : ℕ) → Option PlainActor → Step PlainState
took s a found = option_map_or (λ x. Goes (next_state s (slice_set s.actors a x) s.prints)) found NotEnabled

plain_go-at : (s : PlainState) (a : ℕ) (found : Option PlainActor) → slice_get s.actors a ≡ found → plain_go s a ≡ option_map_or (λ x. gone s a x x.frame) found NotEnabled
unfolding gone
plain_go-at s a found e = ap (λ (o : Option PlainActor). option_map_or (λ x. option_map_or (λ f. after_turn s a f (turn_of_actor s a x f)) x.frame NotEnabled) o NotEnabled) e

plain_take-at : (s : PlainState) (a : ℕ) (found : Option PlainActor) → slice_get s.actors a ≡ found → plain_take s a ≡ took s a (option_and_then (actor_after_take s.program) found)
unfolding took
plain_take-at s a found e = ap (λ (o : Option PlainActor). option_map_or (λ x. Goes (next_state s (slice_set s.actors a x) s.prints)) (option_and_then (actor_after_take s.program) o) NotEnabled) e

going : (s : PlainState) (a : ℕ) → IsEnabled plain_next s (Go a) → CanDo s (Go a)
unfolding gone
going s a enabled = of_actor (slice_get s.actors a) refl
  where
    of_frame : (x : PlainActor) → slice_get s.actors a ≡ Some x → (frame : Option Frame) → x.frame ≡ frame → CanDo s (Go a)
    of_frame x there None e = absurd (enabled (plain_go-at s a (Some x) there ∙ ap (gone s a x) e))
    of_frame x there (Some frame) e = record { place = a; actor = x; there = there; event = ap (λ f. event_with a f x.letters) e }

    of_actor : (found : Option PlainActor) → slice_get s.actors a ≡ found → CanDo s (Go a)
    of_actor None e = absurd (enabled (plain_go-at s a None e))
    of_actor (Some x) e = of_frame x e x.frame refl

taking : (s : PlainState) (a : ℕ) → IsEnabled plain_next s (Take a) → CanDo s (Take a)
unfolding took
taking s a enabled = of_actor (slice_get s.actors a) refl
  where
    of_parts : (x : PlainActor) → slice_get s.actors a ≡ Some x → (frame : Option Frame) (letters : List PlainLetter) → x.frame ≡ frame → x.letters ≡ letters → CanDo s (Take a)
    of_parts x there (Some frame) letters e f = absurd (enabled (plain_take-at s a (Some x) there ∙ ap (took s a) (ap₂ (after_letter s.program x) e f)))
    of_parts x there None [] e f = absurd (enabled (plain_take-at s a (Some x) there ∙ ap (took s a) (ap₂ (after_letter s.program x) e f)))
    of_parts x there None (letter ∷ letters) e f = record { place = a; actor = x; there = there; event = ap₂ (event_with a) e f }

    of_actor : (found : Option PlainActor) → slice_get s.actors a ≡ found → CanDo s (Take a)
    of_actor None e = absurd (enabled (plain_take-at s a None e))
    of_actor (Some x) e = of_parts x e x.frame x.letters refl refl

enabled_can_do : (s : PlainState) (e : Event) → IsEnabled plain_next s e → CanDo s e
enabled_can_do s (Go a) enabled = going s a enabled
enabled_can_do s (Take a) enabled = taking s a enabled
enabled_can_do s e enabled = absurd (enabled refl)

-- ---- and what an actor can do is enabled

act_leads_on : (s : PlainState) (a : ℕ) (frame : Frame) (fields : Fields) (made : List (List Value)) (act : Act) → after_act s a frame fields made act ≢ NotEnabled
act_leads_on s a frame fields made End e = cc
act_leads_on s a frame fields made (Print v) e = cc
act_leads_on s a frame fields made (Post to behaviour args) e = cc
act_leads_on s a frame fields made (New kind register) e = cases (nat_lt (length s.actors) 65536) e
  where
    next : PlainState
    next = next_state s (with_turn s.actors a (Some (with_name frame register (length s.actors))) fields made ++ fresh_actor s.program kind ∷ []) s.prints

    cases : (room : Bool) → (if room then Goes next else IsFull) ≢ NotEnabled
    cases true e = cc
    cases false e = cc

can_do_is_enabled : (s : PlainState) (e : Event) → CanDo s e → IsEnabled plain_next s e
unfolding gone took
can_do_is_enabled s e can = by_parts can.actor.frame can.actor.letters refl refl
  where
    a : ℕ
    a = can.place

    x : PlainActor
    x = can.actor

    by_parts : (frame : Option Frame) (letters : List PlainLetter) → x.frame ≡ frame → x.letters ≡ letters → IsEnabled plain_next s e
    by_parts (Some frame) letters f l =
        let it : ◌≡◌ {A = Option Event} (Some (Go a)) (Some e) = sym (ap₂ (event_with a) f l) ∙ can.event in
        let same : Go a ≡ e = cc in
        subst (IsEnabled plain_next s) same (λ none.
        let stop = turn_of_actor s a x frame in
        act_leads_on s a (stopped_at frame stop) stop.turn.fields stop.turn.made stop.act
        (sym (plain_go-at s a (Some x) can.there ∙ ap (gone s a x) f) ∙ none))
    by_parts None (letter ∷ letters) f l =
        let it : ◌≡◌ {A = Option Event} (Some (Take a)) (Some e) = sym (ap₂ (event_with a) f l) ∙ can.event in
        let same : Take a ≡ e = cc in
        subst (IsEnabled plain_next s) same (λ none.
        let goes = sym (plain_take-at s a (Some x) can.there ∙ ap (took s a) (ap₂ (after_letter s.program x) f l)) ∙ none in cc)
    by_parts None [] f l =
        let it : ◌≡◌ {A = Option Event} None (Some e) = sym (ap₂ (event_with a) f l) ∙ can.event in cc

-- ---- the order

-- an actor's event is its go or its take
is_own : (a : ℕ) (x : PlainActor) (e : Event) → event_of a x ≡ Some e → (Go a ≡ e) ⊎ (Take a ≡ e)
is_own a x e h = by_parts x.frame x.letters refl refl
  where
    by_parts : (frame : Option Frame) (letters : List PlainLetter) → x.frame ≡ frame → x.letters ≡ letters → (Go a ≡ e) ⊎ (Take a ≡ e)
    by_parts (Some frame) letters f l = let it : ◌≡◌ {A = Option Event} (Some (Go a)) (Some e) = sym (ap₂ (event_with a) f l) ∙ h in inl (cc)
    by_parts None (letter ∷ letters) f l = let it : ◌≡◌ {A = Option Event} (Some (Take a)) (Some e) = sym (ap₂ (event_with a) f l) ∙ h in inr (cc)
    by_parts None [] f l = let it : ◌≡◌ {A = Option Event} None (Some e) = sym (ap₂ (event_with a) f l) ∙ h in absurd (cc)

-- an event of a lower actor comes first
lower_first : (a b : ℕ) (e f : Event) → a < b → (Go a ≡ e) ⊎ (Take a ≡ e) → (Go b ≡ f) ⊎ (Take b ≡ f) → event_cmp e f ≡ Less
lower_first a b e f h mine other =
    elim mine as (λ _. event_cmp e f ≡ Less) [
      | inl p ↦ elim other as (λ _. event_cmp e f ≡ Less) [
        | inl q ↦ sym (ap₂ event_cmp p q) ∙ ap (λ o. ordering_then o Equal) less
        | inr q ↦ sym (ap₂ event_cmp p q) ∙ ap (λ o. ordering_then o Less) less
      ]
      | inr p ↦ elim other as (λ _. event_cmp e f ≡ Less) [
        | inl q ↦ sym (ap₂ event_cmp p q) ∙ ap (λ o. ordering_then o Greater) less
        | inr q ↦ sym (ap₂ event_cmp p q) ∙ ap (λ o. ordering_then o Equal) less
      ]
    ]
  where
    less : nat_cmp a b ≡ Less
    less = sym (nat_cmp_is a b Less h)

same_ties : (a : ℕ) (e : Event) → (Go a ≡ e) ⊎ (Take a ≡ e) → event_cmp e e ≡ Equal
same_ties a e mine =
    elim mine as (λ _. event_cmp e e ≡ Equal) [
      | inl p ↦ sym (ap (λ x. event_cmp x x) p) ∙ ap (λ o. ordering_then o Equal) tie
      | inr p ↦ sym (ap (λ x. event_cmp x x) p) ∙ ap (λ o. ordering_then o Equal) tie
    ]
  where
    tie : nat_cmp a a ≡ Equal
    tie = sym (nat_cmp_is a a Equal refl)

-- one that is idle has no event, whatever its number
idle_has_none : (a : ℕ) (x : PlainActor) → IsIdle x → event_of a x ≡ None
idle_has_none a x idle = by_parts x.frame x.letters refl refl
  where
    by_parts : (frame : Option Frame) (letters : List PlainLetter) → x.frame ≡ frame → x.letters ≡ letters → event_of a x ≡ None
    by_parts (Some frame) letters f l = let it : ◌≡◌ {A = Option Event} (Some (Go 0)) None = sym (ap₂ (event_with 0) f l) ∙ idle in cc
    by_parts None (letter ∷ letters) f l = let it : ◌≡◌ {A = Option Event} (Some (Take 0)) None = sym (ap₂ (event_with 0) f l) ∙ idle in cc
    by_parts None [] f l = ap₂ (event_with a) f l

-- an actor among those that are idle can do nothing
idle_can_not : (actors : List PlainActor) (a : ℕ) (x : PlainActor) (e : Event) → All IsIdle actors → slice_get actors a ≡ Some x → event_of a x ≢ Some e
idle_can_not actors a x e idle there event =
    let it : IsIdle x = subst IsIdle (get_or_from_slice_get actors a x x there) (idle a x (slice_get_within actors a x there)) in
    let none = idle_has_none a x it in
    cc

before_can_not : (actors : List PlainActor) (n a : ℕ) (x : PlainActor) (e : Event) → n ≤ length actors → a < n → All IsIdle (take n actors) → slice_get actors a ≡ Some x → event_of a x ≢ Some e
before_can_not actors n a x e within h idle there event =
    let at = get_or-take n actors a x h ∙ get_or_from_slice_get actors a x x there in
    let it : IsIdle x = subst IsIdle at (idle a x (omega (arith, length-take-le n actors within))) in
    let none = idle_has_none a x it in
    cc

comes_first_is_first : (s : PlainState) (e : Event) → ComesFirst s.actors e → IsFirst plain_next s e
comes_first_is_first s e first = record {
  enabled = can_do_is_enabled s e (record { place = first.place; actor = first.actor; there = first.there; event = first.event });
  least = λ f enabled.
      let can = enabled_can_do s f enabled in
      let mine = is_own first.place first.actor e first.event in
      let other = is_own can.place can.actor f can.event in
      let within = slice_get_within s.actors first.place first.actor first.there in
      elim (cases_lt can.place first.place) as (λ _. event_cmp e f ≢ Greater) [
        | inl lower ↦ absurd (before_can_not s.actors first.place can.place can.actor f (omega (arith, within)) lower first.before can.there can.event)
        | inr h ↦ elim (cases_lt first.place can.place) as (λ _. event_cmp e f ≢ Greater) [
          | inl higher ↦ let less = lower_first first.place can.place e f higher mine other in λ g. cc
          | inr k ↦ λ g.
              let same : can.place ≡ first.place = omega arith in
              let actors : ◌≡◌ {A = Option PlainActor} (Some can.actor) (Some first.actor) = sym can.there ∙ (ap (slice_get s.actors) same ∙ first.there) in
              let actor : can.actor ≡ first.actor = cc in
              let events : ◌≡◌ {A = Option Event} (Some f) (Some e) = sym can.event ∙ (ap₂ event_of same actor ∙ first.event) in
              let event : f ≡ e = cc in
              let ties = same_ties first.place e mine in
              let greater : event_cmp e e ≡ Greater = subst (λ x. event_cmp e x ≡ Greater) event g in
              cc
        ]
      ];
}

idle_is_quiet : (s : PlainState) → All IsIdle s.actors → IsQuiet plain_next s
idle_is_quiet s idle e = cases (plain_next s e) refl
  where
    can_not : ¬ IsEnabled plain_next s e
    can_not enabled = let can = enabled_can_do s e enabled in idle_can_not s.actors can.place can.actor e idle can.there can.event

    cases : (o : Step PlainState) → plain_next s e ≡ o → plain_next s e ≡ NotEnabled
    cases NotEnabled h = h
    cases IsFull h = absurd (can_not (λ none. cc))
    cases (Goes t) h = absurd (can_not (λ none. cc))

pub first_matches : (s : PlainState) (actors : List PlainActor) → actors ≡ s.actors → (result : Option Event) → IfNone result (All IsIdle actors) → IfSome result (ComesFirst actors) →
    MatchOption result (IsQuiet plain_next s) (IsFirst plain_next s)
first_matches s actors same None none some = idle_is_quiet s (subst (All IsIdle) same none)
first_matches s actors same (Some e) none some = comes_first_is_first s e (subst (λ xs. ComesFirst xs e) same some)
