-- Whether an event that is no choice is enabled can be found out.
use Rattle.std.proofs.Common.{◌≡◌, ◌≢◌, ◌⊎◌, ℕ, zero, suc, ◌≤◌, ◌<◌, Bool, true, false, Option, Some, None, List, [], ◌∷◌, length, refl, ap, sym, subst, ◌∙◌, arith, inl, inr, ⊎_elim, Contains}
use Rattle.std.proofs.lemmas.Bool.{cases_eq, cases_lt, false≢true}
use Rattle.std.proofs.lemmas.List.{get_or_past}
use Rattle.event_rule.specs.declared.event.Event.{Event}
use Rattle.event_rule.specs.declared.event.Event.TheVariants.{Take, Go, Collect, Leave, Block, Hear, Scan, Reap}
use Rattle.letter_kinds.specs.Detector.{Token}
use Rattle.event_rule.proofs.Steps.{not_enabled}
use Rattle.machine_rules.specs.Actors.{seat_at}
use Rattle.event_rule.specs.Runs.{Step, NotEnabled, IsFull, Goes}
use Rattle.machine_rules.specs.Next.{next, acting}
use Rattle.machine_rules.specs.Run.{is_choice}
use Rattle.machine_rules.specs.State.{State}
use Rattle.detector_laws.proofs.Members.{first_or_later, none_in_empty}
use Rattle.detector_laws.proofs.Named.{numbered_is_open}
use Rattle.std.specs.Option.{option_map_or}
use Rattle.machine_rules.specs.Block.{block}
use Rattle.machine_rules.specs.Collect.{collect}
use Rattle.machine_rules.specs.Detect.{acked_token, reap}
use Rattle.machine_rules.specs.Go.{go}
use Rattle.machine_rules.specs.Guards.{may_block, may_collect, may_go, may_leave, may_take}
use Rattle.machine_rules.specs.Leave.{leave}
use Rattle.machine_rules.specs.Take.{take}
use Rattle.machine_rules.proofs.Guards.{acked_open}

-- the event leads to a state, and is no choice
abbrev pub IsCalm : State → Event → Type 0
IsCalm s e = (t : State) × (next s e ≡ Goes t) × (is_choice s e ≡ false)

module _ (s : State) where
  abbrev SomeCalm : Type 0
  SomeCalm = (e : Event) × IsCalm s e

  -- ---- one event

  calm_or_not : (e : Event) → SomeCalm ⊎ (¬ IsCalm s e)
  calm_or_not e = by_step (next s e) (is_choice s e) refl refl
    where
      by_step : (step : Step State) (choice : Bool) → next s e ≡ step → is_choice s e ≡ choice → SomeCalm ⊎ (¬ IsCalm s e)
      by_step (Goes t) false goes calm = inl (e, (t, goes, calm))
      by_step (Goes t) true goes chosen = inr (λ k. false≢true (sym k.2 ∙ chosen))
      by_step NotEnabled choice off is = inr (λ k. not_enabled k.0 (sym off ∙ k.1))
      by_step IsFull choice full is = inr (λ k. let same : IsFull ≡ Goes k.0 = sym full ∙ k.1 in cc)

  -- ---- the events of an actor

  abbrev NoneOfActor : ℕ → Type 0
  NoneOfActor a = (¬ IsCalm s (Take a)) × (¬ IsCalm s (Go a)) × (¬ IsCalm s (Collect a)) × (¬ IsCalm s (Leave a)) × (¬ IsCalm s (Block a))

  of_actor : (a : ℕ) → SomeCalm ⊎ NoneOfActor a
  of_actor a =
      ⊎_elim inl (λ takes. ⊎_elim inl (λ goes. ⊎_elim inl (λ collects. ⊎_elim inl (λ leaves. ⊎_elim inl (λ blocks. inr (takes, goes, collects, leaves, blocks))
      (calm_or_not (Block a))) (calm_or_not (Leave a))) (calm_or_not (Collect a))) (calm_or_not (Go a))) (calm_or_not (Take a))

  of_actors : (n : ℕ) → SomeCalm ⊎ ((a : ℕ) → a < n → NoneOfActor a)
  of_actors zero = inr (λ a within. absurd (omega arith))
  of_actors (suc n) =
      ⊎_elim inl (λ mine. ⊎_elim inl (λ others. inr (λ a within. ⊎_elim (λ same. subst NoneOfActor (sym same) mine) (λ other. others a (omega arith)) (cases_eq a n))) (of_actors n)) (of_actor n)

  -- who was never made has no event
  none_past : (a : ℕ) → length s.actors ≤ a → NoneOfActor a
  none_past a past =
      let nobody : seat_at s.actors a ≡ None = get_or_past s.actors a None past in (
        λ k. not_enabled k.0 (sym (ap (acting may_take (take s a)) nobody) ∙ k.1),
        λ k. not_enabled k.0 (sym (ap (acting may_go (go s.options.trace s a)) nobody) ∙ k.1),
        λ k. not_enabled k.0 (sym (ap (acting may_collect (collect s.options.trace s a)) nobody) ∙ k.1),
        λ k. not_enabled k.0 (sym (ap (acting may_leave (leave s a)) nobody) ∙ k.1),
        λ k. not_enabled k.0 (sym (ap (acting may_block (block s a)) nobody) ∙ k.1),
      )

  none_of : ((a : ℕ) → a < length s.actors → NoneOfActor a) → (a : ℕ) → NoneOfActor a
  none_of within a = ⊎_elim (within a) (none_past a) (cases_lt a (length s.actors))

  -- ---- reaps

  of_tokens : (tokens : List Token) → SomeCalm ⊎ ((t : Token) → Contains tokens t → ¬ IsCalm s (Reap t.number))
  of_tokens [] = inr (λ t i. absurd (none_in_empty t i))
  of_tokens (u ∷ tokens) =
      ⊎_elim inl (λ first. ⊎_elim inl (λ later. inr (λ t i. ⊎_elim (λ same. subst (λ (x : Token). ¬ IsCalm s (Reap x.number)) (sym same) first) (later t) (first_or_later u tokens t i))) (of_tokens tokens)) (calm_or_not (Reap u.number))

  -- only an open token is reaped
  no_reap : ((t : Token) → Contains s.detector.tokens t → ¬ IsCalm s (Reap t.number)) → (number : ℕ) → ¬ IsCalm s (Reap number)
  no_reap none number k = by_found (acked_token number s.detector) refl
    where
      by_found : (found : Option Token) → acked_token number s.detector ≢ found
      by_found None at = not_enabled k.0 (sym (ap (λ found. option_map_or (reap s) found NotEnabled) at) ∙ k.1)
      by_found (Some t) at =
          let is_open = numbered_is_open s.detector number t (acked_open number s.detector t at).0 in
          none t is_open.0 (subst (λ i. IsCalm s (Reap i)) (sym is_open.1) k)

  -- ---- all events

  none_left : ((a : ℕ) → NoneOfActor a) → ¬ IsCalm s Hear → ¬ IsCalm s Scan → ((number : ℕ) → ¬ IsCalm s (Reap number)) → (e : Event) → ¬ IsCalm s e
  none_left actors hears scans reaps (Take a) = (actors a).0
  none_left actors hears scans reaps (Go a) = (actors a).1
  none_left actors hears scans reaps (Collect a) = (actors a).2
  none_left actors hears scans reaps (Leave a) = (actors a).3
  none_left actors hears scans reaps (Block a) = (actors a).4
  none_left actors hears scans reaps Hear = hears
  none_left actors hears scans reaps Scan = scans
  none_left actors hears scans reaps (Reap number) = reaps number

  pub some_or_none : ((e : Event) × IsCalm s e) ⊎ ((e : Event) → ¬ IsCalm s e)
  some_or_none =
      ⊎_elim inl (λ actors. ⊎_elim inl (λ hears. ⊎_elim inl (λ scans. ⊎_elim inl (λ tokens. inr (none_left (none_of actors) hears scans (no_reap tokens)))
      (of_tokens s.detector.tokens)) (calm_or_not Scan)) (calm_or_not Hear)) (of_actors (length s.actors))
