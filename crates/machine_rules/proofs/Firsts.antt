-- Where a state is not quiet, one event is the first of those that are enabled.
use Rattle.std.proofs.Common.{◌≡◌, ◌⊎◌, ℕ, zero, suc, ◌<◌, ◌==◌, true, false, Some, List, [], ◌∷◌, length, refl, ap, sym, subst, ◌∙◌, arith, inl, inr, ⊎_elim, eqb-true}
use Rattle.std.specs.List.{find}
use Rattle.std.specs.Prelude.{if◌then◌else◌, ⊤}
use Rattle.std.proofs.lemmas.Bool.{cases_eq, cases_lt}
use Rattle.event_rule.specs.declared.event.Event.{Event}
use Rattle.event_rule.specs.declared.event.Event.TheVariants.{Take, Go, Collect, Leave, Block, Hear, Scan, Reap}
use Rattle.letter_kinds.specs.Detector.{Token}
use Rattle.machine_rules.proofs.Enabling.{enabled_exactly, full_exactly}
use Rattle.event_rule.proofs.Ordered.{Upto, upto_or, upto_trans}
use Rattle.machine_rules.proofs.Guards.{acked_open}
use Rattle.machine_rules.proofs.Present.{present_below}
use Rattle.event_rule.specs.Events.{actor_of}
use Rattle.machine_rules.specs.Enabled.{CanHappen}
use Rattle.event_rule.specs.Runs.{ActorsFull, Budget, Ending, EndsAs, GoesOn, Quiet, GoesOnOrEnds, QuietOrFirst, IsEnabled, IsFirst, IsQuiet, Step, NotEnabled, IsFull, Goes}
use Rattle.machine_rules.specs.Next.{next}
use Rattle.machine_rules.specs.State.{State}

module _ (s : State) where
  -- ---- of those with a mark, the first that is enabled, or none is

  pub record IsBest (P : Event → Type 0) : Type 0 where
    pub event : Event
    pub enabled : IsEnabled next s event
    pub least : (f : Event) → P f → IsEnabled next s f → Upto event f

  abbrev Best : (Event → Type 0) → Type 0
  Best P = IsBest P ⊎ ((f : Event) → P f → ¬ IsEnabled next s f)

  enabled_or_not : (e : Event) → IsEnabled next s e ⊎ (next s e ≡ NotEnabled)
  enabled_or_not e = by_step (next s e) refl
    where
      by_step : (step : Step State) → next s e ≡ step → IsEnabled next s e ⊎ (next s e ≡ NotEnabled)
      by_step NotEnabled is = inr is
      by_step IsFull is = inl (λ off. let z = sym is ∙ off in cc)
      by_step (Goes t) is = inl (λ off. let z = sym is ∙ off in cc)

  itself : (e : Event) → Upto e e
  itself e = ⊎_elim (λ h. h) (λ h. h) (upto_or e e)

  best_one : (e : Event) → Best (λ f. f ≡ e)
  best_one e = ⊎_elim
      (λ on. inl (record { event = e; enabled = on; least = λ f same h. subst (Upto e) (sym same) (itself e) }))
      (λ off. inr (λ f same h. h (ap (next s) same ∙ off)))
      (enabled_or_not e)

  best_both : (P Q : Event → Type 0) → Best P → Best Q → Best (λ f. P f ⊎ Q f)
  best_both P Q (inl p) (inl q) = inl (⊎_elim
      (λ up. record { event = p.event; enabled = p.enabled; least = λ f mark h. ⊎_elim (λ m. p.least f m h) (λ m. upto_trans p.event q.event f up (q.least f m h)) mark })
      (λ up. record { event = q.event; enabled = q.enabled; least = λ f mark h. ⊎_elim (λ m. upto_trans q.event p.event f up (p.least f m h)) (λ m. q.least f m h) mark })
      (upto_or p.event q.event))
  best_both P Q (inl p) (inr none) = inl (record { event = p.event; enabled = p.enabled; least = λ f mark h. ⊎_elim (λ m. p.least f m h) (λ m. absurd (none f m h)) mark })
  best_both P Q (inr none) (inl q) = inl (record { event = q.event; enabled = q.enabled; least = λ f mark h. ⊎_elim (λ m. absurd (none f m h)) (λ m. q.least f m h) mark })
  best_both P Q (inr none) (inr nor) = inr (λ f mark h. ⊎_elim (λ m. none f m h) (λ m. nor f m h) mark)

  best_of : (P Q : Event → Type 0) → ((f : Event) → IsEnabled next s f → Q f → P f) → Best P → Best Q
  best_of P Q covers (inl p) = inl (record { event = p.event; enabled = p.enabled; least = λ f mark h. p.least f (covers f h mark) h })
  best_of P Q covers (inr none) = inr (λ f mark h. none f (covers f h mark) h)

  -- ---- the events of actors

  abbrev ByActor : ℕ → Event → Type 0
  ByActor a f = actor_of f ≡ Some a

  abbrev Five : ℕ → Event → Type 0
  Five a f = (f ≡ Take a) ⊎ ((f ≡ Go a) ⊎ ((f ≡ Collect a) ⊎ ((f ≡ Leave a) ⊎ (f ≡ Block a))))

  five : (a : ℕ) (f : Event) → ByActor a f → Five a f
  five a (Take b) mine = let same : b ≡ a = cc in inl (ap Take same)
  five a (Go b) mine = let same : b ≡ a = cc in inr (inl (ap Go same))
  five a (Collect b) mine = let same : b ≡ a = cc in inr (inr (inl (ap Collect same)))
  five a (Leave b) mine = let same : b ≡ a = cc in inr (inr (inr (inl (ap Leave same))))
  five a (Block b) mine = let same : b ≡ a = cc in inr (inr (inr (inr (ap Block same))))
  five a Hear mine = cc
  five a Scan mine = cc
  five a (Reap token) mine = cc

  of_actor : (a : ℕ) → Best (ByActor a)
  of_actor a = best_of (Five a) (ByActor a) (λ f h mine. five a f mine)
      (best_both _ _ (best_one (Take a)) (best_both _ _ (best_one (Go a)) (best_both _ _ (best_one (Collect a)) (best_both _ _ (best_one (Leave a)) (best_one (Block a))))))

  abbrev ByActorBelow : ℕ → Event → Type 0
  ByActorBelow n f = (a : ℕ) × (a < n) × ByActor a f

  of_actors : (n : ℕ) → Best (ByActorBelow n)
  of_actors zero = inr (λ f mark h. absurd (let below = mark.1 in omega arith))
  of_actors (suc n) = best_of (λ f. ByActor n f ⊎ ByActorBelow n f) (ByActorBelow (suc n))
      (λ f h mark. ⊎_elim
      (λ same. inl (mark.2 ∙ ap Some same))
      (λ other. inr (mark.0, (let below = mark.1 in omega arith), mark.2))
      (cases_eq mark.0 n))
      (best_both (ByActor n) (ByActorBelow n) (of_actor n) (of_actors n))

  -- ---- reaps

  abbrev IsAmong : ℕ → List Token → Type 0
  IsAmong number [] = ⊥
  IsAmong number (t ∷ tokens) = (number ≡ t.number) ⊎ IsAmong number tokens

  abbrev ReapsAmong : List Token → Event → Type 0
  ReapsAmong tokens f = (number : ℕ) × (f ≡ Reap number) × IsAmong number tokens

  of_tokens : (tokens : List Token) → Best (ReapsAmong tokens)
  of_tokens [] = inr (λ f mark h. mark.2)
  of_tokens (t ∷ tokens) = best_of (λ f. (f ≡ Reap t.number) ⊎ ReapsAmong tokens f) (ReapsAmong (t ∷ tokens))
      (λ f h mark. ⊎_elim (λ same. inl (mark.1 ∙ ap Reap same)) (λ later. inr (mark.0, mark.1, later)) mark.2)
      (best_both (λ f. f ≡ Reap t.number) (ReapsAmong tokens) (best_one (Reap t.number)) (of_tokens tokens))

  found_among : (number : ℕ) (tokens : List Token) (t : Token) → find (λ (u : Token). u.number == number) tokens ≡ Some t → IsAmong number tokens
  found_among number [] t at = cc
  found_among number (u ∷ tokens) t at = elim (u.number == number) as (λ b. (u.number == number) ≡ b → (if b then Some u else find (λ (u : Token). u.number == number) tokens) ≡ Some t → IsAmong number (u ∷ tokens)) [
    | true ↦ λ is at. inl (sym (eqb-true u.number number is))
    | false ↦ λ not at. inr (found_among number tokens t at)
  ] refl at

  -- ---- all events

  abbrev Any : Event → Type 0
  Any f = ByActorBelow (length s.actors) f ⊎ ((f ≡ Hear) ⊎ ((f ≡ Scan) ⊎ ReapsAmong s.detector.tokens f))

  any : (f : Event) → CanHappen s f → Any f
  any (Take a) can = inl (a, present_below s.actors a _ can.2, refl)
  any (Go a) can = inl (a, present_below s.actors a _ can.2, refl)
  any (Collect a) can = inl (a, present_below s.actors a _ can.2, refl)
  any (Leave a) can = inl (a, present_below s.actors a _ can.2, refl)
  any (Block a) can = inl (a, present_below s.actors a _ can.2, refl)
  any Hear can = inr (inl refl)
  any Scan can = inr (inr (inl refl))
  any (Reap number) can = inr (inr (inr (number, refl, found_among number s.detector.tokens can.0 (acked_open number s.detector can.0 can.1).0)))

  best : Best (λ f. ⊤)
  best = best_of Any (λ f. ⊤) (λ f h mark. any f ((enabled_exactly s f).0 h))
      (best_both _ _ (of_actors (length s.actors)) (best_both _ _ (best_one Hear) (best_both _ _ (best_one Scan) (of_tokens s.detector.tokens))))

  none_quiet : ((f : Event) → ⊤ → ¬ IsEnabled next s f) → IsQuiet next s
  none_quiet none f = ⊎_elim (λ on. absurd (none f tt on)) (λ off. off) (enabled_or_not f)

pub quiet_or_first : QuietOrFirst next
quiet_or_first s = ⊎_elim
    (λ b. inr (b.event, record { enabled = b.enabled; least = λ f h. b.least f tt h }))
    (λ none. inl (none_quiet s none))
    (best s)

-- ---- a run goes on or ends

refused_go : (s : State) (e : Event) → next s e ≡ IsFull → (a : ℕ) × (e ≡ Go a)
refused_go s e is = let r = (full_exactly s e).0 is in (r.actor, r.is_go)

pub go_on_or_end : GoesOnOrEnds next
go_on_or_end s entries budget within = ⊎_elim
    (λ quiet. inr (Quiet, quiet))
    (λ some. ⊎_elim
    (λ room. by_step some.0 some.1 room (next s some.0) refl)
    (λ full. inr (Budget, record { spent = omega arith; next = some.0; enabled = some.1 }))
    (cases_lt entries budget))
    (quiet_or_first s)
  where
    by_step : (e : Event) → IsFirst next s e → entries < budget → (step : Step State) → next s e ≡ step → GoesOn next s entries budget ⊎ ((ending : Ending) × EndsAs next ending s entries budget)
    by_step e first room NotEnabled is = absurd (first.enabled is)
    by_step e first room IsFull is =
        let go = refused_go s e is in
        inr (ActorsFull go.0, record { room = room; first = subst (IsFirst next s) go.1 first; full = subst (λ f. next s f ≡ IsFull) go.1 is })
    by_step e first room (Goes t) is = inl (record { room = room; next_event = e; first = first; after = t; goes = is })
