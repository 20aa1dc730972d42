-- Take, go and collect keep the facts, and the plain machine follows them.
use Rattle.std.proofs.Common.{◌≡◌, ◌&&◌, ℕ, Bool, true, false, is_none, ap, sym, ◌∙◌, subst}
use Rattle.reach_walk.specs.Reach.{thing_row}
use Rattle.event_rule.specs.Runs.{Goes}
use Rattle.event_rule.specs.declared.event.Event.{Event}
use Rattle.event_rule.specs.declared.event.Event.TheVariants.{Take, Go, Collect, Leave}
use Rattle.letter_kinds.specs.Holdings.{with_made}
use Rattle.plain_list.specs.Lists.{is_empty}
use Rattle.plain_rules.specs.Machine.{PlainState, plain_go, plain_row}
use Rattle.plain_rules.specs.Run.{plain_next}
use Rattle.machine_rules.specs.Go.{turn_of_cell}
use Rattle.machine_rules.specs.Next.{next, next_by}
use Rattle.orca_names.specs.declared.trace.Trace.{Trace}
use Rattle.machine_rules.specs.Rules.{IsGoing, IsStep, StopsAt}
use Rattle.machine_rules.specs.Rules as rule
use Rattle.machine_rules.specs.Run.{act_is_choice, is_choice}
use Rattle.machine_rules.specs.State.{State}
use Rattle.machine_rules.proofs.Choices.{going_is, stopping_is, taking_is}
use Rattle.machine_rules.proofs.Guards.{collector}
use Rattle.machine_rules.proofs.Stepping.{is_step}
use Rattle.count_laws.specs.Agreement.{people_of}
use Rattle.count_laws.specs.Facts.{Facts}
use Rattle.count_laws.proofs.agreement.Following.{Follows, after_take, take_follows}
use Rattle.count_laws.proofs.agreement.FollowingGo.{ends_follow, gets_follow, makes_follow, mints_follow, posts_follow, prints_follow}
use Rattle.count_laws.proofs.events.EitherMode.{collect_keeps}
use Rattle.count_laws.proofs.events.Leave.{leave_kept}

module _ (trace : Trace) (p : PlainState) (s : State) (facts : Facts trace p s) where
  chosen : (a : ℕ) (choice : Bool) (t : State) → is_choice s (Go a) ≡ choice → Follows trace choice (plain_go p a) p t → Follows trace (is_choice s (Go a)) (plain_go p a) p t
  chosen a choice t is h = subst (λ q. Follows trace q (plain_go p a) p t) (sym is) h

  -- ---- each rule

  take_step : {a : ℕ} {t : State} → IsStep trace s (Take a) t → Follows trace (is_choice s (Take a)) (plain_next p (Take a)) p t
  take_step (rule.takes a c l ls at idle) =
      subst (λ q. Follows trace q (plain_next p (Take a)) p (after_take trace p s facts a c idle l ls)) (sym (taking_is s a c l ls at)) (take_follows trace p s facts a c idle l ls at)

  go_step : {a : ℕ} {t : State} → IsStep trace s (Go a) t → Follows trace (is_choice s (Go a)) (plain_next p (Go a)) p t
  go_step (rule.ends a c ls f stops) =
      chosen a true _ (stopping_is trace s facts.mode a c ls f _ stops) (ends_follow trace p s facts a c ls stops.going.present f stops.going.framed stops.held stops.stop)
  go_step (rule.prints a c ls f v stops) =
      chosen a true _ (stopping_is trace s facts.mode a c ls f _ stops) (prints_follow trace p s facts a c ls stops.going.present f stops.going.framed stops.held v stops.stop)
  go_step (rule.makes a c ls f kind register stops room) =
      chosen a true _ (stopping_is trace s facts.mode a c ls f _ stops) (makes_follow trace p s facts a c ls stops.going.present f stops.going.framed stops.held kind register stops.stop room)
  go_step (rule.posts a c ls f to b args stops lacked) =
      chosen a true _ (stopping_is trace s facts.mode a c ls f _ stops ∙ ap is_empty lacked) (posts_follow trace p s facts a c ls stops.going.present f stops.going.framed stops.held to b args stops.stop lacked)
  go_step (rule.mints a c ls f to b args e es stops lacked) =
      chosen a false _ (stopping_is trace s facts.mode a c ls f _ stops ∙ ap is_empty lacked) (mints_follow trace p s facts a c ls stops.going.present f stops.going.framed stops.held to b args stops.stop e es lacked)
  go_step (rule.gets a c ls f x going need) =
      let stop = turn_of_cell trace s.program a c f in
      chosen a false _ (going_is trace s facts.mode a c ls f going ∙ ap (λ n. is_none n && act_is_choice trace a (with_made stop.turn.made c.holdings) stop.act) need)
      (gets_follow trace p s facts a c ls going.present f going.framed x need)

  collect_step : {a : ℕ} {t : State} → IsStep trace s (Collect a) t → Facts trace p t
  collect_step (rule.collects a c ls at may) = record {
    counts = collect_keeps trace (thing_row (plain_row p.actors)) (people_of p.actors) s.actors facts.counts a c ls at (collector c ls may).0;
    program = facts.program;
    prints = facts.prints;
    objects = facts.objects;
    weight = facts.weight;
    mode = facts.mode;
  }

  leave_step : {a : ℕ} {t : State} → IsStep trace s (Leave a) t → Facts trace p t
  leave_step (rule.leaves a c ls at may) = leave_kept trace p s facts a c ls at may

  -- ---- each event

  -- by a rule of this mode
  pub step_here : (t : State) (e : Event) → next s e ≡ Goes t → IsStep trace s e t
  step_here t e goes = is_step trace s t e (sym (ap (λ q. next_by q s e) facts.mode) ∙ goes)

  pub take_kept : (t : State) (a : ℕ) → next s (Take a) ≡ Goes t → Follows trace (is_choice s (Take a)) (plain_next p (Take a)) p t
  take_kept t a goes = take_step (step_here t (Take a) goes)

  pub go_kept : (t : State) (a : ℕ) → next s (Go a) ≡ Goes t → Follows trace (is_choice s (Go a)) (plain_next p (Go a)) p t
  go_kept t a goes = go_step (step_here t (Go a) goes)

  pub collect_kept : (t : State) (a : ℕ) → next s (Collect a) ≡ Goes t → Facts trace p t
  collect_kept t a goes = collect_step (step_here t (Collect a) goes)

  pub leave_beside : (t : State) (a : ℕ) → next s (Leave a) ≡ Goes t → Facts trace p t
  leave_beside t a goes = leave_step (step_here t (Leave a) goes)
