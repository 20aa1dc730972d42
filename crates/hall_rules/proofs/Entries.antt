-- An event that nothing refuses before it is tried, and the run and its book behind it.
use Rattle.std.proofs.Common.{◌≡◌, ℕ, Bool, false, List, [], ◌∷◌, ◌++◌, length, Option, None, Some, Result, Ok, Err, IfErr, IfOk, refl, sym, ap, subst, ◌∙◌}
use Rattle.std.specs.Global.{Box}
use Rattle.std.specs.Option.{ForSome, option_or}
use Rattle.behaviour_code.specs.declared.code.Program.{Program}
use Rattle.event_rule.specs.Runs.{Goes, Step}
use Rattle.event_rule.specs.declared.event.Event.{Event}
use Rattle.machine_rules.specs.Next.{next}
use Rattle.machine_rules.specs.State.{State, first_state}
use Rattle.run_book.specs.Books.{BookValue, options_of_book}
use Rattle.actor_cell.specs.declared.found.Found.{Found}
use Rattle.orca_parts.specs.Away.{is_out_for}
use Rattle.orca_parts.specs.Woken.{IsLowestWoken}
use Rattle.orca_core.specs.Machine.{IsFoundIn, Machine, ReapsNoneAway}
use Rattle.orca_core.proofs.Reached.{leads_more}
use Rattle.work_board.specs.declared.answers.Committed.{Committed}
use Rattle.work_board.specs.declared.answers.Refuse.{Refuse}
use Rattle.hall_rules.specs.declared.claim.Claim.{Claim}
use Rattle.hall_rules.specs.Answers.{IsEntered}
use Rattle.hall_rules.specs.Causes.{IsRefusal, early_cause, entry_cause, full_cause, spent_cause}
use Rattle.hall_rules.specs.Claims.{holder_for}
use Rattle.hall_rules.specs.Entering.{Enters, MayEnter, Refuses}
use Rattle.hall_rules.specs.Halls.{HallValue, state_after}
use Rattle.hall_rules.specs.Kept.{IsRunWithin}
use Rattle.hall_rules.proofs.Keeping.{hall_with, is_early, one_more, options_alike, still}
use Rattle.hall_rules.proofs.Leading.{leads_after}
use Rattle.hall_rules.proofs.Refusing.{has_room, is_ready, refusal_is}

module _ (program : Program) (budget : ℕ) (m : Machine) (book : BookValue)
    (kept : IsRunWithin program (options_of_book book) budget m.state m.steps book.entries) (holder : Option ℕ) (e : Event) where
  -- the state is that of the book with the entry
  pub leads_to : (n : Machine) → next m.state e ≡ Goes n.state
      → n.state ≡ state_after (first_state program (options_of_book book)) (book.entries ++ e ∷ [])
  leads_to n goes = leads_after (book.entries ++ e ∷ []) _ n.state (leads_more book.entries _ m.state n.state e kept.run goes)

  -- the hall of this run, in which this pass has a claim on the event's actor
  module _ (claims : List Claim) (stopped : Bool) (asker : Option ℕ) (held : holder ≡ holder_for asker e claims) where
    abbrev h : HallValue
    h = hall_with program budget book claims stopped

    cause_is : entry_cause h asker e
        ≡ option_or (early_cause m.state (length book.entries) budget holder e) (full_cause (next m.state e) e)
    cause_is i = option_or (early_cause (sym kept.state_is i) (length book.entries) budget (sym held i) e)
        (full_cause (next (sym kept.state_is i) e) e)

    -- refused before it is tried
    pub refused_early : (refuse : Refuse) → Some refuse ≡ early_cause m.state (length book.entries) budget holder e
        → IsRefusal (entry_cause h asker e) refuse
    refused_early refuse is = refusal_is (entry_cause h asker e) refuse
        (ap (λ o. option_or o (full_cause (next m.state e) e)) is ∙ sym cause_is)

    -- else
    module _ (none : None ≡ early_cause m.state (length book.entries) budget holder e) where
      late : entry_cause h asker e ≡ full_cause (next m.state e) e
      late = cause_is ∙ ap (λ o. option_or o (full_cause (next m.state e) e)) (sym none)

      pub refused_late : (refuse : Refuse) → IsRefusal (full_cause (next m.state e) e) refuse → IsRefusal (entry_cause h asker e) refuse
      refused_late refuse is = subst (λ cause. IsRefusal cause refuse) (sym late) is

      -- the hall is then this one, whatever claims are out
      pub entered : (n : Machine) (after : BookValue) (done : Committed) (more : List Claim) → Enters e done m n book after
          → (entry_cause h asker e ≡ None) × IsEntered h e done (record h { book = h.book ++ e ∷ []; claims = more })
      entered n after done more is =
          let came = leads_to n is.goes in (
            late ∙ ap (λ (step : Step State). full_cause step e) is.goes,
            record {
              place = is.place;
              book = refl;
              goes = ap (λ s. next s e) (sym kept.state_is) ∙ (is.goes ∙ ap Goes came);
              woke = subst (λ (x : State × State). IsLowestWoken x.0.actors x.1.actors done.woke) (λ i. (kept.state_is i, came i)) is.woke;
            },
          )

  module _ (none : None ≡ early_cause m.state (length book.entries) budget holder e) where
    room : spent_cause (length book.entries) budget ≡ None
    room = has_room m.state (length book.entries) budget e holder (sym none)

    pub may_enter : is_out_for m.out e ≡ false → m.blocks ≡ [] → ReapsNoneAway e m → (place : Option (Box Found))
        → ForSome place (λ known. IsFoundIn e known.value m) → MayEnter e place m
    may_enter home none_is spares place found = record {
      early = is_early program budget m book kept room;
      home = home;
      none = none_is;
      spares = spares;
      ready = is_ready m.state (length book.entries) budget e holder (sym none);
      found = found;
    }

    -- it is a run within the budget whatever is answered
    pub keeps : (n : Machine) (after : BookValue) → (after.weight ≡ book.weight) × (after.trace ≡ book.trace)
        → (r : Result Committed Refuse) → IfOk r (λ done. Enters e done m n book after)
        → IfErr r (λ refuse. Refuses e refuse m n book after)
        → IsRunWithin program (options_of_book after) budget n.state n.steps after.entries
    keeps n after alike (Ok done) is full = one_more program budget m book kept n after (options_alike book after alike) e room is.goes is.steps is.entry
    keeps n after alike (Err refuse) full is = still program budget m book kept n after (options_alike book after alike) is.same.state is.same.steps is.entries
