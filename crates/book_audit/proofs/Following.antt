-- A book is followed by one entry more, or refused there.
use Rattle.std.proofs.Common.{◌≡◌, ℕ, suc, ◌+◌, false, Bool, List, ◌∷◌, ◌++◌, [], Some, take, drop, inl, inr, refl, sym, ap, subst, ◌∙◌, arith, take-append-drop, drop-cons, length-take-le}
use Rattle.std.specs.List.{slice_get}
use Rattle.std.proofs.lemmas.List.{take_more}
use Rattle.std.proofs.lemmas.Option.{get_or_from_slice_get, slice_get_within}
use Rattle.behaviour_code.specs.declared.code.Program.{Program}
use Rattle.event_rule.specs.Runs.{Goes}
use Rattle.event_rule.specs.declared.event.Event.{Event}
use Rattle.machine_rules.specs.Next.{next}
use Rattle.machine_rules.specs.Run.{IsRun}
use Rattle.machine_rules.specs.State.{State, first_state}
use Rattle.orca_parts.specs.Away.{is_out, next_without}
use Rattle.orca_parts.specs.Faults.{IsFault}
use Rattle.orca_parts.specs.declared.fault.StepFault.{StepFault}
use Rattle.orca_parts.specs.declared.fault.StepFault.TheVariants as faults
use Rattle.orca_core.proofs.Enabled.{with_none_away}
use Rattle.orca_core.proofs.Reached.{leads_more}
use Rattle.run_book.specs.Books.{BookValue, options_of_book}
use Rattle.book_audit.specs.Verdicts.{IsCause, IsRefuted}

-- ---- what a fault says where no cell is away

module _ (out : List Bool) (s : State) (e : Event) (home : (a : ℕ) → is_out out a ≡ false) (fault : StepFault) (told : IsFault (next_without out s e) e fault) where
  told_here : IsFault (next s e) e fault
  told_here = subst (λ machine. IsFault (machine s e) e fault) (with_none_away out home) told

  pub off_here : fault ≡ faults.NotEnabled → IsCause 1 s e
  off_here is = inl (refl, subst (IsFault (next s e) e) is told_here)

  pub full_here : (a : ℕ) → fault ≡ faults.ActorsFull a → IsCause 2 s e
  full_here a is = inr (refl, (subst (IsFault (next s e) e) is told_here).0)

-- ---- the entry at a place

-- the entries before a place, the one at it, and the later ones
whole_at : (entries : List Event) (i : ℕ) (e : Event) → slice_get entries i ≡ Some e → entries ≡ take i entries ++ e ∷ drop (suc i) entries
whole_at entries i e at =
    sym (take-append-drop i entries)
    ∙ ap (λ later. take i entries ++ later) (drop-cons entries i e (slice_get_within entries i e at)
    ∙ ap (λ x. x ∷ drop (suc i) entries) (get_or_from_slice_get entries i e e at))

-- the entries before the next place
more_at : (entries : List Event) (i : ℕ) (e : Event) → slice_get entries i ≡ Some e → take (i + 1) entries ≡ take i entries ++ e ∷ []
more_at entries i e at =
    take_more entries i e (slice_get_within entries i e at) ∙ ap (λ x. take i entries ++ x ∷ []) (get_or_from_slice_get entries i e e at)

module _ (program : Program) (book : BookValue) (i : ℕ) (e : Event) (s : State) (run : IsRun program (options_of_book book) (take i book.entries) s)
    (at : slice_get book.entries i ≡ Some e) where
  pub follows : (t : State) → next s e ≡ Goes t → IsRun program (options_of_book book) (take (i + 1) book.entries) t
  follows t goes =
      subst (λ entries. IsRun program (options_of_book book) entries t) (sym (more_at book.entries i e at))
      (leads_more (take i book.entries) (first_state program (options_of_book book)) s t e run goes)

  pub refused_at : (cause : ℕ) → IsCause cause s e → IsRefuted program book i cause
  refused_at cause refused = record {
    front = take i book.entries;
    entry = e;
    later = drop (suc i) book.entries;
    whole = whole_at book.entries i e at;
    at =
        let inside = slice_get_within book.entries i e at in
        sym (length-take-le i book.entries (omega arith));
    state = s;
    run = run;
    refused = refused;
  }
