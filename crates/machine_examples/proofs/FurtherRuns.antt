-- These books are runs too, by computation.
use Rattle.std.proofs.Common.{◌≡◌, ℕ, zero, suc, true, [], ◌∷◌, Some, None, is_some, refl, sym, subst}
use Rattle.std.specs.Prelude.{⊤}
use Rattle.event_rule.specs.declared.event.Event.TheVariants.{Go, Hear, Leave, Scan}
use Rattle.reach_walk.specs.Marks.{led_to, marks_of}
use Rattle.letter_kinds.specs.Counting.{by_owner}
use Rattle.machine_examples.proofs.ExampleRuns.{IsStill, still_quiet}
use Rattle.machine_examples.proofs.LedgerSteps.{after_all}
use Rattle.machine_examples.proofs.Pages.{Page, first_page, state_told}
use Rattle.machine_examples.proofs.Places.{seats_told}
use Rattle.machine_examples.proofs.SmallRuns.{none_left, turned, turned_leads}
use Rattle.machine_examples.specs.FurtherExamples.{AnUnblockOutlivesItsActor, GetsAreMintedInOrder, gets_two_objects, up_to_the_first_get, up_to_the_leave}
use Rattle.machine_examples.specs.RootsExamples.{by_roots}
use Rattle.machine_examples.specs.SmallExamples.{by_five, makes_one, up_to_no_token}
use Rattle.machine_rules.specs.Actors.{seat_at}
use Rattle.event_rule.specs.Runs.{Leads}
use Rattle.machine_rules.specs.Next.{next}

-- ---- the first get counts

gets_first : Page
gets_first = first_page gets_two_objects by_roots

gets_once : Page
gets_once = turned up_to_the_first_get gets_first

gets_twice : Page
gets_twice = turned (Go 1 ∷ []) gets_once

gets_last : Page
gets_last = turned (Go 1 ∷ []) gets_twice

gets_computed : ⊤
unfolding led_to marks_of by_owner gets_first gets_once gets_twice gets_last
gets_computed = tt

once_goes : is_some (after_all up_to_the_first_get (Some gets_first)) ≡ true
unfolding gets_computed
once_goes = refl

twice_goes : is_some (after_all (Go 1 ∷ []) (Some gets_once)) ≡ true
unfolding gets_computed
twice_goes = refl

last_goes : is_some (after_all (Go 1 ∷ []) (Some gets_twice)) ≡ true
unfolding gets_computed
last_goes = refl

once_run : Leads next (state_told gets_first) up_to_the_first_get (state_told gets_once)
unfolding gets_once
once_run = turned_leads up_to_the_first_get gets_first once_goes

twice_run : Leads next (state_told gets_once) (Go 1 ∷ []) (state_told gets_twice)
unfolding gets_twice
twice_run = turned_leads (Go 1 ∷ []) gets_once twice_goes

last_run : Leads next (state_told gets_twice) (Go 1 ∷ []) (state_told gets_last)
unfolding gets_last
last_run = turned_leads (Go 1 ∷ []) gets_twice last_goes

pub gets_are_minted_in_order : GetsAreMintedInOrder
unfolding gets_computed
gets_are_minted_in_order = record {
  once = state_told gets_once;
  to_the_first = once_run;
  first = refl;
  twice = state_told gets_twice;
  to_the_second = twice_run;
  second = refl;
  prints_none = refl;
  last = state_told gets_last;
  to_the_print = last_run;
  prints = refl;
}

-- ---- an Unblock outlives its actor

one_first : Page
one_first = first_page makes_one by_five

one_told : Page
one_told = turned up_to_no_token one_first

one_gone : Page
one_gone = turned up_to_the_leave one_told

one_heard : Page
one_heard = turned (Hear ∷ []) one_gone

one_last : Page
one_last = turned (Leave 0 ∷ Scan ∷ []) one_heard

one_computed : ⊤
unfolding led_to marks_of by_owner one_first one_told one_gone one_heard one_last
one_computed = tt

told_goes : is_some (after_all up_to_no_token (Some one_first)) ≡ true
unfolding one_computed
told_goes = refl

gone_goes : is_some (after_all up_to_the_leave (Some one_told)) ≡ true
unfolding one_computed
gone_goes = refl

heard_goes : is_some (after_all (Hear ∷ []) (Some one_gone)) ≡ true
unfolding one_computed
heard_goes = refl

end_goes : is_some (after_all (Leave 0 ∷ Scan ∷ []) (Some one_heard)) ≡ true
unfolding one_computed
end_goes = refl

told_run : Leads next (state_told one_first) up_to_no_token (state_told one_told)
unfolding one_told
told_run = turned_leads up_to_no_token one_first told_goes

gone_run : Leads next (state_told one_told) up_to_the_leave (state_told one_gone)
unfolding one_gone
gone_run = turned_leads up_to_the_leave one_told gone_goes

heard_run : Leads next (state_told one_gone) (Hear ∷ []) (state_told one_heard)
unfolding one_heard
heard_run = turned_leads (Hear ∷ []) one_gone heard_goes

end_run : Leads next (state_told one_heard) (Leave 0 ∷ Scan ∷ []) (state_told one_last)
unfolding one_last
end_run = turned_leads (Leave 0 ∷ Scan ∷ []) one_heard end_goes

one_none : (a : ℕ) → seat_at (seats_told one_last.places) a ≡ None
unfolding one_computed
one_none zero = refl
one_none (suc zero) = refl
one_none (suc (suc a)) = refl

pub an_unblock_outlives_its_actor : AnUnblockOutlivesItsActor
unfolding one_computed
an_unblock_outlives_its_actor = record {
  told = state_told one_told;
  to_the_report = told_run;
  gone = state_told one_gone;
  to_the_leave = gone_run;
  waits = refl;
  kept = refl;
  heard = state_told one_heard;
  to_the_unblock = heard_run;
  withdrawn = refl;
  last = state_told one_last;
  to_the_end = end_run;
  nothing_left = none_left (seats_told one_last.places) one_none;
  quiet = still_quiet (state_told one_last) (λ a. subst IsStill (sym (one_none a)) tt) refl refl refl;
}
