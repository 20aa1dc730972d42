-- The small books are runs, by computation.
use Rattle.std.proofs.Common.{◌≡◌, ℕ, zero, suc, true, List, [], ◌∷◌, Some, None, is_some, refl, sym, subst}
use Rattle.std.specs.Prelude.{⊤}
use Rattle.orca_names.specs.Names.{owner_of}
use Rattle.orca_names.specs.declared.names.Thing.{Thing}
use Rattle.event_rule.specs.declared.event.Event.{Event}
use Rattle.event_rule.specs.declared.event.Event.TheVariants.{Take, Go, Collect, Leave}
use Rattle.reach_walk.specs.Marks.{led_to, marks_of}
use Rattle.letter_kinds.specs.Counting.{by_owner}
use Rattle.machine_examples.proofs.ExampleRuns.{IsStill, page_or, page_there, still_quiet}
use Rattle.machine_examples.proofs.LedgerSteps.{after_all, after_all-leads}
use Rattle.machine_examples.proofs.Pages.{Page, first_page, state_told}
use Rattle.machine_examples.proofs.Places.{seats_told}
use Rattle.machine_rules.specs.Actors.{Actors, seat_at}
use Rattle.machine_examples.specs.Examples.{usual}
use Rattle.machine_rules.specs.Left.{IsLeft}
use Rattle.event_rule.specs.Runs.{Leads}
use Rattle.machine_rules.specs.Next.{next}
use Rattle.machine_examples.specs.SmallExamples.{AReapGivesBackByOwners, AnUnblockCancelsItsOwn, MintsAreForTheLowestFirst, TheFirstLeavesAtOnce, both_go, by_five, gives_an_object, giving_book, makes_one, starts_nothing, tells_of_two, up_to_no_token, up_to_one_mint, up_to_the_unblock}

-- the page after these events, or else the one before them
abbrev pub turned : List Event → Page → Page
turned book b = page_or b (after_all book (Some b))

pub turned_leads : (book : List Event) (b : Page) → is_some (after_all book (Some b)) ≡ true → Leads next (state_told b) book (state_told (turned book b))
turned_leads book b goes = after_all-leads book b (turned book b) (page_there b _ goes)

-- where all actors are gone nothing is left
pub none_left : (actors : Actors) → ((a : ℕ) → seat_at actors a ≡ None) → (x : Thing) → ¬ IsLeft actors x
none_left actors gone x left = let e = gone (owner_of x) in let p = left.present in cc

-- ---- the first actor leaves at once

nothing_first : Page
nothing_first = first_page starts_nothing usual

nothing_last : Page
nothing_last = turned (Leave 0 ∷ []) nothing_first

nothing_computed : ⊤
unfolding led_to marks_of by_owner nothing_first nothing_last
nothing_computed = tt

nothing_goes : is_some (after_all (Leave 0 ∷ []) (Some nothing_first)) ≡ true
unfolding nothing_computed
nothing_goes = refl

nothing_run : Leads next (state_told nothing_first) (Leave 0 ∷ []) (state_told nothing_last)
unfolding nothing_last
nothing_run = turned_leads (Leave 0 ∷ []) nothing_first nothing_goes

nothing_gone : (a : ℕ) → seat_at (seats_told nothing_last.places) a ≡ None
unfolding nothing_computed
nothing_gone zero = refl
nothing_gone (suc a) = refl

pub the_first_leaves_at_once : TheFirstLeavesAtOnce
unfolding nothing_computed
the_first_leaves_at_once = record {
  last = state_told nothing_last;
  run = nothing_run;
  nothing_left = none_left (seats_told nothing_last.places) nothing_gone;
  quiet = still_quiet (state_told nothing_last) (λ a. subst IsStill (sym (nothing_gone a)) tt) refl refl refl;
}

-- ---- an Unblock cancels its own tokens

one_first : Page
one_first = first_page makes_one by_five

one_scanned : Page
one_scanned = turned up_to_no_token one_first

one_heard : Page
one_heard = turned up_to_the_unblock one_scanned

one_last : Page
one_last = turned both_go one_heard

one_computed : ⊤
unfolding led_to marks_of by_owner one_first one_scanned one_heard one_last
one_computed = tt

scanned_goes : is_some (after_all up_to_no_token (Some one_first)) ≡ true
unfolding one_computed
scanned_goes = refl

heard_goes : is_some (after_all up_to_the_unblock (Some one_scanned)) ≡ true
unfolding one_computed
heard_goes = refl

last_goes : is_some (after_all both_go (Some one_heard)) ≡ true
unfolding one_computed
last_goes = refl

scanned_run : Leads next (state_told one_first) up_to_no_token (state_told one_scanned)
unfolding one_scanned
scanned_run = turned_leads up_to_no_token one_first scanned_goes

heard_run : Leads next (state_told one_scanned) up_to_the_unblock (state_told one_heard)
unfolding one_heard
heard_run = turned_leads up_to_the_unblock one_scanned heard_goes

last_run : Leads next (state_told one_heard) both_go (state_told one_last)
unfolding one_last
last_run = turned_leads both_go one_heard last_goes

one_gone : (a : ℕ) → seat_at (seats_told one_last.places) a ≡ None
unfolding one_computed
one_gone zero = refl
one_gone (suc zero) = refl
one_gone (suc (suc a)) = refl

pub an_unblock_cancels_its_own : AnUnblockCancelsItsOwn
unfolding one_computed
an_unblock_cancels_its_own = record {
  scanned = state_told one_scanned;
  to_no_token = scanned_run;
  kept = refl;
  opened = refl;
  none = refl;
  heard = state_told one_heard;
  to_the_unblock = heard_run;
  withdrawn = refl;
  token = refl;
  last = state_told one_last;
  to_the_end = last_run;
  nothing_left = none_left (seats_told one_last.places) one_gone;
  quiet = still_quiet (state_told one_last) (λ a. subst IsStill (sym (one_gone a)) tt) refl refl refl;
}

-- ---- a mint is for the lowest owner first

two_first : Page
two_first = first_page tells_of_two by_five

two_once : Page
two_once = turned up_to_one_mint two_first

two_twice : Page
two_twice = turned (Go 3 ∷ []) two_once

two_last : Page
two_last = turned (Take 1 ∷ Collect 1 ∷ Go 3 ∷ []) two_twice

two_computed : ⊤
unfolding led_to marks_of by_owner two_first two_once two_twice two_last
two_computed = tt

once_goes : is_some (after_all up_to_one_mint (Some two_first)) ≡ true
unfolding two_computed
once_goes = refl

twice_goes : is_some (after_all (Go 3 ∷ []) (Some two_once)) ≡ true
unfolding two_computed
twice_goes = refl

collect_goes : is_some (after_all (Take 1 ∷ Collect 1 ∷ Go 3 ∷ []) (Some two_twice)) ≡ true
unfolding two_computed
collect_goes = refl

once_run : Leads next (state_told two_first) up_to_one_mint (state_told two_once)
unfolding two_once
once_run = turned_leads up_to_one_mint two_first once_goes

twice_run : Leads next (state_told two_once) (Go 3 ∷ []) (state_told two_twice)
unfolding two_twice
twice_run = turned_leads (Go 3 ∷ []) two_once twice_goes

collect_run : Leads next (state_told two_twice) (Take 1 ∷ Collect 1 ∷ Go 3 ∷ []) (state_told two_last)
unfolding two_last
collect_run = turned_leads (Take 1 ∷ Collect 1 ∷ Go 3 ∷ []) two_twice collect_goes

pub mints_are_for_the_lowest_first : MintsAreForTheLowestFirst
unfolding two_computed
mints_are_for_the_lowest_first = record {
  once = state_told two_once;
  to_one_mint = once_run;
  lower = refl;
  not_yet = refl;
  twice = state_told two_twice;
  to_the_other = twice_run;
  other = refl;
  last = state_told two_last;
  to_a_collect = collect_run;
}

-- ---- a reap gives back by owners

giving_first : Page
giving_first = first_page gives_an_object usual

giving_last : Page
giving_last = turned giving_book giving_first

giving_computed : ⊤
unfolding led_to marks_of by_owner giving_first giving_last
giving_computed = tt

giving_goes : is_some (after_all giving_book (Some giving_first)) ≡ true
unfolding giving_computed
giving_goes = refl

giving_run : Leads next (state_told giving_first) giving_book (state_told giving_last)
unfolding giving_last
giving_run = turned_leads giving_book giving_first giving_goes

pub a_reap_gives_back_by_owners : AReapGivesBackByOwners
unfolding giving_computed
a_reap_gives_back_by_owners = record {
  last = state_told giving_last;
  run = giving_run;
  back = refl;
}
