-- Whether an event is the first that is enabled is computed, and so is whether a state is quiet.
use Rattle.std.proofs.Common.{◌≡◌, ◌≢◌, ℕ, zero, suc, ◌<◌, ◌==◌, ◌||◌, not, Bool, true, false, if◌then◌else◌, List, [], ◌∷◌, ◌++◌, length, map, Option, Some, None, is_some, refl, ap, sym, ◌∙◌, subst, arith, ⊎_elim, eqb-true}
use Rattle.std.specs.List.{find, list_all}
use Rattle.std.specs.Option.{option_map_or}
use Rattle.std.specs.Ordering.{is_gt}
use Rattle.std.specs.declared.cmp.Ordering.{Ordering}
use Rattle.std.specs.declared.cmp.Ordering.TheVariants.{Less, Equal, Greater}
use Rattle.std.proofs.lemmas.Bool.{and_parts, cases_eq, false≢true}
use Rattle.std.proofs.lemmas.List.Folds.{list_all-append}
use Rattle.orca_names.specs.declared.names.Value.{Value}
use Rattle.behaviour_code.specs.declared.code.Program.{Program}
use Rattle.event_rule.specs.Events.{actor_of, event_cmp}
use Rattle.event_rule.specs.declared.event.Event.{Event}
use Rattle.event_rule.specs.declared.event.Event.TheVariants.{Take, Go, Collect, Leave, Block, Hear, Scan, Reap}
use Rattle.letter_kinds.specs.Detector.{Token}
use Rattle.machine_examples.proofs.ExampleRuns.{page_or, page_there}
use Rattle.machine_examples.proofs.LedgerSteps.{next_page, next-follows}
use Rattle.machine_examples.proofs.Pages.{Page, Follows, first_page, state_told}
use Rattle.machine_examples.specs.InOrder.{OneWorkerWrites}
use Rattle.machine_rules.proofs.Enabling.{enabled_exactly}
use Rattle.machine_rules.proofs.Present.{present_below}
use Rattle.machine_rules.specs.Actors.{Seat, seat_at}
use Rattle.machine_rules.specs.Enabled.{CanHappen}
use Rattle.event_rule.specs.Runs.{IsEnabled, IsFirst, IsQuiet, Step, NotEnabled, IsFull, Goes, LeadsInOrder}
use Rattle.machine_rules.specs.Next.{next}
use Rattle.machine_rules.specs.Options.{Options}
use Rattle.machine_rules.specs.State.{State}
use Rattle.plain_list.specs.Lists.{is_empty}
use Rattle.machine_rules.specs.Guards.{may_block, may_leave, may_collect, may_go, may_take}
use Rattle.machine_rules.proofs.Guards.{acked_open}
use Rattle.machine_rules.specs.Detect.{acked_token}

-- ---- whether an event is enabled

-- the actor is present, and its seat passes the test
abbrev of_seat : (Seat → Bool) → Option Seat → Bool
of_seat test o = option_map_or test o false

abbrev is_on : State → Event → Bool
is_on s (Take a) = of_seat (λ o. may_take o.cell o.mail) (seat_at s.actors a)
is_on s (Go a) = of_seat (λ o. may_go o.cell o.mail) (seat_at s.actors a)
is_on s (Collect a) = of_seat (λ o. may_collect o.cell o.mail) (seat_at s.actors a)
is_on s (Leave a) = of_seat (λ o. may_leave o.cell o.mail) (seat_at s.actors a)
is_on s (Block a) = of_seat (λ o. may_block o.cell o.mail) (seat_at s.actors a)
is_on s Hear = not (is_empty s.notes)
is_on s Scan = s.detector.news
is_on s (Reap number) = is_some (acked_token number s.detector)

not_empty : {A : Type 0} (xs : List A) → xs ≢ [] → not (is_empty xs) ≡ true
not_empty [] some = absurd (some refl)
not_empty (x ∷ xs) some = refl

can_on : (s : State) (f : Event) → CanHappen s f → is_on s f ≡ true
can_on s (Take a) (c, mail, at, may) = ap (of_seat (λ o. may_take o.cell o.mail)) at ∙ may
can_on s (Go a) (c, mail, at, may) = ap (of_seat (λ o. may_go o.cell o.mail)) at ∙ may
can_on s (Collect a) (c, mail, at, may) = ap (of_seat (λ o. may_collect o.cell o.mail)) at ∙ may
can_on s (Leave a) (c, mail, at, may) = ap (of_seat (λ o. may_leave o.cell o.mail)) at ∙ may
can_on s (Block a) (c, mail, at, may) = ap (of_seat (λ o. may_block o.cell o.mail)) at ∙ may
can_on s Hear some = not_empty s.notes some
can_on s Scan is = is
can_on s (Reap number) (t, at) = ap is_some at

-- ---- all events that may be enabled

abbrev by_actors : ℕ → List Event
by_actors zero = []
by_actors (suc n) = Take n ∷ Go n ∷ Collect n ∷ Leave n ∷ Block n ∷ by_actors n

abbrev by_tokens : List Token → List Event
by_tokens tokens = map (λ t. Reap t.number) tokens

abbrev all_events : State → List Event
all_events s = Hear ∷ Scan ∷ by_tokens s.detector.tokens ++ by_actors (length s.actors)

module _ (p : Event → Bool) where
  pass_one : (n : ℕ) → p (Take n) ≡ true → p (Go n) ≡ true → p (Collect n) ≡ true → p (Leave n) ≡ true → p (Block n) ≡ true
      → (f : Event) → actor_of f ≡ Some n → p f ≡ true
  pass_one n take go collect leave block (Take a) mine = let same : n ≡ a = cc in subst (λ a. p (Take a) ≡ true) same take
  pass_one n take go collect leave block (Go a) mine = let same : n ≡ a = cc in subst (λ a. p (Go a) ≡ true) same go
  pass_one n take go collect leave block (Collect a) mine = let same : n ≡ a = cc in subst (λ a. p (Collect a) ≡ true) same collect
  pass_one n take go collect leave block (Leave a) mine = let same : n ≡ a = cc in subst (λ a. p (Leave a) ≡ true) same leave
  pass_one n take go collect leave block (Block a) mine = let same : n ≡ a = cc in subst (λ a. p (Block a) ≡ true) same block
  pass_one n take go collect leave block Hear mine = cc
  pass_one n take go collect leave block Scan mine = cc
  pass_one n take go collect leave block (Reap number) mine = cc

  pass_actors : (n : ℕ) → list_all p (by_actors n) ≡ true → (f : Event) (a : ℕ) → actor_of f ≡ Some a → a < n → p f ≡ true
  pass_actors zero all f a mine below = absurd (omega arith)
  pass_actors (suc n) all f a mine below =
      let take = and_parts (p (Take n)) _ all in
      let go = and_parts (p (Go n)) _ take.1 in
      let collect = and_parts (p (Collect n)) _ go.1 in
      let leave = and_parts (p (Leave n)) _ collect.1 in
      let block = and_parts (p (Block n)) _ leave.1 in
      ⊎_elim
      (λ same. pass_one n take.0 go.0 collect.0 leave.0 block.0 f (mine ∙ ap Some same))
      (λ other. pass_actors n block.1 f a mine (omega arith))
      (cases_eq a n)

  pass_reaps : (tokens : List Token) → list_all p (by_tokens tokens) ≡ true → (number : ℕ) (t : Token) → find (λ (u : Token). u.number == number) tokens ≡ Some t → p (Reap number) ≡ true
  pass_reaps [] all number t at = cc
  pass_reaps (u ∷ tokens) all number t at =
      let both = and_parts (p (Reap u.number)) _ all in
      elim (u.number == number) as (λ b. (u.number == number) ≡ b → (if b then Some u else find (λ (u : Token). u.number == number) tokens) ≡ Some t → p (Reap number) ≡ true) [
        | true ↦ λ is at. subst (λ n. p (Reap n) ≡ true) (eqb-true u.number number is) both.0
        | false ↦ λ not at. pass_reaps tokens both.1 number t at
      ] refl at

  -- what holds of all of them holds of each event that can happen
  pass_all : (s : State) → list_all p (all_events s) ≡ true → (f : Event) → CanHappen s f → p f ≡ true
  pass_all s all f can = cases f can
    where
      hear : (p Hear ≡ true) × (list_all p (Scan ∷ by_tokens s.detector.tokens ++ by_actors (length s.actors)) ≡ true)
      hear = and_parts (p Hear) _ all

      scan : (p Scan ≡ true) × (list_all p (by_tokens s.detector.tokens ++ by_actors (length s.actors)) ≡ true)
      scan = and_parts (p Scan) _ hear.1

      rest : (list_all p (by_tokens s.detector.tokens) ≡ true) × (list_all p (by_actors (length s.actors)) ≡ true)
      rest = and_parts _ _ (sym (list_all-append p (by_tokens s.detector.tokens) (by_actors (length s.actors))) ∙ scan.1)

      cases : (f : Event) → CanHappen s f → p f ≡ true
      cases (Take a) can = pass_actors (length s.actors) rest.1 (Take a) a refl (present_below s.actors a _ can.2)
      cases (Go a) can = pass_actors (length s.actors) rest.1 (Go a) a refl (present_below s.actors a _ can.2)
      cases (Collect a) can = pass_actors (length s.actors) rest.1 (Collect a) a refl (present_below s.actors a _ can.2)
      cases (Leave a) can = pass_actors (length s.actors) rest.1 (Leave a) a refl (present_below s.actors a _ can.2)
      cases (Block a) can = pass_actors (length s.actors) rest.1 (Block a) a refl (present_below s.actors a _ can.2)
      cases Hear can = hear.0
      cases Scan can = scan.0
      cases (Reap number) can = pass_reaps s.detector.tokens rest.0 number can.0 (acked_open number s.detector can.0 can.1).0

-- ---- the first event, and none

-- the event is not enabled, or not before e
abbrev waits_for : State → Event → Event → Bool
waits_for s e f = not (is_on s f) || not (is_gt (event_cmp e f))

abbrev is_first : State → Event → Bool
is_first s e = list_all (waits_for s e) (all_events s)

not_greater : (b : Bool) (o : Ordering) → b ≡ true → (not b || not (is_gt o)) ≡ true → o ≢ Greater
not_greater false o on e = cc
not_greater true Less on e = λ is. cc
not_greater true Equal on e = λ is. cc
not_greater true Greater on e = cc

first_computed : (s : State) (e : Event) → IsEnabled next s e → is_first s e ≡ true → IsFirst next s e
first_computed s e on test = record {
  enabled = on;
  least = λ f enabled.
      let can = (enabled_exactly s f).0 enabled in
      not_greater (is_on s f) (event_cmp e f) (can_on s f can) (pass_all (waits_for s e) s test f can);
}

abbrev is_quiet : State → Bool
is_quiet s = list_all (λ f. not (is_on s f)) (all_events s)

quiet_computed : (s : State) → is_quiet s ≡ true → IsQuiet next s
quiet_computed s test f = by_step (next s f) refl
  where
    off : ¬ CanHappen s f
    off can =
        let on = can_on s f can in
        let no = pass_all (λ f. not (is_on s f)) s test f can in
        false≢true (sym (ap not on) ∙ no)

    by_step : (step : Step State) → next s f ≡ step → next s f ≡ NotEnabled
    by_step NotEnabled is = is
    by_step IsFull is = absurd (off ((enabled_exactly s f).0 (λ no. let z = sym is ∙ no in cc)))
    by_step (Goes t) is = absurd (off ((enabled_exactly s f).0 (λ no. let z = sym is ∙ no in cc)))

-- ---- a book

-- the page after these events, where each is the first in its turn
abbrev in_order_after : List Event → Option Page → Option Page
in_order_after [] b = b
in_order_after (e ∷ events) None = None
in_order_after (e ∷ events) (Some b) = if is_first (state_told b) e then in_order_after events (next_page b e) else None

none_in_order : (events : List Event) (c : Page) → in_order_after events None ≢ Some c
none_in_order [] c h = cc
none_in_order (e ∷ events) c h = cc

in_order_leads : (events : List Event) (b c : Page) → in_order_after events (Some b) ≡ Some c → LeadsInOrder next (state_told b) events (state_told c)
in_order_leads [] b c h = ap (λ o. option_map_or state_told o (state_told b)) h
in_order_leads (e ∷ events) b c h = by_test (is_first (state_told b) e) refl h (λ d. in_order_leads events d c)
  where
    by_page : (o : Option Page) → Follows o (next (state_told b) e) → is_first (state_told b) e ≡ true → in_order_after events o ≡ Some c
        → ((d : Page) → in_order_after events (Some d) ≡ Some c → LeadsInOrder next (state_told d) events (state_told c)) → LeadsInOrder next (state_told b) (e ∷ events) (state_told c)
    by_page None follows first h later = absurd (none_in_order events c h)
    by_page (Some d) goes first h later =
        (first_computed (state_told b) e (λ off. let z = sym goes ∙ off in cc) first, (state_told d, goes, later d h))

    by_test : (q : Bool) → is_first (state_told b) e ≡ q → (if q then in_order_after events (next_page b e) else None) ≡ Some c
        → ((d : Page) → in_order_after events (Some d) ≡ Some c → LeadsInOrder next (state_told d) events (state_told c)) → LeadsInOrder next (state_told b) (e ∷ events) (state_told c)
    by_test false is h later = cc
    by_test true is h later = by_page (next_page b e) (next-follows b e) is h later

-- one worker's whole run
abbrev page_in_order : Program → Options → List Event → Page
page_in_order program options book = page_or (first_page program options) (in_order_after book (Some (first_page program options)))

pub written_in_order : (program : Program) (options : Options) (book : List Event) (prints : List Value)
    → is_some (in_order_after book (Some (first_page program options))) ≡ true → (page_in_order program options book).state.prints ≡ prints
    → is_quiet (state_told (page_in_order program options book)) ≡ true → OneWorkerWrites program options book prints
written_in_order program options book prints goes printed still = record {
  last = state_told (page_in_order program options book);
  run = in_order_leads book (first_page program options) (page_in_order program options book) (page_there (first_page program options) _ goes);
  printed = printed;
  quiet = quiet_computed (state_told (page_in_order program options book)) still;
}
