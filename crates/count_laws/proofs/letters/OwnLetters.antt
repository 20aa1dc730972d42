-- Increments and decrements name things of the actor for which they wait, each once.
use Rattle.std.proofs.Common.{◌≡◌, ℕ, suc, ◌<◌, Option, Some, None, List, [], ◌∷◌, ◌++◌, set, refl, sym, ◌∙◌, subst, arith, ⊎_elim}
use Rattle.std.specs.List.{AllByRecursion}
use Rattle.std.specs.Option.{option_map_or}
use Rattle.std.specs.Prelude.{sum_by}
use Rattle.std.proofs.lemmas.Bool.{cases_lt}
use Rattle.std.proofs.lemmas.List.Sums.{sum_by-cons}
use Rattle.orca_names.specs.Names.{owner_of}
use Rattle.orca_names.specs.declared.names.Thing.{Thing}
use Rattle.behaviour_code.specs.Find.{start_name}
use Rattle.event_rule.specs.declared.event.Event.{Event}
use Rattle.letter_kinds.proofs.Sums.{sum-nil}
use Rattle.letter_kinds.specs.Counting.{Amount, by_owner, given_back, to_mint}
use Rattle.letter_kinds.specs.Detector.{closed_set, has}
use Rattle.letter_kinds.specs.Sums.{amount_of, dec_of, inc_of}
use Rattle.letter_kinds.specs.Letters.{Letter, App, Inc, Dec, Confirm}
use Rattle.machine_rules.proofs.Stepping.{step_of}
use Rattle.machine_rules.specs.Rules.{IsStep, cell_kept, later_frame}
use Rattle.machine_rules.specs.Rules as rule
use Rattle.count_laws.proofs.events.Every.{every_more, every_set, push_none, set_none}
use Rattle.count_laws.proofs.events.Reap.{every_emptied}
use Rattle.count_laws.proofs.balance.SeatReads.{letter_App, letter_Confirm, letter_Dec, letter_Inc}
use Rattle.machine_rules.proofs.Present.{present_below}
use Rattle.count_laws.proofs.balance.Sends.{push_is}
use Rattle.count_laws.proofs.letters.Shares.{AreForOwners, among_some, back_is_for, mint_is_for, need_is_for}
use Rattle.machine_rules.specs.Actors.{Actors, Seat, push_decs, push_letter, seat, seat_at}
use Rattle.machine_rules.specs.Cell.{Cell, first_cell, fresh_cell}
use Rattle.machine_rules.specs.Collect.{is_marked, without_unused}
use Rattle.machine_rules.specs.Detect.{ask_all, empty_seats, held_outside, reap_decs, reap_members}
use Rattle.machine_rules.specs.Go.{to_need}
use Rattle.count_laws.specs.Letters.{AreFor, EventsKeepNamesOwn, LettersNameTheirOwn, NamesOwn, RunsNameOwn, StartNamesOwn}
use Rattle.orca_names.specs.declared.trace.Trace.{Trace}
use Rattle.event_rule.specs.Runs.{Leads}
use Rattle.machine_rules.specs.Next.{next}
use Rattle.machine_rules.specs.State.{State, first_state, start_letters}
use Rattle.machine_rules.specs.Take.{cell_after}

abbrev OwnMail : ℕ → Cell → List Letter → Type 0
OwnMail a c mail = AllByRecursion (NamesOwn a) mail

-- ---- the mail of one actor

all_push : (a : ℕ) (mail : List Letter) (l : Letter) → AllByRecursion (NamesOwn a) mail → NamesOwn a l → AllByRecursion (NamesOwn a) (mail ++ l ∷ [])
all_push a [] l h new = (new, tt)
all_push a (k ∷ mail) l h new = (h.0, all_push a mail l h.1 new)

own_push : (s : Actors) (b : ℕ) (l : Letter) → NamesOwn b l → LettersNameTheirOwn s → LettersNameTheirOwn (push_letter b l s)
own_push s b l new own = by_seat (seat_at s b) refl
  where
    by_seat : (o : Option Seat) → seat_at s b ≡ o → LettersNameTheirOwn (push_letter b l s)
    by_seat None at = rw (push_none s b l at) (λ a d ms now. own a d ms (sym (set_none s b a at) ∙ now))
    by_seat (Some o) at = rw (push_is s b l o at) (every_set OwnMail s b o.cell (o.mail ++ l ∷ []) (present_below s b o at) (all_push b o.mail l (own b o.cell o.mail at) new) own)

own_decs : (gs : List (ℕ × List Amount)) (s : Actors) → AreForOwners gs → LettersNameTheirOwn s → LettersNameTheirOwn (push_decs gs s)
unfolding push_decs
own_decs [] s are own = own
own_decs (g ∷ gs) s are own = own_decs gs (push_letter g.0 (Dec g.1) s) are.1 (own_push s g.0 (Dec g.1) are.0 own)

own_asked : (members : List ℕ) (token : ℕ) (s : Actors) → LettersNameTheirOwn s → LettersNameTheirOwn (ask_all members token s)
own_asked [] token s own = own
own_asked (a ∷ members) token s own = own_asked members token (push_letter a (Confirm token) s) (own_push s a (Confirm token) tt own)

owners_append : (gs hs : List (ℕ × List Amount)) → AreForOwners gs → AreForOwners hs → AreForOwners (gs ++ hs)
owners_append [] hs h k = k
owners_append (g ∷ gs) hs h k = (h.0, owners_append gs hs h.1 k)

outside_for : (all : List ℕ) (o : Option Seat) → AreForOwners (by_owner (held_outside all o))
unfolding by_owner
outside_for all None = tt
outside_for all (Some o) = back_is_for (λ x. has all (owner_of x)) o.cell.holdings

reap_decs_for : (all members : List ℕ) (s : Actors) → AreForOwners (reap_decs all members s)
unfolding reap_decs
reap_decs_for all [] s = tt
reap_decs_for all (a ∷ members) s = owners_append (by_owner (held_outside all (seat_at s a))) (reap_decs all members (set s a None))
    (outside_for all (seat_at s a)) (reap_decs_for all members (set s a None))

own_reaped : (members : List ℕ) (s : Actors) → LettersNameTheirOwn s → LettersNameTheirOwn (reap_members members s)
own_reaped members s own = own_decs (reap_decs members members s) (empty_seats members s) (reap_decs_for members members s) (every_emptied OwnMail members s own)

-- ---- each event

-- the cell of one actor changes, and of its letters some go
own_cell : (s : Actors) (a : ℕ) (c d : Cell) (mail later : List Letter) → seat_at s a ≡ seat c mail → AllByRecursion (NamesOwn a) later → LettersNameTheirOwn s → LettersNameTheirOwn (set s a (seat d later))
own_cell s a c d mail later at new own = every_set OwnMail s a d later (present_below s a _ at) new own

abbrev KeepsOwn : State → Event → State → Type 0
KeepsOwn s e t = LettersNameTheirOwn s.actors → LettersNameTheirOwn t.actors

owned : (trace : Trace) (s : State) {e : Event} {t : State} → IsStep trace s e t → KeepsOwn s e t
owned trace s (rule.takes a c l mail at is) own = own_cell s.actors a c (cell_after s.program a l c) (l ∷ mail) mail at (own a c (l ∷ mail) at).1 own
owned trace s (rule.ends a c mail f stops) own = own_cell s.actors a c _ mail mail stops.going.present (own a c mail stops.going.present) own
owned trace s (rule.prints a c mail f v stops) own = own_cell s.actors a c _ mail mail stops.going.present (own a c mail stops.going.present) own
owned trace s (rule.makes a c mail f kind register stops room) own = every_more OwnMail _ (fresh_cell s.options.weight s.program kind) [] tt (own_cell s.actors a c _ mail mail stops.going.present (own a c mail stops.going.present) own)
owned trace s (rule.posts a c mail f to behaviour args stops none) own = own_push _ to (App behaviour args _ _) tt (own_cell s.actors a c _ mail mail stops.going.present (own a c mail stops.going.present) own)
owned trace s (rule.mints a c mail f to behaviour args e lacked stops is) own =
    own_push _ (owner_of e.0) (Inc (to_mint s.options.weight (owner_of e.0) (e ∷ lacked)))
    (mint_is_for trace s.options.weight a (owner_of e.0) (cell_kept trace s a c f).holdings args (e ∷ lacked) is)
    (own_cell s.actors a c _ mail mail stops.going.present (own a c mail stops.going.present) own)
owned trace s (rule.gets a c mail f x going need) own =
    own_push _ (owner_of x) (Inc (to_need s.options.weight a c.holdings x)) (need_is_for s.options.weight a c.holdings x)
    (own_cell s.actors a c _ mail mail going.present (own a c mail going.present) own)
owned trace s (rule.collects a c mail at may) own =
    own_decs (by_owner (given_back (is_marked trace a c) (without_unused trace a c).holdings)) _
    (back_is_for (is_marked trace a c) (without_unused trace a c).holdings) (own_cell s.actors a c _ mail mail at (own a c mail at) own)
owned trace s (rule.leaves a c mail at may) own = own_reaped (a ∷ []) s.actors own
owned trace s (rule.blocks a c mail at may) own = own_cell s.actors a c _ mail mail at (own a c mail at) own
owned trace s (rule.hears note later is) own = own
owned trace s (rule.scans news) own = own_asked (closed_set s.detector) (suc s.detector.opened) s.actors own
owned trace s (rule.reaps number token is) own = own_reaped token.members s.actors own

pub events_keep_own : EventsKeepNamesOwn
events_keep_own s t e goes own = owned s.options.trace s (step_of s t e goes) own

start_mail : (found : Option ℕ) (a : ℕ) → AllByRecursion (NamesOwn a) (option_map_or (λ name. App name [] [] [] ∷ []) found [])
start_mail None a = tt
start_mail (Some name) a = (tt, tt)

nowhere : LettersNameTheirOwn []
nowhere a c mail at = cc

pub start_names_own : StartNamesOwn
start_names_own program options = every_more OwnMail [] (first_cell program) (start_letters program) (start_mail (start_name program) 0) nowhere

leads_own : (book : List Event) (s t : State) → Leads next s book t → LettersNameTheirOwn s.actors → LettersNameTheirOwn t.actors
leads_own [] s t same own = subst (λ (u : State). LettersNameTheirOwn u.actors) same own
leads_own (e ∷ book) s t (u, goes, leads) own = leads_own book u t leads (events_keep_own s u e goes own)

pub runs_name_own : RunsNameOwn
runs_name_own program options book t run = leads_own book (first_state program options) t run (start_names_own program options)

-- ---- so what is raised or lowered is an actor's own

amount_own : (a : ℕ) (things : List Amount) → AreFor a things → (x : Thing) → 0 < amount_of x things → owner_of x ≡ a
amount_own a things are x some = are.own x (among_some x things some)

inc_own : (a : ℕ) (l : Letter) → NamesOwn a l → (x : Thing) → 0 < inc_of x l → owner_of x ≡ a
inc_own a (App b args load rows) own x some = absurd (let z = (letter_App x b args load rows).0 in omega arith)
inc_own a (Inc things) own x some = amount_own a things own x (let z = (letter_Inc x things).0 in omega arith)
inc_own a (Dec things) own x some = absurd (let z = (letter_Dec x things).0 in omega arith)
inc_own a (Confirm token) own x some = absurd (let z = (letter_Confirm x token).0 in omega arith)

dec_own : (a : ℕ) (l : Letter) → NamesOwn a l → (x : Thing) → 0 < dec_of x l → owner_of x ≡ a
dec_own a (App b args load rows) own x some = absurd (let z = (letter_App x b args load rows).1 in omega arith)
dec_own a (Inc things) own x some = absurd (let z = (letter_Inc x things).1 in omega arith)
dec_own a (Dec things) own x some = amount_own a things own x (let z = (letter_Dec x things).1 in omega arith)
dec_own a (Confirm token) own x some = absurd (let z = (letter_Confirm x token).1 in omega arith)

sum_own : (f : Letter → ℕ) (a : ℕ) (x : Thing) → ((l : Letter) → NamesOwn a l → 0 < f l → owner_of x ≡ a) → (mail : List Letter) → AllByRecursion (NamesOwn a) mail → 0 < sum_by f mail → owner_of x ≡ a
sum_own f a x one [] own some = absurd (let z = sum-nil f in omega arith)
sum_own f a x one (l ∷ mail) own some = ⊎_elim
    (λ here. one l own.0 here)
    (λ none. sum_own f a x one mail own.1 (omega (arith, sum_by-cons f l mail)))
    (cases_lt 0 (f l))

pub incs_own : (a : ℕ) (mail : List Letter) → AllByRecursion (NamesOwn a) mail → (x : Thing) → 0 < sum_by (inc_of x) mail → owner_of x ≡ a
incs_own a mail own x some = sum_own (inc_of x) a x (λ l h k. inc_own a l h x k) mail own some

pub decs_own : (a : ℕ) (mail : List Letter) → AllByRecursion (NamesOwn a) mail → (x : Thing) → 0 < sum_by (dec_of x) mail → owner_of x ≡ a
decs_own a mail own x some = sum_own (dec_of x) a x (λ l h k. dec_own a l h x k) mail own some
