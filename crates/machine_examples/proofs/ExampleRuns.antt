-- Concrete books are runs, by computation, and nothing that is not needed is left after them.
use Rattle.std.proofs.Common.{◌≡◌, ◌≢◌, ◌↔◌, ℕ, zero, suc, ◌++◌, ◌==◌, ◌&&◌, ◌||◌, not, true, false, List, [], ◌∷◌, Option, Some, None, is_some, refl, ap, sym, ◌∙◌, subst, Bool}
use Rattle.std.specs.FinMap as m
use Rattle.std.specs.List.{find}
use Rattle.std.specs.Ordering.{nat_cmp}
use Rattle.std.specs.Prelude.{is_none, if◌then◌else◌, option_and_then, ⊤}
use Rattle.orca_names.specs.Names.{owner_of}
use Rattle.orca_names.specs.declared.names.Thing.{Thing}
use Rattle.orca_names.specs.declared.names.Thing.TheVariants.{Actor, Obj}
use Rattle.event_rule.specs.declared.event.Event.{Event}
use Rattle.event_rule.specs.declared.event.Event.TheVariants.{Take, Go, Collect, Leave, Block, Hear, Scan, Reap}
use Rattle.reach_walk.specs.Marks.{led_to, marks_of}
use Rattle.letter_kinds.specs.Counting.{by_owner}
use Rattle.letter_kinds.specs.Detector.{Token, all_acked}
use Rattle.letter_kinds.specs.Holdings.{has_own}
use Rattle.machine_examples.proofs.LedgerSteps.{after_all, after_all-leads}
use Rattle.machine_examples.proofs.Pages.{Page, first_page, state_told}
use Rattle.machine_examples.proofs.Places.{seats_told}
use Rattle.machine_rules.specs.Actors.{Actors, Seat, seat_at}
use Rattle.machine_examples.specs.Examples.{usual, two_hold_each_other, two_up_to_the_ping, two_to_the_end, TwoHoldEachOtherAndGo, passes_an_object_on, passing_book, AnObjectIsPassedOnAndGoes}
use Rattle.machine_rules.specs.Left.{IsLeft}
use Rattle.plain_list.specs.Lists.{is_empty}
use Rattle.event_rule.specs.Runs.{IsQuiet, Leads, NotEnabled, Step}
use Rattle.machine_rules.specs.Next.{next, acting}
use Rattle.machine_rules.specs.Run.{IsRun}
use Rattle.machine_rules.specs.State.{State, first_state}
use Rattle.std.specs.Option.{option_map_or}
use Rattle.machine_rules.specs.Block.{block}
use Rattle.machine_rules.specs.Collect.{collect}
use Rattle.machine_rules.specs.Detect.{hear, reap, scan}
use Rattle.machine_rules.specs.Go.{go}
use Rattle.machine_rules.specs.Guards.{may_block, may_collect, may_go, may_leave, may_take}
use Rattle.machine_rules.specs.Leave.{leave}
use Rattle.machine_rules.specs.Take.{take}
use Rattle.machine_rules.specs.Cell.{Cell}
use Rattle.letter_kinds.specs.Letters.{Letter}

-- what is there, or else the page that is given
abbrev pub page_or : Page → Option Page → Page
page_or b None = b
page_or b (Some c) = c

pub page_there : (b : Page) (o : Option Page) → is_some o ≡ true → o ≡ Some (page_or b o)
page_there b None h = cc
page_there b (Some c) h = refl

-- ---- where no event is enabled

-- an actor that is pinned or told that it is blocked, and has nothing to do, or none
abbrev pub IsStill : Option Seat → Type 0
IsStill None = ⊤
IsStill (Some o) = (o.cell.frame ≡ None) × (o.mail ≡ []) × (o.cell.dirty ≡ false) × ((o.cell.fields.pinned || o.cell.reported) ≡ true)

-- it may not do anything
acting_still : (may : Cell → List Letter → Bool) (act : Cell → List Letter → Step State) (o : Option Seat)
    → ((seat : Seat) → IsStill (Some seat) → may seat.cell seat.mail ≡ false) → IsStill o → acting may act o ≡ NotEnabled
acting_still may act None never still = refl
acting_still may act (Some o) never still = ap (λ q. if q then act o.cell o.mail else NotEnabled) (never o still)

no_take : (o : Seat) → IsStill (Some o) → may_take o.cell o.mail ≡ false
no_take o still = λ i. is_none (still.0 i) && not (is_empty (still.1 i))

no_go : (o : Seat) → IsStill (Some o) → may_go o.cell o.mail ≡ false
no_go o still = ap is_some still.0

no_collect : (o : Seat) → IsStill (Some o) → may_collect o.cell o.mail ≡ false
no_collect o still = λ i. is_none (still.0 i) && still.2 i

no_block : (o : Seat) → IsStill (Some o) → may_block o.cell o.mail ≡ false
no_block o still = λ i. is_none (still.0 i) && (is_empty (still.1 i) && not (still.2 i || still.3 i))

no_leave : (o : Seat) → IsStill (Some o) → may_leave o.cell o.mail ≡ false
no_leave o still = ap (λ q. q && (o.cell.holdings.count == 0)) (no_block o still)

pub still_quiet : (s : State) → ((a : ℕ) → IsStill (seat_at s.actors a)) → s.notes ≡ [] → s.detector.tokens ≡ [] → s.detector.news ≡ false → IsQuiet next s
still_quiet s still notes tokens news (Take a) = acting_still may_take (take s a) (seat_at s.actors a) no_take (still a)
still_quiet s still notes tokens news (Go a) = acting_still may_go (go s.options.trace s a) (seat_at s.actors a) no_go (still a)
still_quiet s still notes tokens news (Collect a) = acting_still may_collect (collect s.options.trace s a) (seat_at s.actors a) no_collect (still a)
still_quiet s still notes tokens news (Leave a) = acting_still may_leave (leave s a) (seat_at s.actors a) no_leave (still a)
still_quiet s still notes tokens news (Block a) = acting_still may_block (block s a) (seat_at s.actors a) no_block (still a)
still_quiet s still notes tokens news Hear = ap (hear s) notes
still_quiet s still notes tokens news Scan = ap (λ q. if q then scan s else NotEnabled) news
still_quiet s still notes tokens news (Reap number) =
    ap (λ tokens. option_map_or (reap s) (option_and_then (λ t. if all_acked t then Some t else None) (find (λ (t : Token). t.number == number) tokens)) NotEnabled) tokens

-- ---- two peers that hold each other

two_first : Page
two_first = first_page two_hold_each_other usual

two_at_the_ping : Page
two_at_the_ping = page_or two_first (after_all two_up_to_the_ping (Some two_first))

two_last : Page
two_last = page_or two_first (after_all two_to_the_end (Some two_at_the_ping))

-- what these pages compute with
two_computed : ⊤
unfolding led_to marks_of by_owner two_first two_at_the_ping two_last
two_computed = tt

up_to_the_ping : is_some (after_all two_up_to_the_ping (Some two_first)) ≡ true
unfolding two_computed
up_to_the_ping = refl

to_the_end : is_some (after_all two_to_the_end (Some two_at_the_ping)) ≡ true
unfolding two_computed
to_the_end = refl

from_first : IsRun two_hold_each_other usual two_up_to_the_ping (state_told two_at_the_ping)
unfolding two_first two_at_the_ping
from_first = after_all-leads two_up_to_the_ping two_first two_at_the_ping (page_there two_first _ up_to_the_ping)

from_ping : Leads next (state_told two_at_the_ping) two_to_the_end (state_told two_last)
unfolding two_last
from_ping = after_all-leads two_to_the_end two_at_the_ping two_last (page_there two_first _ to_the_end)

joined : (s t u : State) (first second : List Event) → Leads next s first t → Leads next t second u → Leads next s (first ++ second) u
joined s t u [] second l m = subst (λ s. Leads next s second u) (sym l) m
joined s t u (e ∷ first) second l m = (l.0, l.1, joined l.0 t u first second l.2 m)

from_start : IsRun two_hold_each_other usual (two_up_to_the_ping ++ two_to_the_end) (state_told two_last)
from_start = joined (first_state two_hold_each_other usual) (state_told two_at_the_ping) (state_told two_last) two_up_to_the_ping two_to_the_end from_first from_ping

two_gone : seats_told two_last.places ≡ None ∷ None ∷ None ∷ []
unfolding two_computed
two_gone = refl

none_of_three : (a : ℕ) → seat_at (None ∷ None ∷ None ∷ []) a ≡ None
none_of_three zero = refl
none_of_three (suc zero) = refl
none_of_three (suc (suc zero)) = refl
none_of_three (suc (suc (suc a))) = refl

nobody : (a : ℕ) → seat_at (seats_told two_last.places) a ≡ None
nobody a = ap (λ actors. seat_at actors a) two_gone ∙ none_of_three a

pub two_hold_each_other_and_go : TwoHoldEachOtherAndGo
unfolding two_computed
two_hold_each_other_and_go = record {
  ping = state_told two_at_the_ping;
  up_to_the_ping = from_first;
  opened = refl;
  cancelled = refl;
  last = state_told two_last;
  to_the_end = from_ping;
  run = from_start;
  prints = refl;
  made = refl;
  nothing_left = λ x left. let e = nobody (owner_of x) in let p = left.present in cc;
  quiet = still_quiet (state_told two_last) (λ a. subst IsStill (sym (nobody a)) tt) refl refl refl;
}

-- ---- an object is passed on

passing_first : Page
passing_first = first_page passes_an_object_on usual

passing_last : Page
passing_last = page_or passing_first (after_all passing_book (Some passing_first))

-- what this page computes with
passing_computed : ⊤
unfolding led_to marks_of by_owner passing_first passing_last
passing_computed = tt

passing_goes : is_some (after_all passing_book (Some passing_first)) ≡ true
unfolding passing_computed
passing_goes = refl

passing_run : IsRun passes_an_object_on usual passing_book (state_told passing_last)
unfolding passing_first passing_last
passing_run = after_all-leads passing_book passing_first passing_last (page_there passing_first _ passing_goes)

-- the first actor is still, and has no object
abbrev IsMain : Option Seat → Type 0
IsMain None = ⊥
IsMain (Some o) = IsStill (Some o) × (o.cell.holdings.rows ≡ m.empty)

main_left : IsMain (seat_at (seats_told passing_last.places) 0)
unfolding passing_computed
main_left = ((refl, refl, refl, refl), refl)

others_gone : (a : ℕ) → seat_at (seats_told passing_last.places) (suc a) ≡ None
unfolding passing_computed
others_gone zero = refl
others_gone (suc zero) = refl
others_gone (suc (suc a)) = refl

all_still : (a : ℕ) → IsStill (seat_at (seats_told passing_last.places) a)
all_still zero = cases (seat_at (seats_told passing_last.places) 0) main_left
  where
    cases : (o : Option Seat) → IsMain o → IsStill o
    cases None h = absurd h
    cases (Some o) h = h.0
all_still (suc a) = subst IsStill (sym (others_gone a)) tt

-- of an actor with no object, only itself is left
only_main : (actors : Actors) → IsMain (seat_at actors 0) → ((a : ℕ) → seat_at actors (suc a) ≡ None) → (x : Thing) → IsLeft actors x ↔ x ≡ Actor 0
unfolding has_own
only_main actors main others x = (of_thing x, λ e. subst (IsLeft actors) (sym e) (itself (seat_at actors 0) refl main))
  where
    itself : (o : Option Seat) → seat_at actors 0 ≡ o → IsMain o → IsLeft actors (Actor 0)
    itself None e h = absurd h
    itself (Some o) e h = record { seat = o; present = e; kept = refl }

    -- it has no object
    no_object : (serial : ℕ) (o : Seat) (found : Option Seat) → IsMain found → found ≡ Some o → (owner : ℕ) → has_own o.cell.holdings (Obj (record { owner = owner; serial = serial })) ≢ true
    no_object serial o None h e owner kept = cc
    no_object serial o (Some p) h e owner kept =
        let same : p ≡ o = cc in
        let rows : o.cell.holdings.rows ≡ m.empty = subst (λ (p : Seat). p.cell.holdings.rows ≡ m.empty) same h.1 in
        let none : is_some (m.get o.cell.holdings.rows serial) ≡ false = ap (λ rows. is_some (m.get rows serial)) rows ∙ ap is_some (m.get-empty nat_cmp serial) in
        cc

    of_object : (owner serial : ℕ) → ¬ IsLeft actors (Obj (record { owner = owner; serial = serial }))
    of_object zero serial left = no_object serial left.seat (seat_at actors 0) main left.present 0 left.kept
    of_object (suc a) serial left = let e = others a in let p = left.present in cc

    of_thing : (x : Thing) → IsLeft actors x → x ≡ Actor 0
    of_thing (Actor zero) left = refl
    of_thing (Actor (suc a)) left = let e = others a in let p = left.present in cc
    of_thing (Obj n) left = absurd (of_object n.owner n.serial left)

pub an_object_is_passed_on_and_goes : AnObjectIsPassedOnAndGoes
unfolding passing_computed
an_object_is_passed_on_and_goes = record {
  last = state_told passing_last;
  run = passing_run;
  prints = refl;
  made = refl;
  objects = refl;
  left = only_main (seats_told passing_last.places) main_left others_gone;
  quiet = still_quiet (state_told passing_last) all_still refl refl refl;
}
