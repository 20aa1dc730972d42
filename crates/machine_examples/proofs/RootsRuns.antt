-- The books with root-only tracing are runs, by computation.
use Rattle.std.proofs.Common.{◌≡◌, ◌↔◌, ◌⊎◌, ℕ, zero, suc, cond, true, false, [], ◌∷◌, Some, None, is_some, inl, inr, refl, ap, sym, ◌∙◌, subst, arith}
use Rattle.std.specs.Prelude.{⊤}
use Rattle.std.proofs.lemmas.Bool.{false≢true}
use Rattle.std.specs.Cmp.{nat_cmp_is}
use Rattle.std.specs.FinMap as m
use Rattle.std.specs.Ordering.{eq_by_cmp, nat_cmp}
use Rattle.std.specs.declared.cmp.Ordering.TheVariants.{Greater}
use Rattle.orca_names.specs.declared.names.Thing.{Thing}
use Rattle.orca_names.specs.declared.names.Thing.TheVariants.{Actor, Obj}
use Rattle.event_rule.specs.declared.event.Event.TheVariants.{Go}
use Rattle.reach_walk.specs.Marks.{led_to, marks_of}
use Rattle.letter_kinds.specs.Counting.{by_owner}
use Rattle.letter_kinds.specs.Sums.{amount_of, dec_of, inc_of, load_count, times_loaded}
use Rattle.machine_examples.proofs.ExampleRuns.{IsStill, still_quiet}
use Rattle.machine_examples.proofs.LedgerSteps.{after_all}
use Rattle.machine_examples.proofs.Pages.{Page, first_page, state_told}
use Rattle.machine_examples.proofs.Places.{Places, seats_told}
use Rattle.machine_examples.proofs.SmallRuns.{turned, turned_leads}
use Rattle.machine_examples.proofs.Telling.{is_left_told, left-told, tally-told}
use Rattle.machine_rules.specs.Actors.{seat_at}
use Rattle.machine_examples.specs.Examples.{usual}
use Rattle.machine_rules.specs.Left.{IsLeft}
use Rattle.machine_examples.specs.RootsExamples.{ABroughtRowStays, AGotObjectIsMinted, AHeldObjectStays, by_roots, by_roots_and_five, from_the_look, from_the_mint, from_the_object, gets_an_object, holding_deep, is_held_by_its_own, looks_later, first_object, the_object, second_object, up_to_the_look, up_to_the_object, up_to_the_turn}
use Rattle.event_rule.specs.Runs.{Leads}
use Rattle.machine_rules.specs.Next.{next}

-- what is told to be left is left
only_left : (places : Places) (P : Thing → Type 0) → ((x : Thing) → is_left_told places x ≡ true → P x) → ((x : Thing) → P x → is_left_told places x ≡ true) → (x : Thing) → IsLeft (seats_told places) x ↔ P x
only_left places P only all x = (λ left. only x ((left-told places x).0 left), λ p. (left-told places x).1 (all x p))

-- ---- an object is held by one that it names

holding_first : Page
holding_first = first_page is_held_by_its_own by_roots

holding_sent : Page
holding_sent = turned up_to_the_object holding_first

holding_last : Page
holding_last = turned from_the_object holding_sent

deep_first : Page
deep_first = first_page is_held_by_its_own usual

deep_last : Page
deep_last = turned holding_deep deep_first

holding_computed : ⊤
unfolding led_to marks_of by_owner amount_of times_loaded inc_of dec_of load_count holding_first holding_sent holding_last deep_first deep_last
holding_computed = tt

sent_goes : is_some (after_all up_to_the_object (Some holding_first)) ≡ true
unfolding holding_computed
sent_goes = refl

holding_goes : is_some (after_all from_the_object (Some holding_sent)) ≡ true
unfolding holding_computed
holding_goes = refl

deep_goes : is_some (after_all holding_deep (Some deep_first)) ≡ true
unfolding holding_computed
deep_goes = refl

sent_run : Leads next (state_told holding_first) up_to_the_object (state_told holding_sent)
unfolding holding_sent
sent_run = turned_leads up_to_the_object holding_first sent_goes

holding_run : Leads next (state_told holding_sent) from_the_object (state_told holding_last)
unfolding holding_last
holding_run = turned_leads from_the_object holding_sent holding_goes

deep_run : Leads next (state_told deep_first) holding_deep (state_told deep_last)
unfolding deep_last
deep_run = turned_leads holding_deep deep_first deep_goes

abbrev IsOfThree : Thing → Type 0
IsOfThree x = (x ≡ Actor 1) ⊎ ((x ≡ Actor 2) ⊎ (x ≡ the_object))

-- of an actor with one object, the first, no other is found
apart : (serial : ℕ) → eq_by_cmp nat_cmp (suc serial) 0 ≡ false
apart serial = rw (← nat_cmp_is (suc serial) 0 Greater (omega arith)) refl

no_second : {X : Type 0} (serial : ℕ) (v : X) → is_some (m.find nat_cmp (suc serial) ((0, v) ∷ [])) ≡ false
no_second serial v = ap (λ b. is_some (cond b (Some v) None)) (apart serial)

object_of_three : (owner serial : ℕ) → is_left_told holding_last.places (Obj (record { owner = owner; serial = serial })) ≡ true → IsOfThree (Obj (record { owner = owner; serial = serial }))
unfolding holding_computed
object_of_three zero serial there = absurd (false≢true there)
object_of_three (suc zero) zero there = inr (inr refl)
object_of_three (suc zero) (suc serial) there = absurd (false≢true (sym (no_second serial _) ∙ there))
object_of_three (suc (suc zero)) serial there = absurd (false≢true there)
object_of_three (suc (suc (suc owner))) serial there = absurd (false≢true there)

only_three : (x : Thing) → is_left_told holding_last.places x ≡ true → IsOfThree x
unfolding holding_computed
only_three (Actor zero) there = absurd (false≢true there)
only_three (Actor (suc zero)) there = inl refl
only_three (Actor (suc (suc zero))) there = inr (inl refl)
only_three (Actor (suc (suc (suc a)))) there = absurd (false≢true there)
only_three (Obj n) there = object_of_three n.owner n.serial there

all_three : (x : Thing) → IsOfThree x → is_left_told holding_last.places x ≡ true
unfolding holding_computed
all_three x (inl is) = subst (λ x. is_left_told holding_last.places x ≡ true) (sym is) refl
all_three x (inr (inl is)) = subst (λ x. is_left_told holding_last.places x ≡ true) (sym is) refl
all_three x (inr (inr is)) = subst (λ x. is_left_told holding_last.places x ≡ true) (sym is) refl

holding_still : (a : ℕ) → IsStill (seat_at (seats_told holding_last.places) a)
unfolding holding_computed
holding_still zero = tt
holding_still (suc zero) = (refl, refl, refl, refl)
holding_still (suc (suc zero)) = (refl, refl, refl, refl)
holding_still (suc (suc (suc a))) = tt

deep_object : (owner serial : ℕ) → is_left_told deep_last.places (Obj (record { owner = owner; serial = serial })) ≡ true → Obj (record { owner = owner; serial = serial }) ≡ Actor 1
unfolding holding_computed
deep_object zero serial there = absurd (false≢true there)
deep_object (suc zero) serial there = absurd (false≢true there)
deep_object (suc (suc zero)) serial there = absurd (false≢true there)
deep_object (suc (suc (suc owner))) serial there = absurd (false≢true there)

deep_only : (x : Thing) → is_left_told deep_last.places x ≡ true → x ≡ Actor 1
unfolding holding_computed
deep_only (Actor zero) there = absurd (false≢true there)
deep_only (Actor (suc zero)) there = refl
deep_only (Actor (suc (suc zero))) there = absurd (false≢true there)
deep_only (Actor (suc (suc (suc a)))) there = absurd (false≢true there)
deep_only (Obj n) there = deep_object n.owner n.serial there

deep_there : (x : Thing) → x ≡ Actor 1 → is_left_told deep_last.places x ≡ true
unfolding holding_computed
deep_there x is = subst (λ x. is_left_told deep_last.places x ≡ true) (sym is) refl

deep_still : (a : ℕ) → IsStill (seat_at (seats_told deep_last.places) a)
unfolding holding_computed
deep_still zero = tt
deep_still (suc zero) = (refl, refl, refl, refl)
deep_still (suc (suc zero)) = tt
deep_still (suc (suc (suc a))) = tt

pub a_held_object_stays : AHeldObjectStays
unfolding holding_computed
a_held_object_stays = record {
  sent = state_told holding_sent;
  to_the_object = sent_run;
  letter = refl;
  last = state_told holding_last;
  to_the_end = holding_run;
  prints = refl;
  made = refl;
  objects = refl;
  owner = tally-told holding_last.places (Actor 1);
  object = tally-told holding_last.places the_object;
  holder = tally-told holding_last.places (Actor 2);
  left = only_left holding_last.places IsOfThree only_three all_three;
  quiet = still_quiet (state_told holding_last) holding_still refl refl refl;
  deep = state_told deep_last;
  deep_run = deep_run;
  deep_left = only_left deep_last.places (λ x. x ≡ Actor 1) deep_only deep_there;
  deep_quiet = still_quiet (state_told deep_last) deep_still refl refl refl;
}

-- ---- an object is got from another

getting_first : Page
getting_first = first_page gets_an_object by_roots

getting_taken : Page
getting_taken = turned up_to_the_turn getting_first

getting_minted : Page
getting_minted = turned (Go 1 ∷ []) getting_taken

getting_last : Page
getting_last = turned from_the_mint getting_minted

getting_computed : ⊤
unfolding led_to marks_of by_owner amount_of times_loaded inc_of dec_of load_count getting_first getting_taken getting_minted getting_last
getting_computed = tt

taken_goes : is_some (after_all up_to_the_turn (Some getting_first)) ≡ true
unfolding getting_computed
taken_goes = refl

minted_goes : is_some (after_all (Go 1 ∷ []) (Some getting_taken)) ≡ true
unfolding getting_computed
minted_goes = refl

getting_goes : is_some (after_all from_the_mint (Some getting_minted)) ≡ true
unfolding getting_computed
getting_goes = refl

taken_run : Leads next (state_told getting_first) up_to_the_turn (state_told getting_taken)
unfolding getting_taken
taken_run = turned_leads up_to_the_turn getting_first taken_goes

minted_run : Leads next (state_told getting_taken) (Go 1 ∷ []) (state_told getting_minted)
unfolding getting_minted
minted_run = turned_leads (Go 1 ∷ []) getting_taken minted_goes

getting_run : Leads next (state_told getting_minted) from_the_mint (state_told getting_last)
unfolding getting_last
getting_run = turned_leads from_the_mint getting_minted getting_goes

getting_object : (owner serial : ℕ) → is_left_told getting_last.places (Obj (record { owner = owner; serial = serial })) ≡ true → Obj (record { owner = owner; serial = serial }) ≡ Actor 0
unfolding getting_computed
getting_object zero serial there = absurd (false≢true there)
getting_object (suc zero) serial there = absurd (false≢true there)
getting_object (suc (suc owner)) serial there = absurd (false≢true there)

getting_only : (x : Thing) → is_left_told getting_last.places x ≡ true → x ≡ Actor 0
unfolding getting_computed
getting_only (Actor zero) there = refl
getting_only (Actor (suc zero)) there = absurd (false≢true there)
getting_only (Actor (suc (suc a))) there = absurd (false≢true there)
getting_only (Obj n) there = getting_object n.owner n.serial there

getting_there : (x : Thing) → x ≡ Actor 0 → is_left_told getting_last.places x ≡ true
unfolding getting_computed
getting_there x is = subst (λ x. is_left_told getting_last.places x ≡ true) (sym is) refl

getting_still : (a : ℕ) → IsStill (seat_at (seats_told getting_last.places) a)
unfolding getting_computed
getting_still zero = (refl, refl, refl, refl)
getting_still (suc zero) = tt
getting_still (suc (suc a)) = tt

pub a_got_object_is_minted : AGotObjectIsMinted
unfolding getting_computed
a_got_object_is_minted = record {
  taken = state_told getting_taken;
  to_the_turn = taken_run;
  minted = state_told getting_minted;
  to_the_mint = minted_run;
  frame = refl;
  letter = refl;
  prints_none = refl;
  first = tally-told getting_minted.places (Actor 0);
  inner = tally-told getting_minted.places first_object;
  outer = tally-told getting_minted.places second_object;
  other = tally-told getting_minted.places (Actor 1);
  last = state_told getting_last;
  to_the_end = getting_run;
  prints = refl;
  made = refl;
  objects = refl;
  left = only_left getting_last.places (λ x. x ≡ Actor 0) getting_only getting_there;
  quiet = still_quiet (state_told getting_last) getting_still refl refl refl;
}

-- ---- a row that a letter brought stays

looking_first : Page
looking_first = first_page looks_later by_roots_and_five

looking_asked : Page
looking_asked = turned up_to_the_look looking_first

looking_last : Page
looking_last = turned from_the_look looking_asked

looking_computed : ⊤
unfolding led_to marks_of by_owner amount_of times_loaded inc_of dec_of load_count looking_first looking_asked looking_last
looking_computed = tt

asked_goes : is_some (after_all up_to_the_look (Some looking_first)) ≡ true
unfolding looking_computed
asked_goes = refl

looking_goes : is_some (after_all from_the_look (Some looking_asked)) ≡ true
unfolding looking_computed
looking_goes = refl

asked_run : Leads next (state_told looking_first) up_to_the_look (state_told looking_asked)
unfolding looking_asked
asked_run = turned_leads up_to_the_look looking_first asked_goes

looking_run : Leads next (state_told looking_asked) from_the_look (state_told looking_last)
unfolding looking_last
looking_run = turned_leads from_the_look looking_asked looking_goes

looking_object : (owner serial : ℕ) → is_left_told looking_last.places (Obj (record { owner = owner; serial = serial })) ≡ true → Obj (record { owner = owner; serial = serial }) ≡ Actor 0
unfolding looking_computed
looking_object zero serial there = absurd (false≢true there)
looking_object (suc zero) serial there = absurd (false≢true there)
looking_object (suc (suc zero)) serial there = absurd (false≢true there)
looking_object (suc (suc (suc owner))) serial there = absurd (false≢true there)

looking_only : (x : Thing) → is_left_told looking_last.places x ≡ true → x ≡ Actor 0
unfolding looking_computed
looking_only (Actor zero) there = refl
looking_only (Actor (suc zero)) there = absurd (false≢true there)
looking_only (Actor (suc (suc zero))) there = absurd (false≢true there)
looking_only (Actor (suc (suc (suc a)))) there = absurd (false≢true there)
looking_only (Obj n) there = looking_object n.owner n.serial there

looking_there : (x : Thing) → x ≡ Actor 0 → is_left_told looking_last.places x ≡ true
unfolding looking_computed
looking_there x is = subst (λ x. is_left_told looking_last.places x ≡ true) (sym is) refl

looking_still : (a : ℕ) → IsStill (seat_at (seats_told looking_last.places) a)
unfolding looking_computed
looking_still zero = (refl {a = None}, refl {a = []}, refl {a = false}, refl {a = true})
looking_still (suc zero) = tt
looking_still (suc (suc zero)) = tt
looking_still (suc (suc (suc a))) = tt

pub a_brought_row_stays : ABroughtRowStays
unfolding looking_computed
a_brought_row_stays = record {
  asked = state_told looking_asked;
  to_the_look = asked_run;
  letter = refl;
  first = tally-told looking_asked.places (Actor 0);
  outer = tally-told looking_asked.places first_object;
  owner = tally-told looking_asked.places (Actor 1);
  inner = tally-told looking_asked.places the_object;
  looker = tally-told looking_asked.places (Actor 2);
  last = state_told looking_last;
  to_the_end = looking_run;
  prints = refl;
  made = refl;
  objects = refl;
  left = only_left looking_last.places (λ x. x ≡ Actor 0) looking_only looking_there;
  quiet = still_quiet (state_told looking_last) looking_still refl refl refl;
}
