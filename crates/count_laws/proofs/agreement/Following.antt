-- What it is for the plain machine to follow an event, and how it follows a take.
use Rattle.std.proofs.Common.{◌≡◌, ℕ, Bool, true, false, Option, Some, None, List, ◌∷◌, set, refl, sym, ◌∙◌, ap, subst, option_and_then}
use Rattle.std.specs.Prelude.{slice_get}
use Rattle.std.specs.Option.{option_map_or}
use Rattle.orca_names.specs.declared.names.Thing.{Thing}
use Rattle.orca_names.specs.declared.names.Value.{Value}
use Rattle.reach_walk.specs.Reach.{thing_row}
use Rattle.letter_kinds.specs.Counting.{Loaded}
use Rattle.letter_kinds.specs.Holdings.{Row}
use Rattle.letter_kinds.specs.Letters.{Letter, App, Inc, Dec, Confirm}
use Rattle.letter_kinds.specs.declared.note.Note.{Note}
use Rattle.count_laws.proofs.events.EitherMode.{take_keeps}
use Rattle.count_laws.proofs.balance.InHand.{take_letter}
use Rattle.count_laws.proofs.events.Take.{next_receive}
use Rattle.count_laws.proofs.agreement.PlainSide.{StandsAt, objects_kept, people-set, rows_kept, same_rows, stands_beside}
use Rattle.orca_names.specs.declared.trace.Trace.{Trace}
use Rattle.machine_rules.specs.Actors.{seat, seat_at}
use Rattle.count_laws.specs.Agreement.{Person, app_letters, people_of, person_of, person_of_plain}
use Rattle.machine_rules.specs.Cell.{Cell}
use Rattle.count_laws.specs.Facts.{Facts, KeepsCounts}
use Rattle.event_rule.specs.Runs.{Step, Goes, NotEnabled}
use Rattle.plain_rules.specs.Machine.{PlainState, after_letter, frame_of, next_state, plain_row, plain_take, actor_after_take}
use Rattle.machine_rules.specs.Run.{starts_with_app}
use Rattle.machine_rules.specs.State.{State}
use Rattle.machine_rules.specs.Take.{cell_after, note_of, notes_after}
use Rattle.plain_rules.specs.declared.PlainActor.{PlainActor}
use Rattle.plain_rules.specs.declared.PlainLetter.{PlainLetter}

-- where the event is a choice, the plain machine goes too; else it stays
abbrev pub Follows : Trace → Bool → Step PlainState → PlainState → State → Type 0
Follows trace true goes p t = (q : PlainState) × (goes ≡ Goes q) × Facts trace q t
Follows trace false goes p t = Facts trace p t

pub same_person : (x y : Person) → x.kind ≡ y.kind → x.fields ≡ y.fields → x.frame ≡ y.frame → x.letters ≡ y.letters → x.serial ≡ y.serial → x ≡ y
same_person x y k f r l n i = record { kind = k i; fields = f i; frame = r i; letters = l i; serial = n i }

-- ---- take

took : (p : PlainState) (a : ℕ) (x : PlainActor) (l : PlainLetter) (ls : List PlainLetter) → slice_get p.actors a ≡ Some x → x.frame ≡ None → x.letters ≡ l ∷ ls
    → plain_take p a ≡ Goes (next_state p (set p.actors a (record x { frame = frame_of p.program x.kind l; letters = ls })) p.prints)
took p a x l ls there idle mail =
    ap (λ found. option_map_or after (option_and_then (actor_after_take p.program) found) NotEnabled) there
    ∙ ap (λ f. option_map_or after (after_letter p.program x f x.letters) NotEnabled) idle
    ∙ ap (λ m. option_map_or after (after_letter p.program x None m) NotEnabled) mail
  where
    after : PlainActor → Step PlainState
    after y = Goes (next_state p (set p.actors a y) p.prints)

module _ (trace : Trace) (p : PlainState) (s : State) (facts : Facts trace p s) (a : ℕ) (c : Cell) (idle : c.frame ≡ None) where
  abbrev all : Thing → Option Row
  all = thing_row (plain_row p.actors)

  -- an application letter
  app_follows : (b : ℕ) (args : List Value) (load rows : List Loaded) (ls : List Letter) (notes : List Note) → seat_at s.actors a ≡ seat c (App b args load rows ∷ ls)
      → Follows trace true (plain_take p a) p (record s { actors = take_letter s.program a c (App b args load rows) ls s.actors; notes = notes })
  app_follows b args load rows ls notes at = (
    next_state p (set p.actors a y) p.prints,
    took p a x letter (app_letters ls) beside.there (ap (λ (q : Person). q.frame) beside.same ∙ idle) (ap (λ (q : Person). q.letters) beside.same),
    record {
      counts = same_rows all (thing_row (plain_row (set p.actors a y))) (people_of (set p.actors a y)) _ (rows_kept p.actors a x beside.there y refl)
          (subst (λ people. KeepsCounts trace all people (take_letter s.program a c (App b args load rows) ls s.actors))
          (ap (set (people_of p.actors) a) (sym same) ∙ sym (people-set p.actors a y))
          (take_keeps trace s.program all (people_of p.actors) s.actors facts.counts a c (App b args load rows) ls at));
      program = facts.program;
      prints = facts.prints;
      objects = objects_kept p.actors a x beside.there y refl ∙ facts.objects;
      weight = facts.weight;
      mode = facts.mode;
    },
  )
    where
      letter : PlainLetter
      letter = record { behaviour = b; args = args }

      beside : StandsAt p.actors a (person_of c (App b args load rows ∷ ls))
      beside = stands_beside all p.actors s.actors facts.counts a c (App b args load rows ∷ ls) at

      x : PlainActor
      x = beside.actor

      y : PlainActor
      y = record x { frame = frame_of p.program x.kind letter; letters = app_letters ls }

      same : person_of_plain y ≡ person_of (cell_after s.program a (App b args load rows) c) ls
      same =
          let kind = ap (λ (q : Person). q.kind) beside.same in
          same_person (person_of_plain y) (person_of (cell_after s.program a (App b args load rows) c) ls) kind (ap (λ (q : Person). q.fields) beside.same)
          ((λ i. frame_of (facts.program i) (kind i) letter)) refl
          (ap (λ (q : Person). q.serial) beside.same ∙ sym (next_receive a load c.holdings))

  -- another letter
  stays : (l : Letter) (ls : List Letter) (notes : List Note) → KeepsCounts trace all (people_of p.actors) (take_letter s.program a c l ls s.actors)
      → Facts trace p (record s { actors = take_letter s.program a c l ls s.actors; notes = notes })
  stays l ls notes counts = record { counts = counts; program = facts.program; prints = facts.prints; objects = facts.objects; weight = facts.weight; mode = facts.mode }

  -- the state after the letter is taken
  abbrev pub after_take : Letter → List Letter → State
  after_take l ls = record s { actors = take_letter s.program a c l ls s.actors; notes = notes_after c.reported (note_of a l) s.notes }

  pub take_follows : (l : Letter) (ls : List Letter) → seat_at s.actors a ≡ seat c (l ∷ ls) → Follows trace (starts_with_app (l ∷ ls)) (plain_take p a) p (after_take l ls)
  take_follows (App b args load rows) ls at = app_follows b args load rows ls _ at
  take_follows (Inc es) ls at = stays (Inc es) ls _ (take_keeps trace s.program all (people_of p.actors) s.actors facts.counts a c (Inc es) ls at)
  take_follows (Dec es) ls at = stays (Dec es) ls _ (take_keeps trace s.program all (people_of p.actors) s.actors facts.counts a c (Dec es) ls at)
  take_follows (Confirm k) ls at = stays (Confirm k) ls _ (take_keeps trace s.program all (people_of p.actors) s.actors facts.counts a c (Confirm k) ls at)
