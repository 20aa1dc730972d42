-- Each event of the plain machine keeps its limits.
use Rattle.std.proofs.Common.{◌≡◌, ℕ, ◌+◌, ◌≤◌, Bool, true, false, List, [], ◌∷◌, ◌++◌, if◌then◌else◌, length, length-append, set, slice_get, Option, None, Some, refl, sym, ap, arith, nat_lt, option_and_then}
use Rattle.std.specs.Option.{option_map_or}
use Rattle.std.proofs.lemmas.Bool.{ltb-true}
use Rattle.std.proofs.lemmas.List.{length-set}
use Rattle.std.proofs.lemmas.List.Sums.{sum_by-append, sum_by-set}
use Rattle.std.proofs.lemmas.Option.{get_or_from_slice_get, slice_get_within}
use Rattle.orca_names.specs.declared.names.Value.{Value}
use Rattle.orca_names.specs.declared.row.Fields.{Fields}
use Rattle.behaviour_code.specs.declared.code.Program.{Program}
use Rattle.behaviour_code.specs.WellFormed.{IsWellFormed}
use Rattle.turn_rules.specs.declared.act.Act.{Act}
use Rattle.turn_rules.specs.declared.act.Act.TheVariants.{Post, New, Print, End}
use Rattle.turn_rules.specs.declared.act.Frame.{Frame}
use Rattle.turn_rules.proofs.Bounds.{segment_makes}
use Rattle.plain_rules.specs.declared.PlainActor.{PlainActor}
use Rattle.plain_rules.specs.declared.PlainLetter.{PlainLetter}
use Rattle.event_rule.specs.Runs.{Step, NotEnabled, IsFull, Goes}
use Rattle.plain_rules.specs.Machine.{PlainState, after_act, after_letter, after_turn, fresh_actor, frame_of, next_state, objects_made, plain_go, plain_row, plain_take, stopped_at, actor_after_take, turn_of_actor, with_letter, with_name, with_turn}
use Rattle.plain_rules.specs.Limits.{IsWithinLimits, OnGoes}
use Rattle.plain_rules.proofs.Changing.{changing_makes, length-with_changed}

next_is_within : (s : PlainState) (actors : List PlainActor) (prints : List Value) → IsWithinLimits s → length actors ≤ 65536 → objects_made actors ≤ objects_made s.actors + 1024 →
    IsWithinLimits (next_state s actors prints)
next_is_within s actors prints within few made = record { actors = few; objects = omega (arith, within.objects, made) }

-- ---- go

turn_makes : (actors : List PlainActor) (a : ℕ) (frame : Option Frame) (fields : Fields) (made : List (List Value)) → length made ≤ 1024 →
    objects_made (with_turn actors a frame fields made) ≤ objects_made actors + 1024
turn_makes actors a frame fields made few =
    changing_makes 1024 actors a (λ x. record x { frame = frame; fields = fields; rows = x.rows ++ made }) (λ x. omega (arith, length-append x.rows made))

length-with_turn : (actors : List PlainActor) (a : ℕ) (frame : Option Frame) (fields : Fields) (made : List (List Value)) → length (with_turn actors a frame fields made) ≡ length actors
length-with_turn actors a frame fields made = length-with_changed actors a (λ x. record x { frame = frame; fields = fields; rows = x.rows ++ made })

letter_makes : (actors : List PlainActor) (to : ℕ) (letter : PlainLetter) → objects_made (with_letter actors to letter) ≤ objects_made actors + 0
letter_makes actors to letter = changing_makes 0 actors to (λ x. record x { letters = x.letters ++ letter ∷ [] }) (λ x. omega arith)

length-with_letter : (actors : List PlainActor) (to : ℕ) (letter : PlainLetter) → length (with_letter actors to letter) ≡ length actors
length-with_letter actors to letter = length-with_changed actors to (λ x. record x { letters = x.letters ++ letter ∷ [] })

after_act_is_within : (s : PlainState) (a : ℕ) (frame : Frame) (fields : Fields) (made : List (List Value)) (act : Act) → IsWithinLimits s → length made ≤ 1024 →
    OnGoes IsWithinLimits (after_act s a frame fields made act)
after_act_is_within s a frame fields made End within few =
    next_is_within s (with_turn s.actors a None fields made) s.prints within
    (omega (arith, within.actors, length-with_turn s.actors a None fields made)) (turn_makes s.actors a None fields made few)
after_act_is_within s a frame fields made (Print v) within few =
    next_is_within s (with_turn s.actors a (Some frame) fields made) (s.prints ++ v ∷ []) within
    (omega (arith, within.actors, length-with_turn s.actors a (Some frame) fields made)) (turn_makes s.actors a (Some frame) fields made few)
after_act_is_within s a frame fields made (Post to behaviour args) within few =
    let letter : PlainLetter = record { behaviour = behaviour; args = args } in
    let actors = with_turn s.actors a (Some frame) fields made in
    next_is_within s (with_letter actors to letter) s.prints within
    (omega (arith, within.actors, length-with_letter actors to letter, length-with_turn s.actors a (Some frame) fields made))
    (omega (arith, letter_makes actors to letter, turn_makes s.actors a (Some frame) fields made few))
after_act_is_within s a frame fields made (New kind register) within few = cases (nat_lt (length s.actors) 65536) refl
  where
    named : Frame
    named = with_name frame register (length s.actors)

    actors : List PlainActor
    actors = with_turn s.actors a (Some named) fields made

    fresh : PlainActor
    fresh = fresh_actor s.program kind

    cases : (room : Bool) → nat_lt (length s.actors) 65536 ≡ room → OnGoes IsWithinLimits (if room then Goes (next_state s (actors ++ fresh ∷ []) s.prints) else IsFull)
    cases false e = tt
    cases true e =
        next_is_within s (actors ++ fresh ∷ []) s.prints within
        (omega (arith, ltb-true (length s.actors) 65536 e, length-append actors (fresh ∷ []), length-with_turn s.actors a (Some named) fields made))
        (omega (arith, sum_by-append (λ x. length x.rows) actors (fresh ∷ []), turn_makes s.actors a (Some named) fields made few))

pub plain_go_is_within : (s : PlainState) (a : ℕ) → IsWellFormed s.program → IsWithinLimits s → OnGoes IsWithinLimits (plain_go s a)
plain_go_is_within s a good within = of_actor (slice_get s.actors a)
  where
    gone : PlainActor → Frame → Step PlainState
    gone x frame = after_turn s a frame (turn_of_actor s a x frame)

    of_frame : (x : PlainActor) (frame : Option Frame) → OnGoes IsWithinLimits (option_map_or (gone x) frame NotEnabled)
    of_frame x None = tt
    of_frame x (Some frame) =
        let stop = turn_of_actor s a x frame in
        after_act_is_within s a (stopped_at frame stop) stop.turn.fields stop.turn.made stop.act within
        (segment_makes (record { program = s.program; me = a; base = length x.rows; rows = plain_row s.actors }) frame x.fields good)

    of_actor : (found : Option PlainActor) → OnGoes IsWithinLimits (option_map_or (λ x. option_map_or (gone x) x.frame NotEnabled) found NotEnabled)
    of_actor None = tt
    of_actor (Some x) = of_frame x x.frame

-- ---- take

taking_keeps_rows : (program : Program) (x y : PlainActor) (frame : Option Frame) (letters : List PlainLetter) → after_letter program x frame letters ≡ Some y → y.rows ≡ x.rows
taking_keeps_rows program x y (Some frame) letters e = cc
taking_keeps_rows program x y None [] e = cc
taking_keeps_rows program x y None (letter ∷ letters) e =
    let same : record x { frame = frame_of program x.kind letter; letters = letters } ≡ y = cc in sym (ap (λ z. z.rows) same)

pub plain_take_is_within : (s : PlainState) (a : ℕ) → IsWithinLimits s → OnGoes IsWithinLimits (plain_take s a)
plain_take_is_within s a within = of_actor (slice_get s.actors a) refl
  where
    took : PlainActor → Step PlainState
    took y = Goes (next_state s (set s.actors a y) s.prints)

    of_taken : (x : PlainActor) → slice_get s.actors a ≡ Some x → (result : Option PlainActor) → actor_after_take s.program x ≡ result → OnGoes IsWithinLimits (option_map_or took result NotEnabled)
    of_taken x there None e = tt
    of_taken x there (Some y) e =
        next_is_within s (set s.actors a y) s.prints within (omega (arith, within.actors, length-set s.actors a y))
        (omega (
          arith,
          sum_by-set (λ z. length z.rows) s.actors a y x (slice_get_within s.actors a x there),
          ap (λ z. length z.rows) (get_or_from_slice_get s.actors a x x there),
          ap length (taking_keeps_rows s.program x y x.frame x.letters e),
        ))

    of_actor : (found : Option PlainActor) → slice_get s.actors a ≡ found → OnGoes IsWithinLimits (option_map_or took (option_and_then (actor_after_take s.program) found) NotEnabled)
    of_actor None e = tt
    of_actor (Some x) e = of_taken x e (actor_after_take s.program x) refl
