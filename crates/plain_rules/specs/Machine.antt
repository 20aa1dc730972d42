-- The plain machine: it frees nothing. What an actor takes and does, and what it prints.
use Rattle.std.specs.Prelude.{ℕ, ◌+◌, false, nat_lt, List, [], ◌∷◌, ◌++◌, length, replicate, slice_get, slice_set, sum_by, Option, Some, None, option_and_then, option_map, if◌then◌else◌}
use Rattle.std.specs.Option.{option_map_or}
use Rattle.orca_names.specs.declared.names.ObjName.{ObjName}
use Rattle.orca_names.specs.declared.names.Value.{Value}
use Rattle.orca_names.specs.declared.names.Value.TheVariants.{Null, Actor}
use Rattle.orca_names.specs.declared.row.Fields.{Fields}
use Rattle.behaviour_code.specs.declared.code.Program.{Program}
use Rattle.behaviour_code.specs.Find.{field_count, start_name}
use Rattle.turn_rules.specs.declared.act.Act.{Act}
use Rattle.turn_rules.specs.declared.act.Act.TheVariants.{Post, New, Print, End}
use Rattle.turn_rules.specs.declared.act.Frame.{Frame}
use Rattle.turn_rules.specs.Frames.{frame_for}
use Rattle.turn_rules.specs.Segment.{Stop, segment_of}
use Rattle.event_rule.specs.Runs.{Step, NotEnabled, IsFull, Goes}
use Rattle.plain_rules.specs.declared.PlainActor.{PlainActor}
use Rattle.plain_rules.specs.declared.PlainLetter.{PlainLetter}
use Rattle.orca_names.specs.declared.limits.TheConstants.{ACTORS_LIMIT}

-- all actors ever made, by number; what was printed; and the events so far
pub record PlainState : Type 0 where
  pub program : Program
  pub actors : List PlainActor
  pub prints : List Value
  pub steps : ℕ

-- ---- actors and their rows

-- the row of an object that was made
abbrev pub plain_row : List PlainActor → ObjName → Option (List Value)
plain_row actors n = option_and_then (λ x. slice_get x.rows n.serial) (slice_get actors n.owner)

-- how many objects were made
abbrev pub objects_made : List PlainActor → ℕ
objects_made actors = sum_by (λ x. length x.rows) actors

-- the actors, one of which is changed
abbrev pub with_changed : List PlainActor → ℕ → (PlainActor → PlainActor) → List PlainActor
with_changed actors a change =
    option_map_or (λ x. slice_set actors a (change x)) (slice_get actors a) actors

-- an actor of a kind that was just made
abbrev pub fresh_actor : Program → ℕ → PlainActor
fresh_actor program kind = record {
  kind = kind;
  fields = record { values = replicate (field_count program kind) Null; pinned = false };
  frame = None;
  letters = [];
  rows = [];
}

-- ---- start

-- an actor of the first kind, with the letter `start`
abbrev pub first_actor : Program → PlainActor
first_actor program = record (fresh_actor program 0) {
  letters =
      option_map_or (λ name. record { behaviour = name; args = [] } ∷ []) (start_name program) [];
}

abbrev pub start_of : Program → PlainState
start_of program = record {
  program = program;
  actors = first_actor program ∷ [];
  prints = [];
  steps = 0;
}

-- ---- take: an actor without a frame takes its first letter

-- the frame that a letter starts, if the kind has its behaviour with as many parameters as it has
-- arguments
abbrev pub frame_of : Program → ℕ → PlainLetter → Option Frame
frame_of program kind letter = frame_for program kind letter.behaviour letter.args

-- the actor after it took the first of its letters; none where it has a frame or no letter
abbrev pub after_letter : Program → PlainActor → Option Frame → List PlainLetter → Option PlainActor
after_letter program x (Some frame) letters = None
after_letter program x None [] = None
after_letter program x None (letter ∷ letters) =
    Some (record x { frame = frame_of program x.kind letter; letters = letters })

abbrev pub actor_after_take : Program → PlainActor → Option PlainActor
actor_after_take program x = after_letter program x x.frame x.letters

abbrev pub next_state : PlainState → List PlainActor → List Value → PlainState
next_state s actors prints = record {
  program = s.program;
  actors = actors;
  prints = prints;
  steps = s.steps + 1;
}

abbrev pub plain_take : PlainState → ℕ → Step PlainState
plain_take s a =
    option_map_or (λ x. Goes (next_state s (slice_set s.actors a x) s.prints))
    (option_and_then (actor_after_take s.program) (slice_get s.actors a)) NotEnabled

-- ---- go: an actor's frame runs up to its next act

-- the actors after a turn of one of them, which leaves this frame, these fields and these new rows
abbrev pub with_turn : List PlainActor → ℕ → Option Frame → Fields → List (List Value)
    → List PlainActor
with_turn actors a frame fields made =
    with_changed actors a (λ x. record x { frame = frame; fields = fields; rows = x.rows ++ made })

-- one letter more for an actor that was made
abbrev pub with_letter : List PlainActor → ℕ → PlainLetter → List PlainActor
with_letter actors to letter =
    with_changed actors to (λ x. record x { letters = x.letters ++ letter ∷ [] })

-- a frame whose register holds an actor's name
abbrev pub with_name : Frame → ℕ → ℕ → Frame
with_name frame register a = record frame { registers = slice_set frame.registers register (Actor a) }

-- what a turn leads to that left this frame, these fields and new rows, and ended with this act
abbrev pub after_act : PlainState → ℕ → Frame → Fields → List (List Value) → Act → Step PlainState
after_act s a frame fields made End =
    Goes (next_state s (with_turn s.actors a None fields made) s.prints)
after_act s a frame fields made (Print v) =
    Goes (next_state s (with_turn s.actors a (Some frame) fields made) (s.prints ++ v ∷ []))
after_act s a frame fields made (Post to behaviour args) =
    Goes (next_state s
    (with_letter (with_turn s.actors a (Some frame) fields made) to
    (record { behaviour = behaviour; args = args })) s.prints)
after_act s a frame fields made (New kind register) =
    if nat_lt (length s.actors) ACTORS_LIMIT
    then Goes
    (next_state s
    (with_turn s.actors a (Some (with_name frame register (length s.actors))) fields made
    ++ fresh_actor s.program kind ∷ []) s.prints)
    else IsFull

-- what the actor's frame does up to its next act, over the rows of all objects ever made
abbrev pub turn_of_actor : PlainState → ℕ → PlainActor → Frame → Stop
turn_of_actor s a x frame =
    segment_of (record {
      program = s.program;
      me = a;
      base = length x.rows;
      rows = plain_row s.actors;
    }) frame x.fields

-- the frame stands behind the act
abbrev pub stopped_at : Frame → Stop → Frame
stopped_at frame stop = record frame { place = stop.place; registers = stop.turn.registers }

abbrev pub after_turn : PlainState → ℕ → Frame → Stop → Step PlainState
after_turn s a frame stop =
    after_act s a (stopped_at frame stop) stop.turn.fields stop.turn.made stop.act

abbrev pub plain_go : PlainState → ℕ → Step PlainState
plain_go s a =
    option_map_or
    (λ x. option_map_or
    (λ frame. after_turn s a frame (turn_of_actor s a x frame)) x.frame NotEnabled)
    (slice_get s.actors a) NotEnabled
