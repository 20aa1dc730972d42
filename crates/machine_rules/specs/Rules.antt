-- The rules of the machine that collects, one by one: which events lead from a state to which state.
use Rattle.std.specs.Prelude.{ℕ, suc, ◌≡◌, ◌<◌, true, List, [], ◌∷◌, ◌++◌, length, set, Some, None}
use Rattle.orca_names.specs.Names.{owner_of}
use Rattle.orca_names.specs.declared.names.Thing.{Thing}
use Rattle.orca_names.specs.declared.names.Value.{Value}
use Rattle.turn_rules.specs.declared.act.Act.{Act}
use Rattle.turn_rules.specs.declared.act.Act.TheVariants as act
use Rattle.turn_rules.specs.Segment.{Stop}
use Rattle.turn_rules.specs.declared.act.Frame.{Frame}
use Rattle.event_rule.specs.declared.event.Event.{Event}
use Rattle.event_rule.specs.declared.event.Event.TheVariants.{Take, Go, Collect, Leave, Block, Hear, Scan, Reap}
use Rattle.letter_kinds.specs.Letters.{Letter}
use Rattle.letter_kinds.specs.declared.note.Note.{Note}
use Rattle.letter_kinds.specs.declared.note.Note.TheVariants as notes
use Rattle.letter_kinds.specs.Counting.{Loaded, to_mint}
use Rattle.letter_kinds.specs.Detector.{Token, close_token, closed_set, hear_note, after_scan}
use Rattle.plain_rules.specs.Machine.{stopped_at, with_name}
use Rattle.machine_rules.specs.Actors.{Actors, seat, seat_at}
use Rattle.machine_rules.specs.Block.{held_actors}
use Rattle.machine_rules.specs.Cell.{Cell, fresh_cell}
use Rattle.machine_rules.specs.Collect.{after_collect, is_marked, without_unused}
use Rattle.machine_rules.specs.Detect.{acked_token, ask_all, reap_members}
use Rattle.machine_rules.specs.Go.{lacking_from, load_from, make, mint, needed, post, rows_from, to_need, turn_of_cell, cell_after_turn, with_turn_kept}
use Rattle.machine_rules.specs.Guards.{may_block, may_collect, may_leave}
use Rattle.orca_names.specs.declared.trace.Trace.{Trace}
use Rattle.machine_rules.specs.State.{State}
use Rattle.machine_rules.specs.Take.{cell_after, note_of, notes_after}
use Rattle.orca_names.specs.declared.limits.TheConstants.{ACTORS_LIMIT}

-- ---- a turn

-- what the actor's frame does up to its next act
abbrev pub stop_of : Trace → State → ℕ → Cell → Frame → Stop
stop_of trace s a c frame = turn_of_cell trace s.program a c frame

-- the frame stands behind the act
abbrev pub later_frame : Trace → State → ℕ → Cell → Frame → Frame
later_frame trace s a c frame = stopped_at frame (stop_of trace s a c frame)

-- the actor after the turn, where it stands in this frame
abbrev pub cell_kept_in : Trace → State → ℕ → Cell → Frame → Frame → Cell
cell_kept_in trace s a c frame later =
    cell_after_turn (stop_of trace s a c frame) (Some later) c.dirty c

abbrev pub cell_kept : Trace → State → ℕ → Cell → Frame → Cell
cell_kept trace s a c frame = cell_kept_in trace s a c frame (later_frame trace s a c frame)

-- the state after the turn, with these actors
abbrev pub state_kept : Trace → State → ℕ → Cell → Frame → Actors → State
state_kept trace s a c frame actors = with_turn_kept s (stop_of trace s a c frame) actors

-- ---- when a rule applies

-- the actor is present, and goes on in its frame
pub record IsGoing (s : State) (a : ℕ) (c : Cell) (mail : List Letter) (frame : Frame) : Type 0 where
  pub present : seat_at s.actors a ≡ seat c mail
  pub framed : c.frame ≡ Some frame

-- what its turn gets is held, and it stops at this act
pub record StopsAt (trace : Trace) (s : State) (a : ℕ) (c : Cell) (mail : List Letter)
    (frame : Frame) (stops : Act) : Type 0 where
  pub going : IsGoing s a c mail frame
  pub held : needed trace s.program a c frame ≡ None
  pub stop : (stop_of trace s a c frame).act ≡ stops

-- ---- the rules

pub data IsStep (trace : Trace) (s : State) : Event → State → Type 0 where
  -- an idle actor takes the first of its letters
  takes : (a : ℕ) (c : Cell) (letter : Letter) (mail : List Letter)
      → seat_at s.actors a ≡ seat c (letter ∷ mail) → c.frame ≡ None
      → IsStep trace s (Take a) (record s {
        actors = set s.actors a (seat (cell_after s.program a letter c) mail);
        notes = notes_after c.reported (note_of a letter) s.notes;
      })
  -- a behaviour ends
  ends : (a : ℕ) (c : Cell) (mail : List Letter) (frame : Frame)
      → StopsAt trace s a c mail frame act.End
      → IsStep trace s (Go a) (state_kept trace s a c frame
      (set s.actors a (seat (cell_after_turn (stop_of trace s a c frame) None true c) mail)))
  -- it prints
  prints : (a : ℕ) (c : Cell) (mail : List Letter) (frame : Frame) (value : Value)
      → StopsAt trace s a c mail frame (act.Print value)
      → IsStep trace s (Go a) (record (state_kept trace s a c frame
      (set s.actors a (seat (cell_kept trace s a c frame) mail))) {
        prints =
            s.prints ++ value ∷ [];
      })
  -- it makes an actor, where there is room
  makes : (a : ℕ) (c : Cell) (mail : List Letter) (frame : Frame) (kind register : ℕ)
      → StopsAt trace s a c mail frame (act.New kind register) → length s.actors < ACTORS_LIMIT
      → IsStep trace s (Go a) (state_kept trace s a c frame
      (make s.options.weight a
      (cell_kept_in trace s a c frame
      (with_name (later_frame trace s a c frame) register (length s.actors)))
      mail (fresh_cell s.options.weight s.program kind) s.actors))
  -- it posts a letter, and lacks nothing of its load
  posts : (a : ℕ) (c : Cell) (mail : List Letter) (frame : Frame) (to behaviour : ℕ)
      (args : List Value)
      → StopsAt trace s a c mail frame (act.Post to behaviour args)
      → lacking_from trace a (cell_kept trace s a c frame).holdings args ≡ []
      → IsStep trace s (Go a) (state_kept trace s a c frame
      (post a (cell_kept trace s a c frame) mail to behaviour args
      (load_from trace a (cell_kept trace s a c frame).holdings args)
      (rows_from trace a (cell_kept trace s a c frame) args) s.actors))
  -- it mints for what it lacks of a load; nothing of the turn is kept
  mints : (a : ℕ) (c : Cell) (mail : List Letter) (frame : Frame) (to behaviour : ℕ)
      (args : List Value)
      (e : Loaded) (lacked : List Loaded)
      → StopsAt trace s a c mail frame (act.Post to behaviour args)
      → lacking_from trace a (cell_kept trace s a c frame).holdings args ≡ e ∷ lacked
      → IsStep trace s (Go a) (record s {
        actors =
            mint a c mail (owner_of e.0)
            (to_mint s.options.weight (owner_of e.0) (e ∷ lacked)) s.actors;
      })
  -- it mints for what its turn gets; nothing of the turn is kept
  gets : (a : ℕ) (c : Cell) (mail : List Letter) (frame : Frame) (x : Thing)
      → IsGoing s a c mail frame → needed trace s.program a c frame ≡ Some x
      → IsStep trace s (Go a) (record s {
        actors = mint a c mail (owner_of x) (to_need s.options.weight a c.holdings x) s.actors;
      })
  -- an idle actor that did something frees what is not marked
  collects : (a : ℕ) (c : Cell) (mail : List Letter)
      → seat_at s.actors a ≡ seat c mail → may_collect c mail ≡ true
      → IsStep trace s (Collect a) (record s {
        actors = after_collect (is_marked trace a c) a (without_unused trace a c) mail s.actors;
      })
  -- an actor that nobody holds goes
  leaves : (a : ℕ) (c : Cell) (mail : List Letter)
      → seat_at s.actors a ≡ seat c mail → may_leave c mail ≡ true
      → IsStep trace s (Leave a) (record s { actors = reap_members (a ∷ []) s.actors })
  -- an actor with nothing to do reports
  blocks : (a : ℕ) (c : Cell) (mail : List Letter)
      → seat_at s.actors a ≡ seat c mail → may_block c mail ≡ true
      → IsStep trace s (Block a) (record s {
        actors = set s.actors a (seat (record c { reported = true }) mail);
        notes = s.notes ++ notes.Block a c.holdings.count (held_actors c.holdings) ∷ [];
      })
  -- the detector takes the first of its notes
  hears : (note : Note) (later : List Note) → s.notes ≡ note ∷ later
      → IsStep trace s Hear (record s { detector = hear_note note s.detector; notes = later })
  -- where there is news, the largest closed set becomes a token, and its members are asked
  scans : s.detector.news ≡ true
      → IsStep trace s Scan (record s {
        actors = ask_all (closed_set s.detector) (suc s.detector.opened) s.actors;
        detector = after_scan s.detector (closed_set s.detector);
      })
  -- the members of a token that all acknowledged go
  reaps : (number : ℕ) (token : Token) → acked_token number s.detector ≡ Some token
      → IsStep trace s (Reap number) (record s {
        actors = reap_members token.members s.actors;
        detector = close_token token s.detector;
      })
