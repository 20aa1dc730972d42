-- Two laws of a segment: which rows it depends on, and whose names it leaves.
use Rattle.std.specs.Prelude.{ℕ, ◌≡◌, ◌+◌, ◌<◌, List, [], ◌∷◌, ◌++◌, Contains, Option, length}
use Rattle.orca_names.specs.declared.names.ObjName.{ObjName}
use Rattle.orca_names.specs.declared.names.Thing.{Thing}
use Rattle.orca_names.specs.declared.names.Thing.TheVariants as things
use Rattle.orca_names.specs.declared.names.Value.{Value}
use Rattle.orca_names.specs.declared.names.Value.TheVariants.{Actor}
use Rattle.orca_names.specs.declared.row.Fields.{Fields}
use Rattle.reach_walk.specs.Reach.{named_by, row_edges, Reaches}
use Rattle.turn_rules.specs.declared.act.Act.{Act}
use Rattle.turn_rules.specs.declared.act.Act.TheVariants.{Post, New, Print, End}
use Rattle.turn_rules.specs.declared.act.Frame.{Frame}
use Rattle.turn_rules.specs.Segment.{Setting, Stop, segment_of}

-- a path through rows leads to the thing from a register or a field
abbrev pub IsReached : (ObjName → Option (List Value)) → Frame → Fields → Thing → Type 0
IsReached rows frame fields x =
    Reaches (row_edges rows) (named_by (frame.registers ++ fields.values)) x

-- ---- local

-- two maps of rows agree at each object that is reached in the first
abbrev pub AgreeOnReached : (ObjName → Option (List Value)) → (ObjName → Option (List Value))
    → Frame → Fields → Type 0
AgreeOnReached rows others frame fields =
    (n : ObjName) → IsReached rows frame fields (things.Obj n) → rows n ≡ others n

-- the segment of a frame is the same over two maps of rows that agree so
abbrev pub SegmentIsLocal : Type 0
SegmentIsLocal =
    (p : Setting) (others : ObjName → Option (List Value)) (frame : Frame) (fields : Fields)
    → AgreeOnReached p.rows others frame fields
    → segment_of p frame fields ≡ segment_of (record p { rows = others }) frame fields

-- ---- names

-- what an actor knows that made so many rows in its turn: what was reached before, itself, and the
-- objects of these rows
pub data IsReachedOrMade (p : Setting) (frame : Frame) (fields : Fields) (made : ℕ) (x : Thing)
    : Type 0 where
  reached : IsReached p.rows frame fields x → IsReachedOrMade p frame fields made x
  itself : x ≡ things.Actor p.me → IsReachedOrMade p frame fields made x
  own : (i : ℕ) → i < made → x ≡ things.Obj (record { owner = p.me; serial = p.base + i })
      → IsReachedOrMade p frame fields made x

-- the values that an act posts or prints, with the actor to which it posts
abbrev pub act_values : Act → List Value
act_values (Post to behaviour args) = Actor to ∷ args
act_values (New kind into) = []
act_values (Print value) = value ∷ []
act_values End = []

-- what a turn leaves where it stops names only what the actor knows
pub record NamesOnlyKnown (p : Setting) (frame : Frame) (fields : Fields) (stop : Stop) : Type 0 where
  pub in_registers : (x : Thing) → Contains (named_by stop.turn.registers) x
      → IsReachedOrMade p frame fields (length stop.turn.made) x
  pub in_fields : (x : Thing) → Contains (named_by stop.turn.fields.values) x
      → IsReachedOrMade p frame fields (length stop.turn.made) x
  pub in_rows : (row : List Value) (x : Thing) → Contains stop.turn.made row
      → Contains (named_by row) x → IsReachedOrMade p frame fields (length stop.turn.made) x
  pub in_act : (x : Thing) → Contains (named_by (act_values stop.act)) x
      → IsReachedOrMade p frame fields (length stop.turn.made) x

-- so does each segment
abbrev pub SegmentNamesOnlyKnown : Type 0
SegmentNamesOnlyKnown =
    (p : Setting) (frame : Frame) (fields : Fields)
    → NamesOnlyKnown p frame fields (segment_of p frame fields)
