-- What a turn of an actor names, and that it depends on no rows but those that it reaches.
use Rattle.std.proofs.Common.{◌≡◌, ℕ, ◌<◌, ◌⊎◌, inl, inr, List, [], ◌∷◌, ◌++◌, length, get_or, Contains, Option, refl, sym, subst}
use Rattle.std.proofs.lemmas.List.{get_or_default}
use Rattle.std.proofs.lemmas.List.Elements.{Contains-append_cases, filter_map-append}
use Rattle.orca_names.specs.declared.names.ObjName.{ObjName}
use Rattle.orca_names.specs.declared.names.Thing.{Thing}
use Rattle.orca_names.specs.declared.names.Thing.TheVariants as things
use Rattle.orca_names.specs.declared.names.Value.{Value}
use Rattle.orca_names.specs.declared.names.Value.TheVariants.{Actor}
use Rattle.orca_names.specs.declared.row.Fields.{Fields}
use Rattle.behaviour_code.specs.declared.code.Program.{Program}
use Rattle.reach_walk.proofs.Elements.{Contains-head, Contains-later}
use Rattle.reach_walk.specs.Reach.{named_by, thing_of, thing_row, row_edges, root, step, owned, ReachesFrom}
use Rattle.turn_rules.proofs.Local.{segment_of-same}
use Rattle.turn_rules.proofs.Names.{segment_known}
use Rattle.turn_rules.specs.Laws as laws
use Rattle.turn_rules.specs.Segment.{Setting, Stop, segment_of}
use Rattle.turn_rules.specs.declared.act.Frame.{Frame}
use Rattle.letter_kinds.specs.Holdings.{Row, row_of}
use Rattle.count_laws.proofs.knowledge.Segments.{MadeIn}
use Rattle.machine_rules.specs.Cell.{Cell}
use Rattle.machine_rules.specs.Go.{turn_of_cell}
use Rattle.orca_names.specs.declared.trace.Trace.TheVariants.{Deep}
use Rattle.count_laws.specs.Known.{Names, ReachesThrough, row_at, row_values}

-- ---- paths through rows of objects are paths through rows of things

module _ (rows : ObjName → Option Row) where
  row_values-edges : (x : Thing) → row_values (thing_row rows) x ≡ row_edges rows x
  unfolding row_values
  row_values-edges x = refl

  pub along_edges : {roots roots' : Thing → Type 0} → ((x : Thing) → roots x → roots' x) → {x : Thing} → ReachesThrough (thing_row rows) roots x → ReachesFrom (row_edges rows) roots' x
  along_edges at (root h) = root (at _ h)
  along_edges at (step {t = t} {x = x} h n) = step (along_edges at h) (subst (λ vs. Contains (named_by vs) x) (row_values-edges t) n)
  along_edges at (owned h) = owned (along_edges at h)

  pub along_rows : {roots roots' : Thing → Type 0} → ((x : Thing) → roots x → roots' x) → {x : Thing} → ReachesFrom (row_edges rows) roots x → ReachesThrough (thing_row rows) roots' x
  along_rows at (root h) = root (at _ h)
  along_rows at (step {t = t} {x = x} h n) = step (along_rows at h) (subst (λ vs. Contains (named_by vs) x) (sym (row_values-edges t)) n)
  along_rows at (owned h) = owned (along_rows at h)

-- ---- what a turn is given

-- its registers or its fields name it
abbrev pub Given : Frame → Fields → Thing → Type 0
Given frame fields x = Names frame.registers x ⊎ Names fields.values x

pub named_given : (frame : Frame) (fields : Fields) (x : Thing) → Names (frame.registers ++ fields.values) x → Given frame fields x
named_given frame fields x n = Contains-append_cases (named_by frame.registers) (named_by fields.values) x
    (subst (λ ts. Contains ts x) (filter_map-append thing_of frame.registers fields.values) n)

-- what a turn may name: what it reaches from what it is given, the actor itself, and so many objects
-- that it made
abbrev pub From : (Thing → Option Row) → ℕ → ℕ → Frame → Fields → ℕ → Thing → Type 0
From rows me base frame fields made x = ReachesThrough rows (Given frame fields) x ⊎ ((x ≡ things.Actor me) ⊎ MadeIn me base made x)

-- so is all that is named where it stops
pub record NamesOnlyFrom (rows : Thing → Option Row) (me base : ℕ) (frame : Frame) (fields : Fields) (stop : Stop) : Type 0 where
  pub in_fields : (x : Thing) → Names stop.turn.fields.values x → From rows me base frame fields (length stop.turn.made) x
  pub in_registers : (x : Thing) → Names stop.turn.registers x → From rows me base frame fields (length stop.turn.made) x
  pub in_made : (i : ℕ) (x : Thing) → i < length stop.turn.made → Names (get_or stop.turn.made i []) x → From rows me base frame fields (length stop.turn.made) x
  pub in_act : (x : Thing) → Names (laws.act_values stop.act) x → From rows me base frame fields (length stop.turn.made) x

-- ---- of a segment

module _ (p : Setting) (frame : Frame) (fields : Fields) where
  from_known : (made : ℕ) (x : Thing) → laws.IsReachedOrMade p frame fields made x → From (thing_row p.rows) p.me p.base frame fields made x
  from_known made x (laws.reached r) = inl (along_rows p.rows (named_given frame fields) r)
  from_known made x (laws.itself e) = inr (inl e)
  from_known made x (laws.own i l e) = inr (inr (i, l, e))

  pub segment_names : NamesOnlyFrom (thing_row p.rows) p.me p.base frame fields (segment_of p frame fields)
  segment_names =
      let stop = segment_of p frame fields in
      let known = segment_known p frame fields in
      let made = length stop.turn.made in
      record {
        in_fields = λ x n. from_known made x (known.in_fields x n);
        in_registers = λ x n. from_known made x (known.in_registers x n);
        in_made = λ i x l n. from_known made x (known.in_rows (get_or stop.turn.made i []) x (i, l, get_or_default stop.turn.made i (get_or stop.turn.made i []) [] l) n);
        in_act = λ x n. from_known made x (known.in_act x n);
      }

  -- two maps of rows that agree on what is reached give the same segment
  pub segment_local : (others : ObjName → Option Row) → ((x : Thing) → ReachesThrough (thing_row p.rows) (Given frame fields) x → thing_row p.rows x ≡ thing_row others x)
      → segment_of p frame fields ≡ segment_of (record p { rows = others }) frame fields
  segment_local others agree = segment_of-same p others frame fields (λ n r. agree (things.Obj n) (along_rows p.rows (named_given frame fields) r))

-- ---- of an actor's turn

module _ (program : Program) (a : ℕ) (c : Cell) (frame : Frame) where
  -- the actor's turn over these rows instead of its own
  abbrev pub turn_over : (ObjName → Option Row) → Stop
  turn_over rows = segment_of (record { program = program; me = a; base = c.holdings.next; rows = rows }) frame c.fields

  pub turn_names : NamesOnlyFrom (row_at a c.holdings) a c.holdings.next frame c.fields (turn_of_cell Deep program a c frame)
  turn_names = segment_names (record { program = program; me = a; base = c.holdings.next; rows = row_of a c.holdings }) frame c.fields

  pub turn_local : (rows : ObjName → Option Row) → ((x : Thing) → ReachesThrough (thing_row rows) (Given frame c.fields) x → row_at a c.holdings x ≡ thing_row rows x)
      → turn_of_cell Deep program a c frame ≡ turn_over rows
  turn_local rows agree = sym (segment_local (record { program = program; me = a; base = c.holdings.next; rows = rows }) frame c.fields (row_of a c.holdings) (λ x r. sym (agree x r)))

-- ---- the values of an act

-- a letter names its actor
pub names_target : (to : ℕ) (args : List Value) → Names (Actor to ∷ args) (things.Actor to)
names_target to args = Contains-head (things.Actor to) (named_by args)

-- and what its arguments name
pub names_args : (to : ℕ) (args : List Value) (x : Thing) → Names args x → Names (Actor to ∷ args) x
names_args to args x n = Contains-later (things.Actor to) (named_by args) x n
