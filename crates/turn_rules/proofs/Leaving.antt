-- What a segment leaves names only what may be named: what its actor was given, what it reads from rows, and what it makes.
use Rattle.std.proofs.Common.{ℕ, zero, suc, ◌+◌, ◌<◌, ◌≤◌, cond, List, [], ◌∷◌, ◌++◌, length, drop, map, Contains, Option, None, Some, arith, length-append}
use Rattle.std.specs.Prelude.{slice_index_or, slice_set, ⊤}
use Rattle.std.specs.Option.{option_map_or}
use Rattle.orca_names.specs.declared.names.Thing.{Thing}
use Rattle.orca_names.specs.declared.names.Thing.TheVariants as things
use Rattle.orca_names.specs.declared.names.Value.{Value}
use Rattle.orca_names.specs.declared.names.Value.TheVariants.{Null, Num, Actor, Obj}
use Rattle.orca_names.specs.declared.row.Fields.{Fields}
use Rattle.behaviour_code.specs.declared.instr.Instr.{Instr}
use Rattle.behaviour_code.specs.declared.instr.Instr.TheVariants as I
use Rattle.behaviour_code.specs.Find.{body_of, is_label, kind_named}
use Rattle.reach_walk.specs.Reach.{named_by}
use Rattle.turn_rules.specs.declared.act.Act.TheVariants.{New}
use Rattle.turn_rules.specs.declared.act.Effect.{Effect}
use Rattle.turn_rules.specs.declared.act.Effect.TheVariants.{Next, Leap, Acts}
use Rattle.turn_rules.specs.declared.act.Frame.{Frame}
use Rattle.turn_rules.specs.Segment.{Setting, Turn, Stop, got_by, gets_from, gets_of, gets_on, value_at, value_at_place, leap_if_zero, post_to, step_of, on_effect, run_from, segment_of}
use Rattle.turn_rules.specs.Laws.{act_values}
use Rattle.turn_rules.proofs.Known.{KnowsValue, Knows, KnowsTurn, named_is_known, row_is_known, Knows-at, Knows-map, Knows-set, AllByRecursion-push, KnowsTurn-more, Knows-more}

-- what an effect gives away is known
abbrev pub KnowsEffect : (Thing → Type 0) → Effect → Type 0
KnowsEffect K Next = ⊤
KnowsEffect K (Leap label) = ⊤
KnowsEffect K (Acts act) = Knows K (act_values act)

pub KnowsEffect-leap : (K : Thing → Type 0) (n label : ℕ) → KnowsEffect K (leap_if_zero n label)
KnowsEffect-leap K zero label = tt
KnowsEffect-leap K (suc n) label = tt

pub KnowsEffect-post : (K : Thing → Type 0) (to : Value) (behaviour : ℕ) (args : List Value) → KnowsValue K to → Knows K args → KnowsEffect K (post_to to behaviour args)
KnowsEffect-post K Null behaviour args k h = tt
KnowsEffect-post K (Num n) behaviour args k h = tt
KnowsEffect-post K (Actor a) behaviour args k h = (k, h)
KnowsEffect-post K (Obj n) behaviour args k h = tt

pub KnowsEffect-new : (K : Thing → Type 0) (kind : Option ℕ) (d : ℕ) → KnowsEffect K (option_map_or (λ k. Acts (New k d)) kind Next)
KnowsEffect-new K None d = tt
KnowsEffect-new K (Some k) d = tt

-- K n is what may be named when n rows were made: a turn names only that
abbrev pub TurnKnows : (ℕ → Thing → Type 0) → Turn → Type 0
TurnKnows K t = KnowsTurn (K (length t.made)) t

-- what an instruction leads to names only that
pub record StepKnows (K : ℕ → Thing → Type 0) (r : Effect × Turn) : Type 0 where
  pub effect : KnowsEffect (K (length r.1.made)) r.0
  pub turn : TurnKnows K r.1

record StopKnows (K : ℕ → Thing → Type 0) (stop : Stop) : Type 0 where
  act : Knows (K (length stop.turn.made)) (act_values stop.act)
  turn : TurnKnows K stop.turn

-- so does where a segment stops
pub record LeavesOnly (K : ℕ → Thing → Type 0) (stop : Stop) : Type 0 where
  pub in_registers : (x : Thing) → Contains (named_by stop.turn.registers) x → K (length stop.turn.made) x
  pub in_fields : (x : Thing) → Contains (named_by stop.turn.fields.values) x → K (length stop.turn.made) x
  pub in_rows : (row : List Value) (x : Thing) → Contains stop.turn.made row → Contains (named_by row) x → K (length stop.turn.made) x
  pub in_act : (x : Thing) → Contains (named_by (act_values stop.act)) x → K (length stop.turn.made) x

module _ (p : Setting) (K : ℕ → Thing → Type 0) (more : (m n : ℕ) → m ≤ n → (x : Thing) → K m x → K n x)
    (itself : (n : ℕ) → K n (things.Actor p.me)) (own : (i n : ℕ) → i < n → K n (things.Obj (record { owner = p.me; serial = p.base + i }))) where
  -- a register is written
  put : (t : Turn) (d : ℕ) (v : Value) → TurnKnows K t → KnowsValue (K (length t.made)) v → StepKnows K (Next, record t { registers = slice_set t.registers d v })
  put t d v h k = record { effect = tt; turn = record { registers = Knows-set (K (length t.made)) t.registers d v h.registers k; fields = h.fields; made = h.made } }

  -- a row is made, and its object written
  put_row : (t : Turn) (d : ℕ) (row : List Value) → TurnKnows K t → Knows (K (length t.made)) row
      → TurnKnows K (record { registers = slice_set t.registers d (Obj (record { owner = p.me; serial = p.base + length t.made })); fields = t.fields; made = t.made ++ row ∷ [] })
  put_row t d row h k =
      let M = K (length t.made) in
      let longer : length t.made < length (t.made ++ row ∷ []) = omega (arith, length-append t.made (row ∷ [])) in
      let L = K (length (t.made ++ row ∷ [])) in
      let up = more (length t.made) (length (t.made ++ row ∷ [])) (omega arith) in
      let old : KnowsTurn L t = KnowsTurn-more M L up t h in
      record {
        registers = Knows-set L t.registers d (Obj (record { owner = p.me; serial = p.base + length t.made })) old.registers (own (length t.made) (length (t.made ++ row ∷ [])) longer);
        fields = old.fields;
        made = AllByRecursion-push L t.made row old.made (Knows-more M L up row k);
      }

  -- one instruction, where what it reads from a row may be named
  pub steps : (i : Instr) (t : Turn) → TurnKnows K t → Knows (K (length t.made)) (got_by p i t) → StepKnows K (step_of p i t)
  steps (I.Drop d) t h g = put t d Null h tt
  steps (I.Int d n) t h g = put t d (Num n) h tt
  steps (I.Own d) t h g = put t d (Actor p.me) h (itself (length t.made))
  steps (I.Copy d s) t h g = put t d (value_at t s) h (Knows-at (K (length t.made)) t.registers s h.registers)
  steps (I.Add d a b) t h g = put t d _ h tt
  steps (I.Sub d a b) t h g = put t d _ h tt
  steps (I.Mul d a b) t h g = put t d _ h tt
  steps (I.Less d a b) t h g = put t d _ h tt
  steps (I.Same d a b) t h g = put t d _ h tt
  steps (I.Row d values) t h g = record { effect = tt; turn = put_row t d (map (value_at t) values) h (Knows-map (K (length t.made)) t h.registers values) }
  steps (I.Get d s i) t h g = put t d (value_at_place p t (value_at t s) i) h g.0
  steps (I.Load d f) t h g = put t d (slice_index_or t.fields.values f Null) h (Knows-at (K (length t.made)) t.fields.values f h.fields)
  steps (I.Store f s) t h g =
      let M = K (length t.made) in
      record { effect = tt; turn = record { registers = h.registers; fields = Knows-set M t.fields.values f (value_at t s) h.fields (Knows-at M t.registers s h.registers); made = h.made } }
  steps (I.Jump l) t h g = record { effect = tt; turn = h }
  steps (I.JumpZero a l) t h g = record { effect = KnowsEffect-leap (K (length t.made)) _ l; turn = h }
  steps (I.Label l) t h g = record { effect = tt; turn = h }
  steps I.Pin t h g = record { effect = tt; turn = record { registers = h.registers; fields = h.fields; made = h.made } }
  steps I.Unpin t h g = record { effect = tt; turn = record { registers = h.registers; fields = h.fields; made = h.made } }
  steps (I.New d kind) t h g = record { effect = KnowsEffect-new (K (length t.made)) (kind_named p.program kind) d; turn = h }
  steps (I.Send to behaviour values) t h g =
      let M = K (length t.made) in
      record { effect = KnowsEffect-post M (value_at t to) behaviour (map (value_at t) values) (Knows-at M t.registers to h.registers) (Knows-map M t h.registers values); turn = h }
  steps (I.Print a) t h g = record { effect = (Knows-at (K (length t.made)) t.registers a h.registers, tt); turn = h }

-- what is read from rows is allowed, and what is allowed may be named
module _ (p : Setting) (K : ℕ → Thing → Type 0) (more : (m n : ℕ) → m ≤ n → (x : Thing) → K m x → K n x)
    (itself : (n : ℕ) → K n (things.Actor p.me)) (own : (i n : ℕ) → i < n → K n (things.Obj (record { owner = p.me; serial = p.base + i })))
    (Allowed : List Value → Type 0) (first : (vs ws : List Value) → Allowed (vs ++ ws) → Allowed vs) (later : (vs ws : List Value) → Allowed (vs ++ ws) → Allowed ws)
    (known : (i : Instr) (t : Turn) → TurnKnows K t → Allowed (got_by p i t) → Knows (K (length t.made)) (got_by p i t)) where
  on_stops : (go_on : Option ℕ → ℕ → Turn → Stop) (gets : Option ℕ → ℕ → Turn → List Value) (place : ℕ)
      → ((sought : Option ℕ) (n : ℕ) (t : Turn) → TurnKnows K t → Allowed (gets sought n t) → StopKnows K (go_on sought n t))
      → (r : Effect × Turn) → StepKnows K r → Allowed (gets_on gets place r) → StopKnows K (on_effect go_on place r)
  on_stops go_on gets place h (Next, t) k g = h None (place + 1) t k.turn g
  on_stops go_on gets place h (Leap label, t) k g = h (Some label) (place + 1) t k.turn g
  on_stops go_on gets place h (Acts act, t) k g = record { act = k.effect; turn = k.turn }

  stops : (xs : List Instr) (sought : Option ℕ) (place : ℕ) (t : Turn) → TurnKnows K t → Allowed (gets_from p xs sought place t) → StopKnows K (run_from p xs sought place t)
  stops [] sought place t h g = record { act = tt; turn = h }
  stops (i ∷ rest) None place t h g =
      let got = got_by p i t in
      let others = gets_on (gets_from p rest) place (step_of p i t) in
      on_stops (run_from p rest) (gets_from p rest) place (stops rest) (step_of p i t)
      (steps p K more itself own i t h (known i t h (first got others g))) (later got others g)
  stops (i ∷ rest) (Some label) place t h g = stops rest (cond (is_label label i) None (Some label)) (place + 1) t h g

  pub leaves_by : (frame : Frame) (fields : Fields) → Knows (K 0) frame.registers → Knows (K 0) fields.values
      → Allowed (gets_of p frame fields) → LeavesOnly K (segment_of p frame fields)
  leaves_by frame fields in_frame in_fields allowed =
      let stop = segment_of p frame fields in
      let M = K (length stop.turn.made) in
      let all = stops (drop frame.place (body_of p.program frame.kind frame.behaviour)) None frame.place (record { registers = frame.registers; fields = fields; made = [] })
      (record { registers = in_frame; fields = in_fields; made = tt }) allowed in
      record {
        in_registers = named_is_known M stop.turn.registers all.turn.registers;
        in_fields = named_is_known M stop.turn.fields.values all.turn.fields;
        in_rows = λ row x c d. named_is_known M row (row_is_known M stop.turn.made all.turn.made row c) x d;
        in_act = named_is_known M (act_values stop.act) all.act;
      }
