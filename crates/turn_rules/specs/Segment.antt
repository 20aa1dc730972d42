-- A segment: what a behaviour does up to its next act, by one equation an instruction.
--
-- The definition is total. A register, a field or a place of a row that is not there reads as null
-- and takes no write; an unknown kind makes nothing; a place past the body ends the behaviour.
use Rattle.std.specs.Prelude.{ℕ, zero, suc, ◌+◌, ◌-◌, ◌*◌, ◌%◌, ◌^◌, Bool, true, false, ◌&&◌, ◌==◌, nat_le, nat_lt, if◌then◌else◌, List, [], ◌∷◌, ◌++◌, length, drop, map, slice_get, slice_index_or, slice_set, Option, Some, None}
use Rattle.std.specs.Option.{option_map_or}
use Rattle.orca_names.specs.declared.names.ObjName.{ObjName}
use Rattle.orca_names.specs.declared.names.Value.{Value}
use Rattle.orca_names.specs.declared.names.Value.TheVariants.{Null, Num, Actor, Obj}
use Rattle.orca_names.specs.declared.row.Fields.{Fields}
use Rattle.behaviour_code.specs.declared.code.Program.{Program}
use Rattle.behaviour_code.specs.declared.instr.Instr.{Instr}
use Rattle.behaviour_code.specs.declared.instr.Instr.TheVariants as I
use Rattle.behaviour_code.specs.Find.{body_of, is_label, kind_named}
use Rattle.turn_rules.specs.declared.act.Act.{Act}
use Rattle.turn_rules.specs.declared.act.Act.TheVariants.{Post, New, Print, End}
use Rattle.turn_rules.specs.declared.act.Effect.{Effect}
use Rattle.turn_rules.specs.declared.act.Effect.TheVariants.{Next, Leap, Acts}
use Rattle.turn_rules.specs.declared.act.Frame.{Frame}

-- what a turn only reads: the program, the actor whose turn it is, the serial that its next row
-- gets, and the rows of before
pub record Setting : Type 0 where
  pub program : Program
  pub me : ℕ
  pub base : ℕ
  pub rows : ObjName → Option (List Value)

-- what a turn changes: the registers, the fields with pinned, and the rows made so far
pub record Turn : Type 0 where
  pub registers : List Value
  pub fields : Fields
  pub made : List (List Value)

-- ---- reading and writing

abbrev pub value_at : Turn → ℕ → Value
value_at t r = slice_index_or t.registers r Null

abbrev pub with_register : Turn → ℕ → Value → Turn
with_register t r v = record t { registers = slice_set t.registers r v }

abbrev pub with_field : Turn → ℕ → Value → Turn
with_field t f v = record t {
  fields = record { values = slice_set t.fields.values f v; pinned = t.fields.pinned };
}

abbrev pub with_pinned : Turn → Bool → Turn
with_pinned t pinned = record t { fields = record { values = t.fields.values; pinned = pinned } }

-- a value that is no number counts as 0
abbrev pub number_of : Value → ℕ
number_of (Num n) = n
number_of _ = 0

abbrev pub number_at : Turn → ℕ → ℕ
number_at t r = number_of (value_at t r)

-- 1 where it holds, else 0
abbrev pub one_if : Bool → ℕ
one_if holds = if holds then 1 else 0

-- whether two values are equal
abbrev pub value_eq : Value → Value → Bool
value_eq Null Null = true
value_eq (Num m) (Num n) = m == n
value_eq (Actor a) (Actor b) = a == b
value_eq (Obj m) (Obj n) = (m.owner == n.owner) && (m.serial == n.serial)
value_eq _ _ = false

-- ---- rows

-- the row of an object: made in this turn, or one of before
abbrev pub row_in : Setting → List (List Value) → ObjName → Option (List Value)
row_in p made n =
    if (n.owner == p.me) && nat_le p.base n.serial then slice_get made (n.serial - p.base)
    else p.rows n

-- the value at a place of an object's row
abbrev pub value_at_place : Setting → Turn → Value → ℕ → Value
value_at_place p t (Obj n) i =
    option_map_or (λ row. slice_index_or row i Null) (row_in p t.made n) Null
value_at_place p t _ i = Null

-- one row more, of the values of so many registers; its object is put into a register
abbrev pub with_row : Setting → Turn → ℕ → List ℕ → Turn
with_row p t d values = record {
  registers =
      slice_set t.registers d (Obj (record { owner = p.me; serial = p.base + length t.made }));
  fields = t.fields;
  made = t.made ++ map (value_at t) values ∷ [];
}

-- ---- one instruction

abbrev pub leap_if_zero : ℕ → ℕ → Effect
leap_if_zero zero label = Leap label
leap_if_zero (suc n) label = Next

abbrev pub post_to : Value → ℕ → List Value → Effect
post_to (Actor a) behaviour args = Acts (Post a behaviour args)
post_to _ behaviour args = Next

abbrev pub step_of : Setting → Instr → Turn → Effect × Turn
step_of p (I.Drop d) t = (Next, with_register t d Null)
step_of p (I.Int d n) t = (Next, with_register t d (Num n))
step_of p (I.Own d) t = (Next, with_register t d (Actor p.me))
step_of p (I.Copy d s) t = (Next, with_register t d (value_at t s))
step_of p (I.Add d a b) t = (Next, with_register t d (Num ((number_at t a + number_at t b) % 2 ^ 64)))
step_of p (I.Sub d a b) t =
    (Next, with_register t d (Num ((number_at t a + 2 ^ 64 - number_at t b) % 2 ^ 64)))
step_of p (I.Mul d a b) t = (Next, with_register t d (Num ((number_at t a * number_at t b) % 2 ^ 64)))
step_of p (I.Less d a b) t =
    (Next, with_register t d (Num (one_if (nat_lt (number_at t a) (number_at t b)))))
step_of p (I.Same d a b) t =
    (Next, with_register t d (Num (one_if (value_eq (value_at t a) (value_at t b)))))
step_of p (I.Row d values) t = (Next, with_row p t d values)
step_of p (I.Get d s i) t = (Next, with_register t d (value_at_place p t (value_at t s) i))
step_of p (I.Load d f) t = (Next, with_register t d (slice_index_or t.fields.values f Null))
step_of p (I.Store f s) t = (Next, with_field t f (value_at t s))
step_of p (I.Jump l) t = (Leap l, t)
step_of p (I.JumpZero a l) t = (leap_if_zero (number_at t a) l, t)
step_of p (I.Label l) t = (Next, t)
step_of p I.Pin t = (Next, with_pinned t true)
step_of p I.Unpin t = (Next, with_pinned t false)
step_of p (I.New d kind) t = (option_map_or (λ k. Acts (New k d)) (kind_named p.program kind) Next, t)
step_of p (I.Send to behaviour values) t =
    (post_to (value_at t to) behaviour (map (value_at t) values), t)
step_of p (I.Print a) t = (Acts (Print (value_at t a)), t)

-- ---- up to the next act

-- where a turn stops: its act, the place after it, and what it changed
pub record Stop : Type 0 where
  pub act : Act
  pub place : ℕ
  pub turn : Turn

-- goes on with the next instruction or to a label, or stops behind the act
abbrev pub on_effect : (Option ℕ → ℕ → Turn → Stop) → ℕ → Effect × Turn → Stop
on_effect go_on place (Next, t) = go_on None (place + 1) t
on_effect go_on place (Leap label, t) = go_on (Some label) (place + 1) t
on_effect go_on place (Acts act, t) = record { act = act; place = place + 1; turn = t }

-- runs the instructions that are left of a body, the first of which stands at the place; while a
-- label is sought the others are passed
abbrev pub run_from : Setting → List Instr → Option ℕ → ℕ → Turn → Stop
run_from p [] sought place t = record { act = End; place = place; turn = t }
run_from p (i ∷ rest) None place t = on_effect (run_from p rest) place (step_of p i t)
run_from p (i ∷ rest) (Some label) place t =
    run_from p rest (if is_label label i then None else Some label) (place + 1) t

-- the segment of a frame: from its place up to and with the next act
abbrev pub segment_of : Setting → Frame → Fields → Stop
segment_of p frame fields =
    run_from p (drop frame.place (body_of p.program frame.kind frame.behaviour)) None frame.place
    (record {
      registers = frame.registers;
      fields = fields;
      made = [];
    })

-- ---- what a segment gets from rows

-- what the instruction reads from a row
abbrev pub got_by : Setting → Instr → Turn → List Value
got_by p (I.Get d s i) t = value_at_place p t (value_at t s) i ∷ []
got_by p _ t = []

abbrev pub gets_on : (Option ℕ → ℕ → Turn → List Value) → ℕ → Effect × Turn → List Value
gets_on go_on place (Next, t) = go_on None (place + 1) t
gets_on go_on place (Leap label, t) = go_on (Some label) (place + 1) t
gets_on go_on place (Acts act, t) = []

abbrev pub gets_from : Setting → List Instr → Option ℕ → ℕ → Turn → List Value
gets_from p [] sought place t = []
gets_from p (i ∷ rest) None place t = got_by p i t ++ gets_on (gets_from p rest) place (step_of p i t)
gets_from p (i ∷ rest) (Some label) place t =
    gets_from p rest (if is_label label i then None else Some label) (place + 1) t

-- the values that a frame's segment reads from rows, in their order
abbrev pub gets_of : Setting → Frame → Fields → List Value
gets_of p frame fields =
    gets_from p (drop frame.place (body_of p.program frame.kind frame.behaviour)) None frame.place
    (record {
      registers = frame.registers;
      fields = fields;
      made = [];
    })
