-- What the code of a turn tells, as the definition of a segment has it.
use Rattle.std.specs.Prelude.{ℕ, ◌≡◌, ◌+◌, if◌then◌else◌, List, [], ◌∷◌, map, Option, Some, None}
use Rattle.orca_names.specs.declared.names.ObjName.{ObjName}
use Rattle.orca_names.specs.declared.names.Thing.{Thing}
use Rattle.orca_names.specs.declared.names.Value.{Value}
use Rattle.orca_names.specs.declared.row.Fields.{Fields}
use Rattle.behaviour_code.specs.declared.code.Program.{Program}
use Rattle.behaviour_code.specs.declared.instr.Instr.{Instr}
use Rattle.behaviour_code.specs.Find.{is_label}
use Rattle.turn_rules.specs.declared.act.Act as rules
use Rattle.turn_rules.specs.declared.act.Act.TheVariants as A
use Rattle.turn_rules.specs.declared.act.Effect.{Effect}
use Rattle.turn_rules.specs.declared.act.Effect.TheVariants as E
use Rattle.turn_rules.specs.declared.act.Frame.{Frame}
use Rattle.turn_rules.specs.Segment as segment
use Rattle.turn_rules.specs.Segment.{Stop, Turn, value_at}
use Rattle.turn_step.specs.declared.act.Act.{Act}
use Rattle.turn_step.specs.declared.act.Act.TheVariants as answers
use Rattle.turn_step.specs.declared.deed.Deed.{Deed}
use Rattle.turn_step.specs.declared.deed.Deed.TheVariants.{Post, New, Print, End}
use Rattle.turn_step.specs.declared.deed.Lead.{Lead}
use Rattle.turn_step.specs.declared.deed.Lead.TheVariants.{Next, Leap, Does, Needs}
use Rattle.turn_step.specs.declared.deed.Halt.{Halt}
use Rattle.turn_step.specs.declared.deed.Halt.TheVariants as halts
use Rattle.turn_step.specs.declared.setting.Setting.{Setting}

-- what a turn only reads
abbrev pub setting_in : Program → ℕ → ℕ → (ObjName → Option (List Value)) → segment.Setting
setting_in program me base rows = record { program = program; me = me; base = base; rows = rows }

abbrev pub setting_of : Setting → (ObjName → Option (List Value)) → segment.Setting
setting_of s rows = setting_in s.code.now s.me s.base rows

-- the act of a deed, whose values stand in registers
abbrev pub act_of : Deed → Turn → rules.Act
act_of (Post to behaviour values) t = A.Post to behaviour (map (value_at t) values.now)
act_of (New kind into) t = A.New kind into
act_of (Print register) t = A.Print (value_at t register)
act_of End t = A.End

-- where an instruction leads: where it gets a needed thing, to that, with nothing changed; else as
-- its effect says
abbrev pub LeadsTo : Option Thing → Effect × Turn → Turn → Lead → Turn → Type 0
LeadsTo first step before Next after = (first ≡ None) × (step ≡ (E.Next, after))
LeadsTo first step before (Leap label) after =
    (first ≡ None) × (step ≡ (E.Leap label.now, after))
LeadsTo first step before (Does deed) after =
    (first ≡ None) × (step ≡ (E.Acts (act_of deed after), after))
LeadsTo first step before (Needs x) after = (first ≡ Some x) × (after ≡ before)

-- how a turn ends: at the first needed thing that it gets, if there is one; else as its segment stops
abbrev pub HaltsAt : Option Thing → Stop → Halt → Turn → Type 0
HaltsAt first stop (halts.Needs x) t = first ≡ Some x
HaltsAt first stop (halts.Stops s) t =
    (first ≡ None) × (stop ≡ record { act = act_of s.deed t; place = s.place; turn = t })

-- an act, as a turn answers it
abbrev pub answer_of : rules.Act → Act
answer_of (A.Post to behaviour args) = answers.Post to behaviour args
answer_of (A.New kind into) = answers.New kind into
answer_of (A.Print value) = answers.Print value
answer_of A.End = answers.End

-- what a turn answers and leaves
pub record Answer : Type 0 where
  pub act : Act
  pub frame : Frame
  pub fields : Fields
  pub made : List (List Value)

-- where a turn gets a needed thing, it answers that and leaves all as it was; else it is its segment
abbrev pub turn_answer : Option Thing → Stop → Frame → Fields → Answer
turn_answer (Some x) stop frame fields =
    record { act = answers.Need x; frame = frame; fields = fields; made = [] }
turn_answer None stop frame fields = record {
  act = answer_of stop.act;
  frame = record frame { place = stop.place; registers = stop.turn.registers };
  fields = stop.turn.fields;
  made = stop.turn.made;
}

-- the place behind the first label of the name, or behind all instructions
abbrev pub place_after : ℕ → List Instr → ℕ → ℕ
place_after name [] place = place
place_after name (i ∷ rest) place =
    if is_label name i then place + 1 else place_after name rest (place + 1)
