-- A new actor's name goes to a register of the frame, in a program that keeps the rules.
use Rattle.std.proofs.Common.{◌≡◌, ℕ, zero, suc, ◌+◌, ◌<◌, Bool, cond, Option, Some, None, List, [], ◌∷◌, refl}
use Rattle.std.specs.List.{All}
use Rattle.std.specs.Option.{option_map_or}
use Rattle.std.specs.Prelude.{drop, slice_get, ⊤}
use Rattle.std.proofs.lemmas.List.Elements.{All-drop, All-nil}
use Rattle.orca_names.specs.declared.limits.TheConstants.{REGISTERS}
use Rattle.orca_names.specs.declared.names.Value.{Value}
use Rattle.orca_names.specs.declared.names.Value.TheVariants as values
use Rattle.orca_names.specs.declared.row.Fields.{Fields}
use Rattle.behaviour_code.specs.Find.{behaviours_of, body_of, is_label, kind_named}
use Rattle.behaviour_code.specs.declared.code.Behaviour.{Behaviour}
use Rattle.behaviour_code.specs.declared.code.Kind.{Kind}
use Rattle.behaviour_code.specs.declared.instr.Instr.{Instr}
use Rattle.behaviour_code.specs.declared.instr.Instr.TheVariants as I
use Rattle.behaviour_check.specs.Keeps.{HasRegisters}
use Rattle.behaviour_check.specs.Rules.{IsChecked}
use Rattle.behaviour_check.proofs.Keeping.{accepts_exactly}
use Rattle.behaviour_check.proofs.Places.{All-slice_get}
use Rattle.turn_rules.specs.declared.act.Act.TheVariants as act
use Rattle.turn_rules.specs.declared.act.Effect.{Effect}
use Rattle.turn_rules.specs.declared.act.Effect.TheVariants.{Next, Leap, Acts}
use Rattle.turn_rules.specs.declared.act.Frame.{Frame}
use Rattle.turn_rules.specs.Segment.{Setting, Stop, Turn, leap_if_zero, number_at, on_effect, post_to, run_from, segment_of, step_of, value_at}
use Rattle.actor_cell.specs.Goes.{FitsRegister}

-- ---- one instruction

abbrev EffectFits : Effect → Type 0
EffectFits Next = ⊤
EffectFits (Leap label) = ⊤
EffectFits (Acts a) = FitsRegister a

post_fits : (v : Value) (behaviour : ℕ) (args : List Value) → EffectFits (post_to v behaviour args)
post_fits (values.Actor a) behaviour args = tt
post_fits v behaviour args = tt

leap_fits : (n label : ℕ) → EffectFits (leap_if_zero n label)
leap_fits zero label = tt
leap_fits (suc n) label = tt

new_fits : (d : ℕ) (kind : Option ℕ) → d < REGISTERS → EffectFits (option_map_or (λ k. Acts (act.New k d)) kind Next)
new_fits d None h = tt
new_fits d (Some k) h = h

step_fits : (p : Setting) (i : Instr) (t : Turn) → HasRegisters i → EffectFits (step_of p i t).0
step_fits p (I.JumpZero a l) t h = leap_fits (number_at t a) l
step_fits p (I.New d kind) t h = new_fits d (kind_named p.program kind) (All-slice_get (λ r. r < REGISTERS) (d ∷ []) h 0 d refl)
step_fits p (I.Send to behaviour vs) t h = post_fits (value_at t to) behaviour _
step_fits p i t h = tt

-- ---- up to the next act

on_effect_fits : (go_on : Option ℕ → ℕ → Turn → Stop) → ((sought : Option ℕ) (place : ℕ) (t : Turn) → FitsRegister (go_on sought place t).act)
    → (place : ℕ) (e : Effect) (t : Turn) → EffectFits e → FitsRegister (on_effect go_on place (e, t)).act
on_effect_fits go_on all place Next t h = all None (place + 1) t
on_effect_fits go_on all place (Leap label) t h = all (Some label) (place + 1) t
on_effect_fits go_on all place (Acts a) t h = h

run_fits : (p : Setting) (is : List Instr) → All HasRegisters is → (sought : Option ℕ) (place : ℕ) (t : Turn) → FitsRegister (run_from p is sought place t).act
run_fits p [] h sought place t = tt
run_fits p (i ∷ rest) h None place t =
    on_effect_fits (run_from p rest) (run_fits p rest (All-drop HasRegisters 1 (i ∷ rest) h)) place (step_of p i t).0 (step_of p i t).1
    (step_fits p i t (All-slice_get HasRegisters (i ∷ rest) h 0 i refl))
run_fits p (i ∷ rest) h (Some label) place t = run_fits p rest (All-drop HasRegisters 1 (i ∷ rest) h) (if_sought (is_label label i)) (place + 1) t
  where
    if_sought : Bool → Option ℕ
    if_sought b = cond b None (Some label)

-- ---- a body of the program

behaviours_have : (kinds : List Kind) → All (λ k. All (λ (b : Behaviour). All HasRegisters b.body) k.behaviours) kinds → (k : ℕ) (o : Option Kind) → slice_get kinds k ≡ o
    → All (λ (b : Behaviour). All HasRegisters b.body) (option_map_or (λ k. k.behaviours) o [])
behaviours_have kinds h k None is = All-nil (λ (b : Behaviour). All HasRegisters b.body)
behaviours_have kinds h k (Some kind) is = All-slice_get (λ (k : Kind). All (λ (b : Behaviour). All HasRegisters b.body) k.behaviours) kinds h k kind is

body_has : (bs : List Behaviour) → All (λ (b : Behaviour). All HasRegisters b.body) bs → (k : ℕ) (o : Option Behaviour) → slice_get bs k ≡ o
    → All HasRegisters (option_map_or (λ b. b.body) o [])
body_has bs h k None is = All-nil HasRegisters
body_has bs h k (Some b) is = All-slice_get (λ (b : Behaviour). All HasRegisters b.body) bs h k b is

pub segment_fits : (p : Setting) (frame : Frame) (fields : Fields) → IsChecked p.program → FitsRegister (segment_of p frame fields).act
segment_fits p frame fields checked =
    let keeps = (accepts_exactly p.program).0 checked.kept in
    let behaviours = behaviours_have p.program.kinds keeps.registers frame.kind (slice_get p.program.kinds frame.kind) refl in
    let body = body_has (behaviours_of p.program frame.kind) behaviours frame.behaviour (slice_get (behaviours_of p.program frame.kind) frame.behaviour) refl in
    run_fits p (drop frame.place (body_of p.program frame.kind frame.behaviour)) (All-drop HasRegisters frame.place (body_of p.program frame.kind frame.behaviour) body) None frame.place
    (record { registers = frame.registers; fields = fields; made = [] })
