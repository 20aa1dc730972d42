-- How many rows a turn makes.
use Rattle.std.proofs.Common.{ℕ, ◌+◌, ◌≤◌, cond, List, [], ◌∷◌, length, map, drop, Option, None, Some, arith, length-append}
use Rattle.std.proofs.lemmas.List.{length-drop}
use Rattle.orca_names.specs.declared.row.Fields.{Fields}
use Rattle.behaviour_code.specs.declared.instr.Instr.{Instr}
use Rattle.behaviour_code.specs.declared.instr.Instr.TheVariants as I
use Rattle.behaviour_code.specs.Find.{body_of, is_label}
use Rattle.behaviour_code.specs.WellFormed.{IsWellFormed}
use Rattle.behaviour_code.proofs.Limits.{body_is_short}
use Rattle.turn_rules.specs.declared.act.Effect.{Effect}
use Rattle.turn_rules.specs.declared.act.Effect.TheVariants.{Next, Leap, Acts}
use Rattle.turn_rules.specs.declared.act.Frame.{Frame}
use Rattle.turn_rules.specs.Segment.{Setting, Turn, Stop, run_from, on_effect, segment_of, step_of, value_at}

-- an instruction makes at most one row
pub step_makes : (p : Setting) (i : Instr) (t : Turn) → length (step_of p i t).1.made ≤ length t.made + 1
step_makes p (I.Row d values) t = omega (arith, length-append t.made (map (value_at t) values ∷ []))
step_makes p i t = omega arith

effect_makes : (go_on : Option ℕ → ℕ → Turn → Stop) (bound place : ℕ) → ((sought : Option ℕ) (n : ℕ) (t : Turn) → length (go_on sought n t).turn.made ≤ length t.made + bound) →
    (r : Effect × Turn) → length (on_effect go_on place r).turn.made ≤ length r.1.made + bound
effect_makes go_on bound place h (Next, t) = h None (place + 1) t
effect_makes go_on bound place h (Leap label, t) = h (Some label) (place + 1) t
effect_makes go_on bound place h (Acts act, t) = omega arith

-- at most one row for each instruction that is left
pub run_makes : (p : Setting) (xs : List Instr) (sought : Option ℕ) (place : ℕ) (t : Turn) → length (run_from p xs sought place t).turn.made ≤ length t.made + length xs
run_makes p [] sought place t = omega arith
run_makes p (i ∷ rest) None place t =
    omega (arith, effect_makes (run_from p rest) (length rest) place (run_makes p rest) (step_of p i t), step_makes p i t)
run_makes p (i ∷ rest) (Some label) place t =
    omega (arith, run_makes p rest (cond (is_label label i) None (Some label)) (place + 1) t)

-- a segment makes at most 1,024 rows
pub segment_makes : (p : Setting) (frame : Frame) (fields : Fields) → IsWellFormed p.program → length (segment_of p frame fields).turn.made ≤ 1024
segment_makes p frame fields good =
    let body = body_of p.program frame.kind frame.behaviour in
    omega (
      arith,
      body_is_short p.program frame.kind frame.behaviour good,
      length-drop frame.place body,
      run_makes p (drop frame.place body) None frame.place (record { registers = frame.registers; fields = fields; made = [] }),
    )
