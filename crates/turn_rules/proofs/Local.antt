-- Proves that a segment depends on no rows but those that its registers and fields reach.
use Rattle.std.proofs.Common.{◌≡◌, ℕ, ◌+◌, ◌-◌, cond, Bool, List, [], ◌∷◌, length, drop, Option, None, Some, refl, sym, ap, ◌∙◌}
use Rattle.std.specs.Prelude.{slice_get, slice_index_or, slice_set}
use Rattle.std.specs.Option.{option_map_or}
use Rattle.orca_names.specs.declared.names.ObjName.{ObjName}
use Rattle.orca_names.specs.declared.names.Thing.TheVariants as things
use Rattle.orca_names.specs.declared.names.Value.{Value}
use Rattle.orca_names.specs.declared.names.Value.TheVariants.{Null, Num, Actor, Obj}
use Rattle.orca_names.specs.declared.row.Fields.{Fields}
use Rattle.behaviour_code.specs.declared.instr.Instr.{Instr}
use Rattle.behaviour_code.specs.declared.instr.Instr.TheVariants as I
use Rattle.behaviour_code.specs.Find.{body_of, is_label}
use Rattle.turn_rules.specs.declared.act.Effect.{Effect}
use Rattle.turn_rules.specs.declared.act.Effect.TheVariants.{Next, Leap, Acts}
use Rattle.turn_rules.specs.declared.act.Frame.{Frame}
use Rattle.turn_rules.specs.Segment.{Setting, Turn, Stop, value_at, row_in, value_at_place, step_of, on_effect, run_from, segment_of}
use Rattle.turn_rules.specs.Laws.{AgreeOnReached, reached, itself, own}
use Rattle.turn_rules.proofs.Known.{KnowsValue, Knows-at}
use Rattle.turn_rules.proofs.Names.{is_made, is_made-own, Known, TurnKnown, StepKnown, step_known, first_turn, first_known}

module _ (p : Setting) (others : ObjName → Option (List Value)) (frame : Frame) (fields : Fields) (agree : AgreeOnReached p.rows others frame fields) where
  abbrev q : Setting
  q = record p { rows = others }

  -- the same row is found for each object that is known
  same_row : (made : ℕ) (rows : List (List Value)) (n : ObjName) → Known p frame fields made (things.Obj n) → row_in p rows n ≡ row_in q rows n
  same_row made rows n (reached r) = ap (cond (is_made p n) (slice_get rows (n.serial - p.base))) (agree n r)
  same_row made rows n (itself e) = cc
  same_row made rows n (own i l e) =
      let same : n ≡ record { owner = p.me; serial = p.base + i } = cc in
      let yes = is_made-own p n i same in
      let row = slice_get rows (n.serial - p.base) in
      ap (λ (b : Bool). cond b row (p.rows n)) yes ∙ sym (ap (λ (b : Bool). cond b row (others n)) yes)

  same_place : (made : ℕ) (t : Turn) (v : Value) (i : ℕ) → KnowsValue (Known p frame fields made) v → value_at_place p t v i ≡ value_at_place q t v i
  same_place made t Null i k = refl
  same_place made t (Num n) i k = refl
  same_place made t (Actor a) i k = refl
  same_place made t (Obj n) i k = ap (λ (o : Option (List Value)). option_map_or (λ row. slice_index_or row i Null) o Null) (same_row made t.made n k)

  step_of-same : (i : Instr) (t : Turn) → TurnKnown p frame fields t → step_of p i t ≡ step_of q i t
  step_of-same (I.Get d s i) t h =
      ap (λ (v : Value). (Next, record t { registers = slice_set t.registers d v }))
      (same_place (length t.made) t (value_at t s) i (Knows-at (Known p frame fields (length t.made)) t.registers s h.registers))
  step_of-same i t h = refl

  -- both go on alike from what an instruction leads to
  on_effect-same : (go_on go_there : Option ℕ → ℕ → Turn → Stop) (place : ℕ) → ((sought : Option ℕ) (n : ℕ) (t : Turn) → TurnKnown p frame fields t → go_on sought n t ≡ go_there sought n t) →
      (r : Effect × Turn) → StepKnown p frame fields r → on_effect go_on place r ≡ on_effect go_there place r
  on_effect-same go_on go_there place h (Next, t) k = h None (place + 1) t k.turn
  on_effect-same go_on go_there place h (Leap label, t) k = h (Some label) (place + 1) t k.turn
  on_effect-same go_on go_there place h (Acts act, t) k = refl

  run_from-same : (xs : List Instr) (sought : Option ℕ) (place : ℕ) (t : Turn) → TurnKnown p frame fields t → run_from p xs sought place t ≡ run_from q xs sought place t
  run_from-same [] sought place t h = refl
  run_from-same (i ∷ rest) None place t h =
      on_effect-same (run_from p rest) (run_from q rest) place (run_from-same rest) (step_of p i t) (step_known p frame fields i t h)
      ∙ ap (on_effect (run_from q rest) place) (step_of-same i t h)
  run_from-same (i ∷ rest) (Some label) place t h = run_from-same rest (cond (is_label label i) None (Some label)) (place + 1) t h

pub segment_of-same : (p : Setting) (others : ObjName → Option (List Value)) (frame : Frame) (fields : Fields) → AgreeOnReached p.rows others frame fields → segment_of p frame fields ≡ segment_of (record p { rows = others }) frame fields
segment_of-same p others frame fields agree =
    run_from-same p others frame fields agree (drop frame.place (body_of p.program frame.kind frame.behaviour)) None frame.place (first_turn p frame fields) (first_known p frame fields)
