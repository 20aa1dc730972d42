-- Where nothing but labels is left of a behaviour.
use Rattle.std.proofs.Common.{◌≡◌, ℕ, ◌+◌, Bool, true, false, cond, ◌&&◌, List, [], ◌∷◌, length, drop, None, Some, refl, ap, ◌∙◌, arith}
use Rattle.std.specs.List.{list_all}
use Rattle.std.specs.Option.{option_map_or}
use Rattle.std.proofs.lemmas.Option.{none-some}
use Rattle.behaviour_code.specs.declared.instr.Instr.{Instr}
use Rattle.behaviour_code.specs.declared.instr.Instr.TheVariants.{Label}
use Rattle.behaviour_code.specs.Find.{body_of}
use Rattle.orca_names.specs.declared.row.Fields.{Fields}
use Rattle.turn_rules.specs.declared.act.Act.TheVariants.{End}
use Rattle.turn_rules.specs.declared.act.Frame.{Frame}
use Rattle.turn_rules.specs.Segment.{Setting, Turn, gets_from, gets_of, run_from, segment_of}
use Rattle.turn_step.specs.Rests.{is_mark, rest_of, rests_at}

-- a label is passed
run_from-mark : (p : Setting) (i : Instr) (rest : List Instr) (place : ℕ) (t : Turn) → is_mark i ≡ true → run_from p (i ∷ rest) None place t ≡ run_from p rest None (place + 1) t
run_from-mark p (Label name) rest place t on = refl
run_from-mark p i rest place t on = cc

-- and gets nothing
gets_from-mark : (p : Setting) (i : Instr) (rest : List Instr) (place : ℕ) (t : Turn) → is_mark i ≡ true → gets_from p (i ∷ rest) None place t ≡ gets_from p rest None (place + 1) t
gets_from-mark p (Label name) rest place t on = refl
gets_from-mark p i rest place t on = cc

pub both : (p q : Bool) → (p && q) ≡ true → (p ≡ true) × (q ≡ true)
both true q e = (refl, e)
both false q e = cc

run_from-marks : (p : Setting) (rest : List Instr) (place : ℕ) (t : Turn) → list_all is_mark rest ≡ true
    → run_from p rest None place t ≡ record { act = End; place = place + length rest; turn = t }
run_from-marks p [] place t on = let same : place ≡ place + 0 = omega arith in ap (λ n. record { act = End; place = n; turn = t }) same
run_from-marks p (i ∷ rest) place t on =
    let marks = both (is_mark i) (list_all is_mark rest) on in
    let far : place + 1 + length rest ≡ place + length (i ∷ rest) = omega arith in
    run_from-mark p i rest place t marks.0 ∙ run_from-marks p rest (place + 1) t marks.1 ∙ ap (λ n. record { act = End; place = n; turn = t }) far

gets_from-marks : (p : Setting) (rest : List Instr) (place : ℕ) (t : Turn) → list_all is_mark rest ≡ true → gets_from p rest None place t ≡ []
gets_from-marks p [] place t on = refl
gets_from-marks p (i ∷ rest) place t on =
    let marks = both (is_mark i) (list_all is_mark rest) on in
    gets_from-mark p i rest place t marks.0 ∙ gets_from-marks p rest (place + 1) t marks.1

-- the rest is one of labels, and ends there
rest_is : (rest : List Instr) (place : ℕ) (end : ℕ) → rest_of rest place ≡ Some end → (list_all is_mark rest ≡ true) × (place + length rest ≡ end)
rest_is rest place end e = by (list_all is_mark rest) e
  where
    by : (b : Bool) → cond b (Some (place + length rest)) None ≡ Some end → (b ≡ true) × (place + length rest ≡ end)
    by true e = (refl, ap (λ o. option_map_or (λ n. n) o end) e)
    by false e = absurd (none-some end e)

module _ (p : Setting) (frame : Frame) (fields : Fields) (end : ℕ) (rests : rests_at p.program frame ≡ Some end) where
  abbrev rest : List Instr
  rest = drop frame.place (body_of p.program frame.kind frame.behaviour)

  abbrev still : Turn
  still = record { registers = frame.registers; fields = fields; made = [] }

  -- the segment ends there, and leaves all as it was
  pub segment_rests : segment_of p frame fields ≡ record { act = End; place = end; turn = still }
  segment_rests =
      let is = rest_is rest frame.place end rests in
      run_from-marks p rest frame.place still is.0 ∙ ap (λ n. record { act = End; place = n; turn = still }) is.1

  -- and gets nothing from rows
  pub gets_nothing : gets_of p frame fields ≡ []
  gets_nothing = gets_from-marks p rest frame.place still (rest_is rest frame.place end rests).0
