use Rattle.std.proofs.Common.{◌∙◌, ◌≡◌, ◌∷◌, ◌-◌, length, drop, take, max, List, arith, rules, ap, sym, subst, ℕ, None}
use Rattle.std.proofs.lemmas.List.{length-drop, take_rest}
use Rattle.behaviour_code.specs.declared.instr.Instr.{Instr}
use Rattle.turn_rules.specs.Segment.{Turn, got_by, step_of, run_from, gets_from}
use Rattle.turn_rules.proofs.Bounds.{step_makes}
use Rattle.turn_step.specs.Held.{first_needed}
use Rattle.turn_step.specs.Turns.{LeadsTo, place_after, setting_of}
use Rattle.turn_step.proofs.Runs.{left_behind, run_from-leap, gets_from-leap, run_from-next, gets_from-next}
use Rattle.turn_step.proofs.run.run.Goals as goal

pub loop-instr-preserved-in-Next : goal.loop-instr-preserved-in-Next
loop-instr-preserved-in-Next g c =
    let s = c.args.setting.now in
    let p = setting_of s (g.R.RowReader.rows c.args.rows.now) in
    let held = g.H.HeldTest.held c.args.held.now in
    let body = c.args.body.now in
    let rest = c.loop-instr.rest.now in
    let behind = c.in-Some.behind.now in
    let end = max c.args.place (length body) in
    let instr = c.in-Some.instr.now in
    let t : Turn = c.loop-instr.turn in
    let u : Turn = c.step.new.turn in
    let is : rest ≡ instr ∷ behind = search rules in
    let led = subst (λ lead. LeadsTo (first_needed held (got_by p instr t)) (step_of p instr t) t lead u) c.in-Next.is
    (subst (λ rows. let q = setting_of s rows in LeadsTo (first_needed held (got_by q instr t)) (step_of q instr t) t c.in-Ok.lead u) c.loop-instr.invariant.rows c.in-Ok.ensures.ok)
    in
    let left = c.loop-instr.invariant.behind in
    let within = c.loop-instr.invariant.within in
    record {
      within = omega (arith, ap length is, within);
      behind = left_behind p held body rest behind end c.args.place instr t u is left within;
      few = omega (arith, ap length is, within, c.loop-instr.invariant.few, step_makes p instr t, ap (λ s. length s.1.made) led.1);
      rest = run_from-next p held body rest behind end c.args.place instr t u is left within led ∙ c.loop-instr.invariant.rest;
      gets = gets_from-next p held body rest behind end c.args.place instr t u is left within led ∙ c.loop-instr.invariant.gets;
      rows = c.step.ensures.same.0 ∙ c.loop-instr.invariant.rows;
      names = c.step.ensures.same.1 ∙ c.loop-instr.invariant.names;
      beside = c.step.ensures.same.2 ∙ c.loop-instr.invariant.beside;
    }

pub loop-instr-preserved : goal.loop-instr-preserved
loop-instr-preserved g c =
    let s = c.args.setting.now in
    let p = setting_of s (g.R.RowReader.rows c.args.rows.now) in
    let held = g.H.HeldTest.held c.args.held.now in
    let body = c.args.body.now in
    let rest = c.loop-instr.rest.now in
    let behind = c.in-Some.behind.now in
    let end = max c.args.place (length body) in
    let instr = c.in-Some.instr.now in
    let label = c.in-Leap.label.now in
    let at = c.after_label-at.result in
    let left_there : List Instr = take (length body - at) (drop at body) in
    let t : Turn = c.loop-instr.turn in
    let u : Turn = c.step.new.turn in
    let is : rest ≡ instr ∷ behind = search rules in
    let led = subst (λ lead. LeadsTo (first_needed held (got_by p instr t)) (step_of p instr t) t lead u) c.in-Leap.is
    (subst (λ rows. let q = setting_of s rows in LeadsTo (first_needed held (got_by q instr t)) (step_of q instr t) t c.in-Ok.lead u) c.loop-instr.invariant.rows c.in-Ok.ensures.ok)
    in
    let left = c.loop-instr.invariant.behind in
    let within = c.loop-instr.invariant.within in
    let whole : length body ≡ end = omega (arith, ap length is, within) in
    let found = subst (λ (n : ℕ). at ≡ place_after label (drop (n - length behind) body) (n - length behind)) whole c.after_label-at.ensures.place in
    let spot : end - length left_there ≡ at = omega (arith, whole, ap length (take_rest body at), length-drop at body, c.after_label-at.ensures.within) in
    record {
      within = omega (arith, whole, ap length is, within, ap length (take_rest body at), length-drop at body, c.after_label-at.ensures.above, c.after_label-at.ensures.within);
      behind = take_rest body at ∙ ap (λ (n : ℕ). drop n body) (sym spot);
      few = omega (arith, spot, whole, ap length is, within, c.after_label-at.ensures.above, c.loop-instr.invariant.few, step_makes p instr t, ap (λ s. length s.1.made) led.1);
      rest =
          ap (λ (xs : List Instr). run_from p xs None (end - length left_there) u) (take_rest body at)
          ∙ ap (λ (n : ℕ). run_from p (drop at body) None n u) spot
          ∙ run_from-leap p held body rest behind end c.args.place instr t u is left within at label led found
          ∙ c.loop-instr.invariant.rest;
      gets =
          ap (λ (xs : List Instr). first_needed held (gets_from p xs None (end - length left_there) u)) (take_rest body at)
          ∙ ap (λ (n : ℕ). first_needed held (gets_from p (drop at body) None n u)) spot
          ∙ gets_from-leap p held body rest behind end c.args.place instr t u is left within at label led found
          ∙ c.loop-instr.invariant.gets;
      rows = c.step.ensures.same.0 ∙ c.loop-instr.invariant.rows;
      names = c.step.ensures.same.1 ∙ c.loop-instr.invariant.names;
      beside = c.step.ensures.same.2 ∙ c.loop-instr.invariant.beside;
    }
