-- A turn goes on by one instruction, or to a label.
use Rattle.std.proofs.Common.{◌≡◌, ℕ, ◌+◌, ◌-◌, ◌≤◌, arith, cond, true, false, List, [], ◌∷◌, ◌++◌, length, drop, Option, None, Some, Bool, refl, sym, ap, ◌∙◌}
use Rattle.std.specs.Prelude.{option_and_then, slice_get, slice_index_or, unwrap_or}
use Rattle.std.specs.List.{find}
use Rattle.std.specs.Option.{option_map_or, option_or}
use Rattle.std.proofs.lemmas.List.{drop-drop}
use Rattle.std.proofs.lemmas.List.Elements.{filter_map-append}
use Rattle.std.proofs.lemmas.List.Folds.{find-append}
use Rattle.std.proofs.lemmas.Option.{unwrap_or-slice_get}
use Rattle.orca_names.specs.Names.{thing_of}
use Rattle.orca_names.specs.declared.names.Thing.{Thing}
use Rattle.orca_names.specs.declared.names.Value.{Value}
use Rattle.orca_names.specs.declared.names.Value.TheVariants.{Null}
use Rattle.behaviour_code.specs.declared.instr.Instr.{Instr}
use Rattle.behaviour_code.specs.Find.{is_label}
use Rattle.reach_walk.specs.Reach.{named_by}
use Rattle.turn_rules.specs.declared.act.Effect.{Effect}
use Rattle.turn_rules.specs.declared.act.Effect.TheVariants as E
use Rattle.turn_rules.specs.Segment.{Setting, Turn, got_by, gets_from, gets_on, run_from, on_effect, step_of}
use Rattle.turn_step.specs.Held.{first_needed, is_needed}
use Rattle.turn_step.specs.Turns.{place_after}

-- the value at a place of a row, null where there is none
pub place_or_null : (row : Option (List Value)) (i : ℕ) → unwrap_or (option_and_then (λ values. slice_get values i) row) Null ≡ option_map_or (λ values. slice_index_or values i Null) row Null
place_or_null None i = refl
place_or_null (Some values) i = unwrap_or-slice_get values i Null

-- what passes all instructions but a label, and stops at none, goes on behind the label, or stops behind all
module _ {A : Type 0} (go : List Instr → Option ℕ → ℕ → Turn → A) (t : Turn)
    (stops : (name i : ℕ) → go [] (Some name) i t ≡ go [] None i t)
    (passes : (name i : ℕ) (x : Instr) (xs : List Instr) → go (x ∷ xs) (Some name) i t ≡ go xs (cond (is_label name x) None (Some name)) (i + 1) t) where
  from_part : (body : List Instr) (name : ℕ) (xs : List Instr) (i : ℕ) → xs ≡ drop i body → go xs (Some name) i t ≡ go (drop (place_after name xs i) body) None (place_after name xs i) t
  from_part body name [] i e = stops name i ∙ ap (λ ys. go ys None i t) e
  from_part body name (x ∷ xs) i e =
      let rest : xs ≡ drop (i + 1) body = ap (drop 1) e ∙ drop-drop 1 i body in
      passes name i x xs ∙ (elim (is_label name x) as (λ b. go xs (cond b None (Some name)) (i + 1) t ≡ go (drop (cond b (i + 1) (place_after name xs (i + 1))) body) None (cond b (i + 1) (place_after name xs (i + 1))) t) [
        | true ↦ ap (λ ys. go ys None (i + 1) t) rest
        | false ↦ from_part body name xs (i + 1) rest
      ])

  to_label : (body : List Instr) (name i place : ℕ) → place ≡ place_after name (drop i body) i → go (drop place body) None place t ≡ go (drop i body) (Some name) i t
  to_label body name i place e = ap (λ (n : ℕ). go (drop n body) None n t) e ∙ sym (from_part body name (drop i body) i refl)

-- where the first values name nothing that is needed, the others count
first_needed-append : (held : Thing → Bool) (xs ys : List Value) → first_needed held xs ≡ None → first_needed held (xs ++ ys) ≡ first_needed held ys
first_needed-append held xs ys none =
    ap (find (is_needed held)) (filter_map-append thing_of xs ys) ∙ find-append (is_needed held) (named_by xs) (named_by ys) ∙ ap (λ o. option_or o (first_needed held ys)) none

-- what is left of a body, from which the next instruction is taken; `end` is the body's length
module _ (p : Setting) (held : Thing → Bool) (body rest behind : List Instr) (end before : ℕ) (d : Instr) (t u : Turn)
    (is : rest ≡ d ∷ behind) (left : rest ≡ drop (end - length rest) body) (within : length rest + before ≤ end) where
  at_next : end - length behind ≡ end - length rest + 1
  at_next = omega (arith, ap length is, within)

  pub left_behind : behind ≡ drop (end - length behind) body
  left_behind = ap (drop 1) (sym is ∙ left) ∙ drop-drop 1 (end - length rest) body ∙ ap (λ (n : ℕ). drop n body) (sym at_next)

  -- a turn goes on at the next instruction
  module _ (leads : (first_needed held (got_by p d t) ≡ None) × (step_of p d t ≡ (E.Next, u))) where
    pub run_from-next : run_from p behind None (end - length behind) u ≡ run_from p rest None (end - length rest) t
    run_from-next =
        ap (λ (n : ℕ). run_from p behind None n u) at_next
        ∙ sym (ap (on_effect (run_from p behind) (end - length rest)) leads.1)
        ∙ sym (ap (λ (xs : List Instr). run_from p xs None (end - length rest) t) is)

    -- so do the values that it gets
    pub gets_from-next : first_needed held (gets_from p behind None (end - length behind) u) ≡ first_needed held (gets_from p rest None (end - length rest) t)
    gets_from-next =
        let go_on : Effect × Turn → List Value = gets_on (gets_from p behind) (end - length rest) in
        ap (λ (n : ℕ). first_needed held (gets_from p behind None n u)) at_next
        ∙ sym (ap (λ (e : Effect × Turn). first_needed held (go_on e)) leads.1)
        ∙ sym (first_needed-append held (got_by p d t) (go_on (step_of p d t)) leads.0)
        ∙ sym (ap (λ (xs : List Instr). first_needed held (gets_from p xs None (end - length rest) t)) is)

  -- or behind a label
  module _ (place label : ℕ) (leads : (first_needed held (got_by p d t) ≡ None) × (step_of p d t ≡ (E.Leap label, u)))
      (found : place ≡ place_after label (drop (end - length behind) body) (end - length behind)) where
    to_place : {A : Type 0} (go : List Instr → Option ℕ → ℕ → Turn → A)
        → ((name i : ℕ) → go [] (Some name) i u ≡ go [] None i u)
        → ((name i : ℕ) (x : Instr) (xs : List Instr) → go (x ∷ xs) (Some name) i u ≡ go xs (cond (is_label name x) None (Some name)) (i + 1) u)
        → go (drop place body) None place u ≡ go behind (Some label) (end - length rest + 1) u
    to_place go stops passes =
        to_label go u stops passes body label (end - length behind) place found
        ∙ ap (λ (xs : List Instr). go xs (Some label) (end - length behind) u) (sym left_behind)
        ∙ ap (λ (n : ℕ). go behind (Some label) n u) at_next

    pub run_from-leap : run_from p (drop place body) None place u ≡ run_from p rest None (end - length rest) t
    run_from-leap =
        to_place (run_from p) (λ name k. refl) (λ name k x xs. refl)
        ∙ sym (ap (on_effect (run_from p behind) (end - length rest)) leads.1)
        ∙ sym (ap (λ (xs : List Instr). run_from p xs None (end - length rest) t) is)

    pub gets_from-leap : first_needed held (gets_from p (drop place body) None place u) ≡ first_needed held (gets_from p rest None (end - length rest) t)
    gets_from-leap =
        let go_on : Effect × Turn → List Value = gets_on (gets_from p behind) (end - length rest) in
        ap (first_needed held) (to_place (gets_from p) (λ name k. refl) (λ name k x xs. refl) ∙ sym (ap go_on leads.1))
        ∙ sym (first_needed-append held (got_by p d t) (go_on (step_of p d t)) leads.0)
        ∙ sym (ap (λ (xs : List Instr). first_needed held (gets_from p xs None (end - length rest) t)) is)
