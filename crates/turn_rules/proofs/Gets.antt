-- What a segment gets from rows is known, and what it leaves names only what it was given, got or made.
use Rattle.std.proofs.Common.{◌⊎◌, ℕ, ◌+◌, ◌<◌, ◌≤◌, cond, List, [], ◌∷◌, ◌++◌, length, drop, Contains, Option, None, Some, sym, subst, ⊎_elim}
use Rattle.std.proofs.lemmas.List.Elements.{Contains-append_cases, Contains-append_left, Contains-append_right, filter_map-append}
use Rattle.orca_names.specs.declared.names.Thing.{Thing}
use Rattle.orca_names.specs.declared.names.Thing.TheVariants as things
use Rattle.orca_names.specs.declared.names.Value.{Value}
use Rattle.orca_names.specs.declared.row.Fields.{Fields}
use Rattle.behaviour_code.specs.declared.instr.Instr.{Instr}
use Rattle.behaviour_code.specs.Find.{body_of, is_label}
use Rattle.reach_walk.specs.Reach.{named_by, thing_of}
use Rattle.turn_rules.specs.declared.act.Effect.{Effect}
use Rattle.turn_rules.specs.declared.act.Effect.TheVariants.{Next, Leap, Acts}
use Rattle.turn_rules.specs.declared.act.Frame.{Frame}
use Rattle.turn_rules.specs.Segment.{Setting, Turn, got_by, gets_from, gets_of, gets_on, step_of, segment_of}
use Rattle.turn_rules.specs.Laws.{IsReachedOrMade}
use Rattle.turn_rules.proofs.Known.{Knows-from_named, named_is_known}
use Rattle.turn_rules.proofs.Leaving.{LeavesOnly, leaves_by}
use Rattle.turn_rules.proofs.Names.{Known, StepKnown, TurnKnown, first_known, first_turn, found_got, step_known}

named_cases : (vs ws : List Value) (x : Thing) → Contains (named_by (vs ++ ws)) x → Contains (named_by vs) x ⊎ Contains (named_by ws) x
named_cases vs ws x c = Contains-append_cases (named_by vs) (named_by ws) x (subst (λ ts. Contains ts x) (filter_map-append thing_of vs ws) c)

named_left : (vs ws : List Value) (x : Thing) → Contains (named_by vs) x → Contains (named_by (vs ++ ws)) x
named_left vs ws x c = subst (λ ts. Contains ts x) (sym (filter_map-append thing_of vs ws)) (Contains-append_left (named_by vs) (named_by ws) x c)

named_right : (vs ws : List Value) (x : Thing) → Contains (named_by ws) x → Contains (named_by (vs ++ ws)) x
named_right vs ws x c = subst (λ ts. Contains ts x) (sym (filter_map-append thing_of vs ws)) (Contains-append_right (named_by vs) (named_by ws) x c)

-- ---- what is got was reached, is the actor itself, or was made

module _ (p : Setting) (frame : Frame) (fields : Fields) where
  abbrev Found : Thing → Type 0
  Found x = (n : ℕ) × Known p frame fields n x

  abbrev AllFound : List Value → Type 0
  AllFound values = (x : Thing) → Contains (named_by values) x → Found x

  on_found : (go_on : Option ℕ → ℕ → Turn → List Value) (place : ℕ) → ((sought : Option ℕ) (n : ℕ) (t : Turn) → TurnKnown p frame fields t → AllFound (go_on sought n t))
      → (r : Effect × Turn) → StepKnown p frame fields r → AllFound (gets_on go_on place r)
  on_found go_on place h (Next, t) k = h None (place + 1) t k.turn
  on_found go_on place h (Leap label, t) k = h (Some label) (place + 1) t k.turn
  on_found go_on place h (Acts act, t) k = λ x c. absurd (named_is_known (λ y. ⊥) [] tt x c)

  gets_found : (xs : List Instr) (sought : Option ℕ) (place : ℕ) (t : Turn) → TurnKnown p frame fields t → AllFound (gets_from p xs sought place t)
  gets_found [] sought place t h = λ x c. absurd (named_is_known (λ y. ⊥) [] tt x c)
  gets_found (i ∷ rest) None place t h = λ x c. ⊎_elim
      (λ first. (length t.made, named_is_known (Known p frame fields (length t.made)) (got_by p i t) (found_got p frame fields i t h) x first))
      (λ later. on_found (gets_from p rest) place (gets_found rest) (step_of p i t) (step_known p frame fields i t h) x later)
      (named_cases (got_by p i t) (gets_on (gets_from p rest) place (step_of p i t)) x c)
  gets_found (i ∷ rest) (Some label) place t h = gets_found rest (cond (is_label label i) None (Some label)) (place + 1) t h

  pub gets_known : (x : Thing) → Contains (named_by (gets_of p frame fields)) x → (n : ℕ) × IsReachedOrMade p frame fields n x
  gets_known = gets_found (drop frame.place (body_of p.program frame.kind frame.behaviour)) None frame.place (first_turn p frame fields) (first_known p frame fields)

-- ---- what a segment leaves names only what it was given, got or made

-- K n is what may be named when n rows were made
module _ (p : Setting) (K : ℕ → Thing → Type 0) (more : (m n : ℕ) → m ≤ n → (x : Thing) → K m x → K n x)
    (itself : (n : ℕ) → K n (things.Actor p.me)) (own : (i n : ℕ) → i < n → K n (things.Obj (record { owner = p.me; serial = p.base + i }))) where
  -- everything got may be named, however many rows were made
  abbrev Got : List Value → Type 0
  Got values = (n : ℕ) (x : Thing) → Contains (named_by values) x → K n x

  pub leaves_only : (frame : Frame) (fields : Fields) → ((x : Thing) → Contains (named_by frame.registers) x → K 0 x) → ((x : Thing) → Contains (named_by fields.values) x → K 0 x)
      → Got (gets_of p frame fields) → LeavesOnly K (segment_of p frame fields)
  leaves_only frame fields in_frame in_fields got =
      leaves_by p K more itself own Got (λ vs ws g n x c. g n x (named_left vs ws x c)) (λ vs ws g n x c. g n x (named_right vs ws x c))
      (λ i t h g. Knows-from_named (K (length t.made)) (got_by p i t) (g (length t.made)))
      frame fields (Knows-from_named (K 0) frame.registers in_frame) (Knows-from_named (K 0) fields.values in_fields) got
