-- Proves that what a segment leaves names only what the actor knows.
use Rattle.std.proofs.Common.{◌≡◌, ℕ, ◌+◌, ◌-◌, ◌<◌, ◌≤◌, ◌&&◌, ◌==◌, cond, Bool, true, false, List, [], ◌++◌, length, Contains, refl, sym, ap₂, subst, eq-eqb, arith}
use Rattle.std.specs.List.{AllByRecursion}
use Rattle.std.specs.Prelude.{nat_le, slice_get, unwrap_or, ⊤}
use Rattle.std.proofs.lemmas.Bool.{le-leb}
use Rattle.std.proofs.lemmas.List.Elements.{Contains-append_left, Contains-append_right, filter_map-append}
use Rattle.orca_names.specs.declared.names.ObjName.{ObjName}
use Rattle.orca_names.specs.declared.names.Thing.{Thing}
use Rattle.orca_names.specs.declared.names.Thing.TheVariants as things
use Rattle.orca_names.specs.declared.names.Value.{Value}
use Rattle.orca_names.specs.declared.names.Value.TheVariants.{Null, Num, Actor, Obj}
use Rattle.orca_names.specs.declared.row.Fields.{Fields}
use Rattle.behaviour_code.specs.declared.instr.Instr.{Instr}
use Rattle.behaviour_code.specs.declared.instr.Instr.TheVariants as I
use Rattle.reach_walk.specs.Reach.{named_by, thing_of, root, step}
use Rattle.turn_rules.specs.declared.act.Effect.{Effect}
use Rattle.turn_rules.specs.declared.act.Frame.{Frame}
use Rattle.turn_rules.specs.Segment.{Setting, Turn, got_by, value_at, row_in, value_at_place, step_of, segment_of}
use Rattle.turn_rules.specs.Laws.{IsReachedOrMade, reached, itself, own, NamesOnlyKnown}
use Rattle.turn_rules.proofs.Leaving.{TurnKnows, StepKnows, steps, leaves_by}
use Rattle.turn_rules.proofs.Known.{KnowsValue, Knows, KnowsRow, KnowsTurn, Knows-from_named, Knows-at, KnowsRow-get, KnowsRow-from, KnowsValue-in_row}

-- whether an object is one that the actor makes in this turn
abbrev pub is_made : Setting → ObjName → Bool
is_made p n = (n.owner == p.me) && nat_le p.base n.serial

pub is_made-own : (p : Setting) (n : ObjName) (i : ℕ) → n ≡ record { owner = p.me; serial = p.base + i } → is_made p n ≡ true
is_made-own p n i e =
    subst (λ (m : ObjName). is_made p m ≡ true) (sym e) (ap₂ (λ a b. a && b) (eq-eqb p.me p.me refl) (le-leb p.base (p.base + i) (omega arith)))

module _ (p : Setting) (frame : Frame) (fields : Fields) where
  abbrev pub Known : ℕ → Thing → Type 0
  Known made x = IsReachedOrMade p frame fields made x

  pub known_more : (m n : ℕ) → m ≤ n → (x : Thing) → Known m x → Known n x
  known_more m n le x (reached r) = reached r
  known_more m n le x (itself e) = itself e
  known_more m n le x (own i l e) = own i (omega arith) e

  -- the row of an object that is known
  row_before : (made : ℕ) (n : ObjName) → is_made p n ≡ false → Known made (things.Obj n) → KnowsRow (Known made) (p.rows n)
  row_before made n old (reached r) = KnowsRow-from (Known made) (p.rows n) (Knows-from_named (Known made) (unwrap_or (p.rows n) []) (λ x c. reached (step r c)))
  row_before made n old (itself e) = cc
  row_before made n old (own i l e) = let same : n ≡ record { owner = p.me; serial = p.base + i } = cc in let yes = is_made-own p n i same in cc

  row_known : (made : ℕ) (rows : List (List Value)) (n : ObjName) → AllByRecursion (Knows (Known made)) rows → Known made (things.Obj n) → KnowsRow (Known made) (row_in p rows n)
  row_known made rows n h k = cases (is_made p n) refl
    where
      cases : (b : Bool) → is_made p n ≡ b → KnowsRow (Known made) (cond b (slice_get rows (n.serial - p.base)) (p.rows n))
      cases true e = KnowsRow-get (Known made) rows (n.serial - p.base) h
      cases false e = row_before made n e k

  pub place_known : (made : ℕ) (t : Turn) (v : Value) (i : ℕ) → KnowsTurn (Known made) t → KnowsValue (Known made) v → KnowsValue (Known made) (value_at_place p t v i)
  place_known made t Null i h k = tt
  place_known made t (Num n) i h k = tt
  place_known made t (Actor a) i h k = tt
  place_known made t (Obj n) i h k = KnowsValue-in_row (Known made) (row_in p t.made n) i (row_known made t.made n h.made k)

  -- ---- one instruction

  -- a turn names only what the actor knows then
  abbrev pub TurnKnown : Turn → Type 0
  TurnKnown t = TurnKnows Known t

  abbrev pub StepKnown : Effect × Turn → Type 0
  StepKnown r = StepKnows Known r

  pub found_got : (i : Instr) (t : Turn) → TurnKnown t → Knows (Known (length t.made)) (got_by p i t)
  found_got (I.Get d s i) t h = (place_known (length t.made) t (value_at t s) i h (Knows-at (Known (length t.made)) t.registers s h.registers), tt)
  found_got i t h = tt

  is_itself : (n : ℕ) → Known n (things.Actor p.me)
  is_itself n = itself refl

  is_own : (i n : ℕ) → i < n → Known n (things.Obj (record { owner = p.me; serial = p.base + i }))
  is_own i n l = own i l refl

  pub step_known : (i : Instr) (t : Turn) → TurnKnown t → StepKnown (step_of p i t)
  step_known i t h = steps p Known known_more is_itself is_own i t h (found_got i t h)

  -- ---- up to the next act

  abbrev pub first_turn : Turn
  first_turn = record { registers = frame.registers; fields = fields; made = [] }

  given : (x : Thing) → Contains (named_by frame.registers ++ named_by fields.values) x → Known 0 x
  given x c = reached (root (subst (λ ts. Contains ts x) (sym (filter_map-append thing_of frame.registers fields.values)) c))

  pub first_known : TurnKnown first_turn
  first_known = record {
    registers = Knows-from_named (Known 0) frame.registers (λ x c. given x (Contains-append_left (named_by frame.registers) (named_by fields.values) x c));
    fields = Knows-from_named (Known 0) fields.values (λ x c. given x (Contains-append_right (named_by frame.registers) (named_by fields.values) x c));
    made = tt;
  }

  pub segment_known : NamesOnlyKnown p frame fields (segment_of p frame fields)
  segment_known =
      let leaves = leaves_by p Known known_more is_itself is_own (λ gets. ⊤) (λ vs ws allowed. tt) (λ vs ws allowed. tt) (λ i t h allowed. found_got i t h)
      frame fields first_known.registers first_known.fields tt in
      record {
        in_registers = leaves.in_registers;
        in_fields = leaves.in_fields;
        in_rows = leaves.in_rows;
        in_act = leaves.in_act;
      }
