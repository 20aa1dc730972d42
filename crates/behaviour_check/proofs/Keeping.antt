-- No rule fails exactly where the program keeps the rules.
use Rattle.std.proofs.Common.{◌≡◌, ◌↔◌, ◌==◌, ℕ, ◌+◌, ◌-◌, Bool, true, false, List, [], ◌∷◌, drop, take, ap, refl, sym, ◌∙◌, None, Some, Option, is_some, if◌then◌else◌, arith}
use Rattle.std.specs.List.{All, flat_map, list_any, slice_get}
use Rattle.orca_names.specs.declared.limits.TheConstants.{REGISTERS}
use Rattle.behaviour_check.specs.Operands.{field_in, registers_in}
use Rattle.behaviour_code.specs.Find.{is_kind, start_name, behaviours_of}
use Rattle.behaviour_code.specs.declared.instr.Instr.{Instr}
use Rattle.behaviour_code.specs.declared.code.Behaviour.{Behaviour}
use Rattle.behaviour_code.specs.declared.code.Kind.{Kind}
use Rattle.behaviour_code.specs.declared.code.Program.{Program}
use Rattle.behaviour_check.specs.Keeps.{AllBodies, BehavioursDiffer, HasField, HasRegisters, JumpsAhead, KeepsRules, LabelsDiffer, MakesKnown}
use Rattle.behaviour_check.specs.Rules.{after, at_place, before, behaviour_faults, faults, first_broken, has_field_past, has_register_past, instr_rule, jumps_nowhere, kind_faults, makes_unknown, name_rule, numbered, repeats_label, start_rule, step_faults}
use Rattle.behaviour_check.specs.declared.checked.CheckFault.{CheckFault}
use Rattle.behaviour_check.specs.declared.rule.Rule.{Rule}
use Rattle.behaviour_check.specs.declared.rule.Rule.TheVariants as R
use Rattle.behaviour_check.proofs.Places.{AreEmpty, All_by_place, All-slice_get, all_give_nothing, both_empty, empty_append, gives_nothing}
use Rattle.behaviour_check.proofs.RuleWords.{field_is_there, finds_the_start, jumps_ahead, labels_differ, makes_known, names_differ, no_field_past, no_jump_nowhere, no_label_before, no_name_before, no_register_past, no_unknown_made, registers_are_there, start_is_there}

-- no rule fails at an instruction
pub record InstrKeeps (kinds : List Kind) (fields : ℕ) (body : List Instr) (s : ℕ)
    (i : Instr) : Type 0 where
  pub label : repeats_label (take s body) i ≡ false
  pub makes : makes_unknown kinds i ≡ false
  pub jumps : jumps_nowhere (drop (s + 1) body) i ≡ false
  pub registers : has_register_past i ≡ false
  pub field : has_field_past fields i ≡ false

-- nor at a behaviour and its instructions
pub record BehaviourKeeps (kinds : List Kind) (kind : Kind) (m : ℕ) (b : Behaviour) : Type 0 where
  pub name : list_any (λ c. c.name == b.name) (take m kind.behaviours) ≡ false
  pub steps : (s : ℕ) (i : Instr) → slice_get b.body s ≡ Some i → InstrKeeps kinds kind.fields b.body s i

-- nor at a kind and its behaviours
pub record KindKeeps (kinds : List Kind) (n : ℕ) (kind : Kind) : Type 0 where
  pub name : list_any (is_kind kind.name) (take n kinds) ≡ false
  pub behaviours : (m : ℕ) (b : Behaviour) → slice_get kind.behaviours m ≡ Some b →
      BehaviourKeeps kinds kind m b

no_rule : (k b s : ℕ) (rule : Option Rule) → at_place k b s rule ≡ [] → rule ≡ None
no_rule k b s None h = refl
no_rule k b s (Some rule) h = cc

no_fault : (k b s : ℕ) (rule : Option Rule) → rule ≡ None → at_place k b s rule ≡ []
no_fault k b s rule h = ap (at_place k b s) h

name_before : {X : Type 0} (k b : ℕ) (test : X → Bool) (n : ℕ) (xs : List X) →
    at_place k b 0 (name_rule (list_any test (before (1 + n) xs))) ≡ [] → list_any test (take n xs) ≡ false
name_before k b test n xs h =
    let number : 1 + n - 1 ≡ n = omega arith in
    ap (λ (m : ℕ). list_any test (take m xs)) (sym number)
    ∙ not_again (list_any test (before (1 + n) xs)) (no_rule k b 0 _ h)
  where
    not_again : (again : Bool) → name_rule again ≡ None → again ≡ false
    not_again false e = refl
    not_again true e = cc

no_name_fault : {X : Type 0} (k b : ℕ) (test : X → Bool) (n : ℕ) (xs : List X) →
    list_any test (take n xs) ≡ false → at_place k b 0 (name_rule (list_any test (before (1 + n) xs))) ≡ []
no_name_fault k b test n xs h =
    let number : 1 + n - 1 ≡ n = omega arith in
    ap (λ (again : Bool). at_place k b 0 (name_rule again))
    (ap (λ (m : ℕ). list_any test (take m xs)) number ∙ h)

-- instructions

-- the rule of the first of five tests that is passed
lowest : Bool → Bool → Bool → Bool → Bool → Option Rule
lowest a b c d e =
    if a then Some R.NamedOnce
    else (if b then Some R.KnownKind
    else (if c then Some R.LabelAhead
    else (if d then Some R.Registers
    else (if e then Some R.Fields else None))))

lowest_none : (a b c d e : Bool) → lowest a b c d e ≡ None →
    (a ≡ false) × (b ≡ false) × (c ≡ false) × (d ≡ false) × (e ≡ false)
unfolding lowest
lowest_none true b c d e h = cc
lowest_none false true c d e h = cc
lowest_none false false true d e h = cc
lowest_none false false false true e h = cc
lowest_none false false false false true h = cc
lowest_none false false false false false h = (refl, refl, refl, refl, refl)

step_keeps : (kinds : List Kind) (k : ℕ) (kind : Kind) (b : ℕ) (behaviour : Behaviour) (s : ℕ) (i : Instr) →
    step_faults kinds (k, kind) (b, behaviour) (1 + s, i) ≡ [] →
    InstrKeeps kinds kind.fields behaviour.body s i
unfolding lowest instr_rule
step_keeps kinds k kind b behaviour s i h =
    let body = behaviour.body in
    let number : 1 + s - 1 ≡ s = omega arith in
    let next : 1 + s ≡ s + 1 = omega arith in
    let fails = lowest_none _ _ _ _ _ (no_rule k b (1 + s) _ h) in
    record {
      label = ap (λ (n : ℕ). repeats_label (take n body) i) (sym number) ∙ fails.0;
      makes = fails.1;
      jumps = ap (λ (n : ℕ). jumps_nowhere (drop n body) i) (sym next) ∙ fails.2;
      registers = fails.3;
      field = fails.4;
    }

no_step_fault : (kinds : List Kind) (k : ℕ) (kind : Kind) (b : ℕ) (behaviour : Behaviour) (s : ℕ)
    (i : Instr) →
    InstrKeeps kinds kind.fields behaviour.body s i →
    step_faults kinds (k, kind) (b, behaviour) (1 + s, i) ≡ []
unfolding instr_rule
no_step_fault kinds k kind b behaviour s i h =
    let body = behaviour.body in
    let number : 1 + s - 1 ≡ s = omega arith in
    let next : 1 + s ≡ s + 1 = omega arith in
    let label : repeats_label (before (1 + s) body) i ≡ false =
    ap (λ (n : ℕ). repeats_label (take n body) i) number ∙ h.label in
    let jumps : jumps_nowhere (after (1 + s) body) i ≡ false =
    ap (λ (n : ℕ). jumps_nowhere (drop n body) i) next ∙ h.jumps in
    no_fault k b (1 + s) _ (rw (label, h.makes, jumps, h.registers, h.field))

-- behaviours, kinds and the program

behaviour_keeps : (kinds : List Kind) (k : ℕ) (kind : Kind) (m : ℕ) (b : Behaviour) →
    behaviour_faults kinds (k, kind) (1 + m, b) ≡ [] → BehaviourKeeps kinds kind m b
behaviour_keeps kinds k kind m b h =
    let parts = both_empty _ _ h in
    record {
      name = name_before k (1 + m) (λ c. c.name == b.name) m kind.behaviours parts.first;
      steps = λ s i found. step_keeps kinds k kind (1 + m) b s i
          (gives_nothing (step_faults kinds (k, kind) (1 + m, b)) 1 b.body parts.second s i found);
    }

no_behaviour_fault : (kinds : List Kind) (k : ℕ) (kind : Kind) (m : ℕ) (b : Behaviour) →
    BehaviourKeeps kinds kind m b → behaviour_faults kinds (k, kind) (1 + m, b) ≡ []
no_behaviour_fault kinds k kind m b h = empty_append _ _ (record {
  first = no_name_fault k (1 + m) (λ c. c.name == b.name) m kind.behaviours h.name;
  second = all_give_nothing (step_faults kinds (k, kind) (1 + m, b)) 1 b.body
      (λ s i found. no_step_fault kinds k kind (1 + m) b s i (h.steps s i found));
})

kind_keeps : (kinds : List Kind) (n : ℕ) (kind : Kind) → kind_faults kinds (1 + n, kind) ≡ [] →
    KindKeeps kinds n kind
kind_keeps kinds n kind h =
    let parts = both_empty _ _ h in
    record {
      name = name_before (1 + n) 0 (is_kind kind.name) n kinds parts.first;
      behaviours = λ m b found. behaviour_keeps kinds (1 + n) kind m b
          (gives_nothing (behaviour_faults kinds (1 + n, kind)) 1 kind.behaviours parts.second m b found);
    }

no_kind_fault : (kinds : List Kind) (n : ℕ) (kind : Kind) → KindKeeps kinds n kind →
    kind_faults kinds (1 + n, kind) ≡ []
no_kind_fault kinds n kind h = empty_append _ _ (record {
  first = no_name_fault (1 + n) 0 (is_kind kind.name) n kinds h.name;
  second = all_give_nothing (behaviour_faults kinds (1 + n, kind)) 1 kind.behaviours
      (λ m b found. no_behaviour_fault kinds (1 + n) kind m b (h.behaviours m b found));
})

-- facts of all bodies, told by place

-- a fact of each behaviour of each kind, both found at their places
abbrev pub EachPlaced : (Kind → List Instr → Type 0) → Program → Type 0
EachPlaced P p = (n : ℕ) (k : Kind) → slice_get p.kinds n ≡ Some k → (m : ℕ) (b : Behaviour) →
    slice_get k.behaviours m ≡ Some b → P k b.body

all_bodies : (P : Kind → List Instr → Type 0) (p : Program) → EachPlaced P p → AllBodies P p
all_bodies P p h = All_by_place (λ (k : Kind). All (λ b. P k b.body) k.behaviours) p.kinds (λ n k found.
    All_by_place (λ (b : Behaviour). P k b.body) k.behaviours (h n k found))

pub each_placed : (P : Kind → List Instr → Type 0) (p : Program) → AllBodies P p → EachPlaced P p
each_placed P p all n k found = All-slice_get (λ (b : Behaviour). P k b.body) k.behaviours
    (All-slice_get (λ (k : Kind). All (λ b. P k b.body) k.behaviours) p.kinds all n k found)

-- the whole program

abbrev rule_one : Bool → Option Rule
rule_one there = if there then None else Some R.Start

none_first : (xs : List CheckFault) → slice_get xs 0 ≡ None → xs ≡ []
none_first [] h = refl
none_first (x ∷ xs) h = cc

keeps : (p : Program) → first_broken p ≡ None → KeepsRules p
unfolding first_broken
keeps p h = record {
  start = start_is_there p.names (behaviours_of p 0)
      (started (is_some (start_name p)) (no_rule 0 0 0 _ parts.first));
  names = record {
    kinds = names_differ (λ k. k.name) p.kinds (λ n k found. (kind n k found).name);
    behaviours = All_by_place BehavioursDiffer p.kinds (λ n k found.
        names_differ (λ b. b.name) k.behaviours (λ m b has. ((kind n k found).behaviours m b has).name));
    labels = all_bodies (λ _ body. LabelsDiffer body) p
        (λ n k found m b has. labels_differ b.body (λ s i at. (step n k found m b has s i at).label));
  };
  makes = all_bodies (λ _ body. MakesKnown p.kinds body) p
      (λ n k found m b has. makes_known p.kinds b.body (λ s i at. (step n k found m b has s i at).makes));
  jumps = all_bodies (λ _ body. JumpsAhead body) p
      (λ n k found m b has. jumps_ahead b.body (λ s i at. (step n k found m b has s i at).jumps));
  registers = all_bodies (λ _ body. All HasRegisters body) p
      (λ n k found m b has. All_by_place HasRegisters b.body (λ s i at.
      registers_are_there REGISTERS (registers_in i) (step n k found m b has s i at).registers));
  fields = all_bodies (λ k body. All (HasField k.fields) body) p
      (λ n k found m b has. All_by_place (HasField k.fields) b.body (λ s i at.
      field_is_there k.fields (field_in i) (step n k found m b has s i at).field));
}
  where
    parts : AreEmpty (at_place 0 0 0 (start_rule p)) (flat_map (kind_faults p.kinds) (numbered p.kinds))
    parts = both_empty _ _ (none_first (faults p) h)

    started : (b : Bool) → rule_one b ≡ None → b ≡ true
    started true e = refl
    started false e = cc

    kind : (n : ℕ) (k : Kind) → slice_get p.kinds n ≡ Some k → KindKeeps p.kinds n k
    kind n k found = kind_keeps p.kinds n k
        (gives_nothing (kind_faults p.kinds) 1 p.kinds parts.second n k found)

    step : (n : ℕ) (k : Kind) → slice_get p.kinds n ≡ Some k → (m : ℕ) (b : Behaviour) →
        slice_get k.behaviours m ≡ Some b →
        (s : ℕ) (i : Instr) → slice_get b.body s ≡ Some i → InstrKeeps p.kinds k.fields b.body s i
    step n k found m b has = ((kind n k found).behaviours m b has).steps

accepted : (p : Program) → KeepsRules p → first_broken p ≡ None
unfolding first_broken
accepted p h = ap (λ (xs : List CheckFault). slice_get xs 0) (empty_append _ _ (record {
  first = no_fault 0 0 0 _ (ap rule_one (finds_the_start p.names (behaviours_of p 0) h.start));
  second = all_give_nothing (kind_faults p.kinds) 1 p.kinds
      (λ n k found. no_kind_fault p.kinds n k (kind n k found));
}))
  where
    instr : (n : ℕ) (k : Kind) → slice_get p.kinds n ≡ Some k → (m : ℕ) (b : Behaviour) →
        slice_get k.behaviours m ≡ Some b →
        (s : ℕ) (i : Instr) → slice_get b.body s ≡ Some i → InstrKeeps p.kinds k.fields b.body s i
    instr n k found m b has s i at = record {
      label = no_label_before b.body
          (each_placed (λ _ body. LabelsDiffer body) p h.names.labels n k found m b has) s i at;
      makes = no_unknown_made p.kinds b.body
          (each_placed (λ _ body. MakesKnown p.kinds body) p h.makes n k found m b has) s i at;
      jumps = no_jump_nowhere b.body
          (each_placed (λ _ body. JumpsAhead body) p h.jumps n k found m b has) s i at;
      registers = no_register_past REGISTERS (registers_in i)
          (All-slice_get HasRegisters b.body
          (each_placed (λ _ body. All HasRegisters body) p h.registers n k found m b has) s i at);
      field = no_field_past k.fields (field_in i)
          (All-slice_get (HasField k.fields) b.body
          (each_placed (λ k body. All (HasField k.fields) body) p h.fields n k found m b has) s i at);
    }

    kind : (n : ℕ) (k : Kind) → slice_get p.kinds n ≡ Some k → KindKeeps p.kinds n k
    kind n k found = record {
      name = no_name_before (λ k. k.name) p.kinds h.names.kinds n k found;
      behaviours = λ m b has. record {
        name = no_name_before (λ b. b.name) k.behaviours
            (All-slice_get BehavioursDiffer p.kinds h.names.behaviours n k found) m b has;
        steps = instr n k found m b has;
      };
    }

pub accepts_exactly : (p : Program) → (first_broken p ≡ None) ↔ KeepsRules p
accepts_exactly p = (keeps p, accepted p)
