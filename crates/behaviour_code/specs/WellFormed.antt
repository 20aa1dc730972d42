-- Well-formed programs: those that some text gives.
use Rattle.std.specs.Prelude.{ℕ, ◌≡◌, ◌+◌, ◌<◌, ◌≤◌, ◌^◌, List, [], ◌∷◌, Option, Some, None, IfSome, length, slice_get, true, ⊤}
use Rattle.std.specs.List.{AllByRecursion, filter_map}
use Rattle.orca_names.specs.declared.limits.TheConstants.{BEHAVIOURS_LIMIT, BODY_LIMIT, FIELDS_LIMIT, KINDS_LIMIT, VALUES_LIMIT}
use Rattle.behaviour_code.specs.Names.{is_name, text_of, with_text}
use Rattle.behaviour_code.specs.Opcodes.{most_further, operand_kinds}
use Rattle.behaviour_code.specs.Operands.{opcode_of, operands_in}
use Rattle.behaviour_code.specs.declared.instr.Instr.{Instr}
use Rattle.behaviour_code.specs.declared.operand.Operand.{Operand}
use Rattle.behaviour_code.specs.declared.operand.Operand.TheVariants as O
use Rattle.behaviour_code.specs.declared.code.Behaviour.{Behaviour}
use Rattle.behaviour_code.specs.declared.code.Kind.{Kind}
use Rattle.behaviour_code.specs.declared.code.Program.{Program}

-- the number has 64 bits
abbrev pub Fits64 : ℕ → Type 0
Fits64 n = n < 2 ^ 64

-- its number has 64 bits
abbrev pub OperandFits : Operand → Type 0
OperandFits (O.Register n) = Fits64 n
OperandFits (O.Field n) = Fits64 n
OperandFits (O.Number n) = Fits64 n
OperandFits (O.Name name) = ⊤

-- it has as many operands as its operation may have
abbrev pub HasItsCount : Instr → Type 0
HasItsCount i =
    (length (operand_kinds (opcode_of i)) ≤ length (operands_in i))
    × (length (operands_in i) ≤ length (operand_kinds (opcode_of i)) + most_further (opcode_of i))

-- the numbers of an instruction have 64 bits, and its operands are as many as it may have
abbrev pub InstrFits : Instr → Type 0
InstrFits i = HasItsCount i × AllByRecursion OperandFits (operands_in i)

-- the name that an operand is
abbrev pub named_by : Operand → Option ℕ
named_by (O.Name name) = Some name
named_by _ = None

-- the name in an instruction
abbrev pub name_in : Instr → Option ℕ
name_in i = slice_get (filter_map named_by (operands_in i)) 0

-- each text has one name
pub record AreApart (texts : List (List ℕ)) : Type 0 where
  pub apart : (m n : ℕ) → m < length texts → n < length texts → text_of texts m ≡ text_of texts n
      → m ≡ n

-- the name has a text, which has a name's form
pub record NameFits (texts : List (List ℕ)) (name : ℕ) : Type 0 where
  pub within : name < length texts
  pub form : is_name (text_of texts name) ≡ true

-- the texts after an instruction was read, where each name has its text by `text`
abbrev pub instr_names : (ℕ → List ℕ) → List (List ℕ) → Option ℕ → List (List ℕ)
instr_names text texts None = texts
instr_names text texts (Some name) = with_text texts (text name)

-- the texts after a body, after behaviours, after kinds were read
abbrev pub body_names : (ℕ → List ℕ) → List (List ℕ) → List Instr → List (List ℕ)
body_names text texts [] = texts
body_names text texts (i ∷ is) = body_names text (instr_names text texts (name_in i)) is

abbrev pub behaviours_names : (ℕ → List ℕ) → List (List ℕ) → List Behaviour → List (List ℕ)
behaviours_names text texts [] = texts
behaviours_names text texts (b ∷ bs) =
    behaviours_names text (body_names text (with_text texts (text b.name)) b.body) bs

abbrev pub kinds_names : (ℕ → List ℕ) → List (List ℕ) → List Kind → List (List ℕ)
kinds_names text texts [] = texts
kinds_names text texts (k ∷ ks) =
    kinds_names text (behaviours_names text (with_text texts (text k.name)) k.behaviours) ks

pub record InstrIsWellFormed (texts : List (List ℕ)) (i : Instr) : Type 0 where
  pub fits : InstrFits i
  pub named : IfSome (name_in i) (NameFits texts)

pub record BehaviourIsWellFormed (texts : List (List ℕ)) (b : Behaviour) : Type 0 where
  pub named : NameFits texts b.name
  pub parameters : b.parameters ≤ VALUES_LIMIT
  pub short : length b.body ≤ BODY_LIMIT
  pub body : AllByRecursion (InstrIsWellFormed texts) b.body

pub record KindIsWellFormed (texts : List (List ℕ)) (k : Kind) : Type 0 where
  pub named : NameFits texts k.name
  pub fields : k.fields ≤ FIELDS_LIMIT
  pub few : length k.behaviours ≤ BEHAVIOURS_LIMIT
  pub behaviours : AllByRecursion (BehaviourIsWellFormed texts) k.behaviours

-- it keeps the limits, its names have texts, each text once, and they stand in the order in
-- which they come first
pub record IsWellFormed (p : Program) : Type 0 where
  pub few : length p.kinds ≤ KINDS_LIMIT
  pub kinds : AllByRecursion (KindIsWellFormed p.names) p.kinds
  pub apart : AreApart p.names
  pub in_order : kinds_names (text_of p.names) [] p.kinds ≡ p.names
