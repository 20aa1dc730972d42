-- The six rules, each in its own words.
use Rattle.std.specs.Prelude.{ℕ, ◌≡◌, ◌≢◌, ◌<◌, List, Some, All, AllPairs, Any, Contains, IfSome, codes, map, slice_get}
use Rattle.orca_names.specs.declared.limits.TheConstants.{REGISTERS}
use Rattle.behaviour_code.specs.Find.{behaviours_of}
use Rattle.behaviour_code.specs.Names.{text_of}
use Rattle.behaviour_code.specs.declared.instr.Instr.{Instr}
use Rattle.behaviour_code.specs.declared.instr.Instr.TheVariants as I
use Rattle.behaviour_code.specs.declared.code.Behaviour.{Behaviour}
use Rattle.behaviour_code.specs.declared.code.Kind.{Kind}
use Rattle.behaviour_code.specs.declared.code.Program.{Program}
use Rattle.behaviour_check.specs.Operands.{field_in, registers_in, target_of}

-- the behaviour is `start`, without parameters
abbrev pub IsStart : List (List ℕ) → Behaviour → Type 0
IsStart texts b = (text_of texts b.name ≡ codes "start") × (b.parameters ≡ 0)

-- not both instructions are this one
abbrev pub AreNotBoth : Instr → Instr → Instr → Type 0
AreNotBoth this i j = i ≡ this → j ≢ this

-- each label is given once
abbrev pub LabelsDiffer : List Instr → Type 0
LabelsDiffer body = (name : ℕ) → AllPairs (AreNotBoth (I.Label name)) body

-- an actor is made of a kind that there is
abbrev pub MakesKnown : List Kind → List Instr → Type 0
MakesKnown kinds body =
    (register name : ℕ) → Contains body (I.New register name)
    → Contains (map (λ k. k.name) kinds) name

-- where an instruction jumps to a label, that label stands later
abbrev pub JumpsAhead : List Instr → Type 0
JumpsAhead body =
    (place label : ℕ) (i : Instr) → slice_get body place ≡ Some i → target_of i ≡ Some label →
    (later : ℕ) × (place < later) × (slice_get body later ≡ Some (I.Label label))

-- its registers are those of a frame
abbrev pub HasRegisters : Instr → Type 0
HasRegisters i = All (λ r. r < REGISTERS) (registers_in i)

-- its field, if it has one, is one of so many
abbrev pub HasField : ℕ → Instr → Type 0
HasField fields i = IfSome (field_in i) (λ f. f < fields)

-- no two behaviours of the kind have one name
abbrev pub BehavioursDiffer : Kind → Type 0
BehavioursDiffer k = AllPairs (λ b c. b.name ≢ c.name) k.behaviours

-- a fact of the instructions of each behaviour, with its kind
abbrev pub AllBodies : (Kind → List Instr → Type 0) → Program → Type 0
AllBodies P p = All (λ k. All (λ b. P k b.body) k.behaviours) p.kinds

-- no two kinds, no two behaviours of a kind and no two labels of a behaviour have one name
pub record HasNoNameTwice (p : Program) : Type 0 where
  pub kinds : AllPairs (λ k l. k.name ≢ l.name) p.kinds
  pub behaviours : All BehavioursDiffer p.kinds
  pub labels : AllBodies (λ _ body. LabelsDiffer body) p

-- the program keeps the rules: the first kind has its `start`; names are given once; actors are made
-- of known kinds; jumps go ahead; registers and fields are there
pub record KeepsRules (p : Program) : Type 0 where
  pub start : Any (IsStart p.names) (behaviours_of p 0)
  pub names : HasNoNameTwice p
  pub makes : AllBodies (λ _ body. MakesKnown p.kinds body) p
  pub jumps : AllBodies (λ _ body. JumpsAhead body) p
  pub registers : AllBodies (λ _ body. All HasRegisters body) p
  pub fields : AllBodies (λ k body. All (HasField k.fields) body) p
