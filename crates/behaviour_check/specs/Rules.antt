-- All places where a rule fails, with the lowest rule there, and the first of them.
use Rattle.std.specs.Prelude.{ℕ, ◌≡◌, ◌-◌, Bool, false, List, ◌++◌, ◌==◌, Option, Some, None, nat_le, not, if◌then◌else◌, is_some, option_map, drop, slice_get, take}
use Rattle.std.specs.List.{enumerate_from, flat_map, list_any}
use Rattle.std.specs.Option.{option_and_then, option_map_or, option_to_list}
use Rattle.orca_names.specs.declared.limits.TheConstants.{REGISTERS}
use Rattle.behaviour_code.specs.Find.{is_kind, is_label, start_name}
use Rattle.behaviour_code.specs.WellFormed.{IsWellFormed}
use Rattle.behaviour_code.specs.declared.instr.Instr.{Instr}
use Rattle.behaviour_code.specs.declared.instr.Instr.TheVariants as I
use Rattle.behaviour_code.specs.declared.code.Behaviour.{Behaviour}
use Rattle.behaviour_code.specs.declared.code.Kind.{Kind}
use Rattle.behaviour_code.specs.declared.code.Program.{Program}
use Rattle.behaviour_code.specs.declared.operand.Operand.{Operand}
use Rattle.behaviour_check.specs.Numbers.{number_of}
use Rattle.behaviour_check.specs.Operands.{as_register, field_in, registers_in, target_of}
use Rattle.behaviour_check.specs.declared.checked.CheckFault.{CheckFault}
use Rattle.behaviour_check.specs.declared.rule.Rule.{Rule}
use Rattle.behaviour_check.specs.declared.rule.Rule.TheVariants as R

-- the elements with their numbers, which begin at 1
abbrev pub numbered : {X : Type 0} → List X → List (ℕ × X)
numbered xs = enumerate_from 1 xs

-- what stands before the element of this number
abbrev pub before : {X : Type 0} → ℕ → List X → List X
before n xs = take (n - 1) xs

-- what stands after it
abbrev pub after : {X : Type 0} → ℕ → List X → List X
after n xs = drop n xs

-- rule 1: the first kind has a behaviour `start` without parameters
abbrev pub start_rule : Program → Option Rule
start_rule p = if is_some (start_name p) then None else Some R.Start

-- rule 2 at a name: it was given before
abbrev pub name_rule : Bool → Option Rule
name_rule again = if again then Some R.NamedOnce else None

-- rule 2 at a label
abbrev pub repeats_label : List Instr → Instr → Bool
repeats_label earlier (I.Label l) = list_any (is_label l) earlier
repeats_label earlier _ = false

-- rule 3: an actor of an unknown kind is made
abbrev pub makes_unknown : List Kind → Instr → Bool
makes_unknown kinds (I.New d name) = not (list_any (is_kind name) kinds)
makes_unknown kinds _ = false

-- rule 4: a jump whose label does not stand later in the behaviour
abbrev pub jumps_nowhere : List Instr → Instr → Bool
jumps_nowhere later i = option_map_or (λ l. not (list_any (is_label l) later)) (target_of i) false

-- an operand that may be there is a register past the last
abbrev pub is_register_past : Option Operand → Bool
is_register_past operand =
    option_map_or (nat_le REGISTERS) (option_and_then as_register operand) false

-- rule 5: a register past the last
abbrev pub has_register_past : Instr → Bool
has_register_past i = list_any (nat_le REGISTERS) (registers_in i)

-- rule 6: a field that the kind lacks
abbrev pub has_field_past : ℕ → Instr → Bool
has_field_past fields i = option_map_or (nat_le fields) (field_in i) false

-- the lowest rule that fails at an instruction between earlier and later ones
unfoldable pub instr_rule : List Kind → ℕ → List Instr → Instr → List Instr → Option Rule
instr_rule kinds fields earlier i later =
    if repeats_label earlier i then Some R.NamedOnce
    else (if makes_unknown kinds i then Some R.KnownKind
    else (if jumps_nowhere later i then Some R.LabelAhead
    else (if has_register_past i then Some R.Registers
    else (if has_field_past fields i then Some R.Fields else None))))

-- a rule of this number fails at this place
abbrev pub fault_at : ℕ → ℕ → ℕ → ℕ → CheckFault
fault_at kind behaviour step rule =
    record { kind = kind; behaviour = behaviour; step = step; rule = rule }

-- the fault of a place, none where no rule fails there
abbrev pub at_place : ℕ → ℕ → ℕ → Option Rule → List CheckFault
at_place kind behaviour step rule =
    option_to_list (option_map (λ r. fault_at kind behaviour step (number_of r)) rule)

-- the fault of an instruction
abbrev pub step_faults : List Kind → ℕ × Kind → ℕ × Behaviour → ℕ × Instr → List CheckFault
step_faults kinds (k, kind) (b, behaviour) (s, i) =
    at_place k b s (instr_rule kinds kind.fields (before s behaviour.body) i (after s behaviour.body))

-- the faults of a behaviour: of its `on` line, and of its instructions
abbrev pub behaviour_faults : List Kind → ℕ × Kind → ℕ × Behaviour → List CheckFault
behaviour_faults kinds (k, kind) (b, behaviour) =
    at_place k b 0 (name_rule (list_any (λ c. c.name == behaviour.name) (before b kind.behaviours)))
    ++ flat_map (step_faults kinds (k, kind) (b, behaviour)) (numbered behaviour.body)

-- the faults of a kind: of its own line, and of its behaviours
abbrev pub kind_faults : List Kind → ℕ × Kind → List CheckFault
kind_faults kinds (k, kind) =
    at_place k 0 0 (name_rule (list_any (is_kind kind.name) (before k kinds)))
    ++ flat_map (behaviour_faults kinds (k, kind)) (numbered kind.behaviours)

-- all faults of a program, in the order of their places
abbrev pub faults : Program → List CheckFault
faults p = at_place 0 0 0 (start_rule p) ++ flat_map (kind_faults p.kinds) (numbered p.kinds)

-- the first place where a rule fails, with the lowest rule there
unfoldable pub first_broken : Program → Option CheckFault
first_broken p = slice_get (faults p) 0

-- a program that some text gives, and that keeps the rules
pub record IsChecked (p : Program) : Type 0 where
  pub good : IsWellFormed p
  pub kept : first_broken p ≡ None
