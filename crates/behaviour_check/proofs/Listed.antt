-- The rules of registers and fields, over the operands as the code gives them.
use Rattle.std.proofs.Common.{◌≡◌, ℕ, Bool, true, false, ◌||◌, List, [], ◌∷◌, ◌++◌, map, Option, Some, None, nat_le, refl, ap, sym, ◌∙◌}
use Rattle.std.specs.List.{filter_map, list_any}
use Rattle.std.specs.Option.{option_to_list}
use Rattle.orca_names.specs.declared.limits.TheConstants.{REGISTERS}
use Rattle.behaviour_code.specs.Operands.{listed, operands_in}
use Rattle.behaviour_code.specs.declared.instr.Instr.{Instr}
use Rattle.behaviour_code.specs.declared.operand.Operand.{Operand}
use Rattle.behaviour_code.specs.declared.operand.Operand.TheVariants as O
use Rattle.behaviour_code.specs.declared.operand.Operands.{Operands}
use Rattle.behaviour_check.specs.Operands.{as_field, as_register}
use Rattle.behaviour_check.specs.Rules.{has_register_past, is_register_past}

first_past : (operand : Option Operand) (others : List Operand) →
    list_any (nat_le REGISTERS) (filter_map as_register (option_to_list operand ++ others))
    ≡ (is_register_past operand || list_any (nat_le REGISTERS) (filter_map as_register others))
first_past None others = refl
first_past (Some (O.Register r)) others = refl
first_past (Some (O.Field f)) others = refl
first_past (Some (O.Number n)) others = refl
first_past (Some (O.Name name)) others = refl

registers_behind : (numbers : List ℕ) → filter_map as_register (map O.Register numbers) ≡ numbers
registers_behind [] = refl
registers_behind (n ∷ ns) = ap (λ (xs : List ℕ). n ∷ xs) (registers_behind ns)

or_apart : (a b c d : Bool) → (a || (b || (c || d))) ≡ ((a || (b || (c || false))) || d)
or_apart true b c d = refl
or_apart false true c d = refl
or_apart false false true d = refl
or_apart false false false d = refl

-- a register past the last is one of the first operands, or stands behind them
pub registers_listed : (o : Operands) (i : Instr) → listed o ≡ operands_in i →
    has_register_past i ≡ (list_any is_register_past (o.first ∷ o.second ∷ o.third ∷ []) || list_any (nat_le REGISTERS) o.further.now)
registers_listed o i same =
    ap (λ (xs : List Operand). list_any (nat_le REGISTERS) (filter_map as_register xs)) (sym same)
    ∙ first_past o.first _
    ∙ ap (λ (b : Bool). is_register_past o.first || b)
    (first_past o.second _ ∙ ap (λ (b : Bool). is_register_past o.second || b)
    (first_past o.third _ ∙ ap (λ (xs : List ℕ). is_register_past o.third || list_any (nat_le REGISTERS) xs) (registers_behind o.further.now)))
    ∙ or_apart (is_register_past o.first) (is_register_past o.second) (is_register_past o.third) (list_any (nat_le REGISTERS) o.further.now)

-- where none of the first operands is one, those behind them decide
pub past_behind : (o : Operands) (i : Instr) → listed o ≡ operands_in i → list_any is_register_past (o.first ∷ o.second ∷ o.third ∷ []) ≡ false →
    list_any (nat_le REGISTERS) o.further.now ≡ has_register_past i
past_behind o i same none =
    sym (registers_listed o i same ∙ ap (λ (b : Bool). b || list_any (nat_le REGISTERS) o.further.now) none)

pub no_field_behind : (numbers : List ℕ) → filter_map as_field (map O.Register numbers) ≡ []
no_field_behind [] = refl
no_field_behind (n ∷ ns) = no_field_behind ns
