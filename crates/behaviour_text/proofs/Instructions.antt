-- The operands of an instruction are those of its operation.
use Rattle.std.proofs.Common.{◌≡◌, ℕ, List, [], ◌∷◌, map, refl, ap, sym, Option, Some, None, IfSome}
use Rattle.std.specs.Prelude.{⊤, slice_get}
use Rattle.std.specs.List.{AllByRecursion, filter_map}
use Rattle.behaviour_code.specs.Opcodes.{operand_kinds}
use Rattle.behaviour_code.specs.Operands.{opcode_of, operands_in}
use Rattle.behaviour_code.specs.WellFormed.{name_in, named_by}
use Rattle.behaviour_code.specs.declared.instr.Instr.{Instr}
use Rattle.behaviour_code.specs.declared.instr.Instr.TheVariants as I
use Rattle.behaviour_code.specs.declared.opcode.OperandKind.{OperandKind}
use Rattle.behaviour_code.specs.declared.opcode.OperandKind.TheVariants as P
use Rattle.behaviour_code.specs.declared.operand.Operand.{Operand}
use Rattle.behaviour_code.specs.declared.operand.Operand.TheVariants as O
use Rattle.behaviour_text.specs.Text.{operand_word, register}

abbrev pub operand_kind : Operand → OperandKind
operand_kind (O.Register n) = P.Register
operand_kind (O.Field n) = P.Field
operand_kind (O.Number n) = P.Number
operand_kind (O.Name name) = P.Name

-- each operand is of the kind of its place; past the kinds it is a register
abbrev pub Matches : List OperandKind → List Operand → Type 0
Matches kinds [] = ⊤
Matches [] (o ∷ os) = (operand_kind o ≡ P.Register) × Matches [] os
Matches (kind ∷ kinds) (o ∷ os) = (operand_kind o ≡ kind) × Matches kinds os

behind_match : (numbers : List ℕ) → Matches [] (map O.Register numbers)
behind_match [] = tt
behind_match (n ∷ ns) = (refl, behind_match ns)

row : (numbers : List ℕ) → Matches (P.Register ∷ []) (map O.Register numbers)
row [] = tt
row (n ∷ ns) = (refl, behind_match ns)

pub matches : (i : Instr) → Matches (operand_kinds (opcode_of i)) (operands_in i)
matches (I.Drop d) = (refl, tt)
matches (I.Int d n) = (refl, (refl, tt))
matches (I.Own d) = (refl, tt)
matches (I.Copy d s) = (refl, (refl, tt))
matches (I.Add d a b) = (refl, (refl, (refl, tt)))
matches (I.Row d values) = (refl, row values)
matches (I.Load d f) = (refl, (refl, tt))
matches (I.Store f s) = (refl, (refl, tt))
matches (I.Jump l) = (refl, tt)
matches (I.JumpZero a l) = (refl, (refl, tt))
matches (I.Label l) = (refl, tt)
matches I.Pin = tt
matches I.Unpin = tt
matches (I.New d k) = (refl, (refl, tt))
matches (I.Send to b values) = (refl, (refl, behind_match values))
matches (I.Print a) = (refl, tt)
matches i = (refl, (refl, (refl, tt)))

pub unnamed : (numbers : List ℕ) → filter_map named_by (map O.Register numbers) ≡ []
unnamed [] = refl
unnamed (n ∷ ns) = unnamed ns

none_named : (P : ℕ → Type 0) (numbers : List ℕ) → AllByRecursion (λ o. IfSome (named_by o) P) (map O.Register numbers)
none_named P [] = tt
none_named P (n ∷ ns) = (tt, none_named P ns)

-- a row has no name
pub row_unnamed : (numbers : List ℕ) → None ≡ slice_get (filter_map named_by (map O.Register numbers)) 0
row_unnamed numbers = ap (λ (names : List ℕ). slice_get names 0) (sym (unnamed numbers))

-- what holds of an instruction's name holds of each of its operands that is one
pub names_all : (P : ℕ → Type 0) (i : Instr) → IfSome (name_in i) P → AllByRecursion (λ o. IfSome (named_by o) P) (operands_in i)
names_all P (I.Drop d) h = (tt, tt)
names_all P (I.Int d n) h = (tt, (tt, tt))
names_all P (I.Own d) h = (tt, tt)
names_all P (I.Copy d s) h = (tt, (tt, tt))
names_all P (I.Add d a b) h = (tt, (tt, (tt, tt)))
names_all P (I.Row d values) h = (tt, none_named P values)
names_all P (I.Load d f) h = (tt, (tt, tt))
names_all P (I.Store f s) h = (tt, (tt, tt))
names_all P (I.Jump l) h = (h, tt)
names_all P (I.JumpZero a l) h = (tt, (h, tt))
names_all P (I.Label l) h = (h, tt)
names_all P I.Pin h = tt
names_all P I.Unpin h = tt
names_all P (I.New d k) h = (tt, (h, tt))
names_all P (I.Send to b values) h = (tt, (h, none_named P values))
names_all P (I.Print a) h = (tt, tt)
names_all P i h = (tt, (tt, (tt, tt)))

pub words_behind : (text : ℕ → List ℕ) (numbers : List ℕ) → map (operand_word text) (map O.Register numbers) ≡ map register numbers
words_behind text [] = refl
words_behind text (n ∷ ns) = ap (λ (ws : List (List ℕ)). register n ∷ ws) (words_behind text ns)

pub if_some_weaker : (P Q : ℕ → Type 0) (o : Option ℕ) → ((n : ℕ) → P n → Q n) → IfSome o P → IfSome o Q
if_some_weaker P Q None f h = tt
if_some_weaker P Q (Some n) f h = f n h
