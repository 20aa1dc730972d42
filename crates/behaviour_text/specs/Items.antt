-- What the operands of a line say.
use Rattle.std.specs.Prelude.{ℕ, List, [], ◌∷◌, Option, Some, None, map, drop}
use Rattle.behaviour_code.specs.declared.instr.Instr.{Instr}
use Rattle.behaviour_code.specs.declared.instr.Instr.TheVariants as I
use Rattle.behaviour_text.specs.Words.{word_at, number_at, number_of}
use Rattle.behaviour_text.specs.declared.table.LineWord.{LineWord}
use Rattle.behaviour_text.specs.declared.table.LineWord.TheVariants as W
use Rattle.behaviour_code.specs.declared.opcode.Opcode.{Opcode}
use Rattle.behaviour_code.specs.declared.opcode.Opcode.TheVariants as C
use Rattle.behaviour_code.specs.declared.opcode.OperandKind.{OperandKind}
use Rattle.behaviour_code.specs.declared.opcode.OperandKind.TheVariants as P

-- the number behind the letter of a register or a field
abbrev pub register_of : List ℕ → ℕ
register_of word = number_of (drop 1 word)

abbrev pub register_at : List (List ℕ) → ℕ → ℕ
register_at words i = register_of (word_at words i)

-- the number that an operand says, 0 for a name
abbrev pub operand_number : OperandKind → List ℕ → ℕ
operand_number P.Register word = register_of word
operand_number P.Field word = register_of word
operand_number P.Number word = number_of word
operand_number P.Name word = 0

-- the numbers of some operands; those past the table's are registers
abbrev pub operand_numbers : List OperandKind → List (List ℕ) → List ℕ
operand_numbers operands [] = []
operand_numbers [] (word ∷ words) = register_of word ∷ operand_numbers [] words
operand_numbers (operand ∷ operands) (word ∷ words) =
    operand_number operand word ∷ operand_numbers operands words

-- the instruction of a line, whose name has this number
unfoldable pub instr_of : Opcode → ℕ → List (List ℕ) → Instr
instr_of C.Drop name ws = I.Drop (register_at ws 0)
instr_of C.Int name ws = I.Int (register_at ws 0) (number_at ws 1)
instr_of C.Own name ws = I.Own (register_at ws 0)
instr_of C.Copy name ws = I.Copy (register_at ws 0) (register_at ws 1)
instr_of C.Add name ws = I.Add (register_at ws 0) (register_at ws 1) (register_at ws 2)
instr_of C.Sub name ws = I.Sub (register_at ws 0) (register_at ws 1) (register_at ws 2)
instr_of C.Mul name ws = I.Mul (register_at ws 0) (register_at ws 1) (register_at ws 2)
instr_of C.Less name ws = I.Less (register_at ws 0) (register_at ws 1) (register_at ws 2)
instr_of C.Same name ws = I.Same (register_at ws 0) (register_at ws 1) (register_at ws 2)
instr_of C.Row name ws = I.Row (register_at ws 0) (map register_of (drop 1 ws))
instr_of C.Get name ws = I.Get (register_at ws 0) (register_at ws 1) (number_at ws 2)
instr_of C.Load name ws = I.Load (register_at ws 0) (register_at ws 1)
instr_of C.Store name ws = I.Store (register_at ws 0) (register_at ws 1)
instr_of C.Jump name ws = I.Jump name
instr_of C.JumpZero name ws = I.JumpZero (register_at ws 0) name
instr_of C.Label name ws = I.Label name
instr_of C.Pin name ws = I.Pin
instr_of C.Unpin name ws = I.Unpin
instr_of C.New name ws = I.New (register_at ws 0) name
instr_of C.Send name ws = I.Send (register_at ws 0) name (map register_of (drop 2 ws))
instr_of C.Print name ws = I.Print (register_at ws 0)

-- which operand of a line is its name
abbrev pub name_place : LineWord → Option ℕ
name_place W.Kind = Some 0
name_place W.On = Some 0
name_place (W.Instr C.Jump) = Some 0
name_place (W.Instr C.Label) = Some 0
name_place (W.Instr C.JumpZero) = Some 1
name_place (W.Instr C.New) = Some 1
name_place (W.Instr C.Send) = Some 1
name_place _ = None
