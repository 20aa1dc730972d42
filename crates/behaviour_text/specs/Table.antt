-- The table of lines: their first words, and the operands behind these.
use Rattle.std.specs.Prelude.{ℕ, ◌+◌, Bool, false, List, [], ◌∷◌, ◌==◌, ◌&&◌, Option, Some, None, nat_le, is_some, if◌then◌else◌, length, drop, find, bytes_eq, codes, map}
use Rattle.behaviour_code.specs.Names.{is_name}
use Rattle.behaviour_code.specs.Opcodes.{all_opcodes, most_further, operand_kinds, spelling}
use Rattle.behaviour_text.specs.Kinds.{lowest}
use Rattle.behaviour_text.specs.Words.{numeral}
use Rattle.behaviour_text.specs.declared.errors.FaultKind.{FaultKind}
use Rattle.behaviour_text.specs.declared.errors.FaultKind.TheVariants as K
use Rattle.behaviour_text.specs.declared.table.TheConstants.{FIELD_LETTER, REGISTER_LETTER}
use Rattle.behaviour_text.specs.declared.table.LineWord.{LineWord}
use Rattle.behaviour_text.specs.declared.table.LineWord.TheVariants as W
use Rattle.behaviour_code.specs.declared.opcode.OperandKind.{OperandKind}
use Rattle.behaviour_code.specs.declared.opcode.OperandKind.TheVariants as P

-- a first word
abbrev pub word_spelling : LineWord → List ℕ
word_spelling W.Kind = codes "kind"
word_spelling W.On = codes "on"
word_spelling W.End = codes "end"
word_spelling (W.Instr opcode) = spelling opcode

abbrev pub all_words : List LineWord
all_words = W.Kind ∷ W.On ∷ W.End ∷ map W.Instr all_opcodes

-- what a first word says
unfoldable pub line_word : List ℕ → Option LineWord
line_word word = find (λ w. bytes_eq (word_spelling w) word) all_words

-- the operands of a line, in order
abbrev pub word_operands : LineWord → List OperandKind
word_operands W.Kind = P.Name ∷ P.Number ∷ []
word_operands W.On = P.Name ∷ P.Number ∷ []
word_operands W.End = []
word_operands (W.Instr opcode) = operand_kinds opcode

-- how many registers may follow these
abbrev pub word_further : LineWord → ℕ
word_further (W.Instr opcode) = most_further opcode
word_further _ = 0

abbrev pub starts_with : ℕ → List ℕ → Bool
starts_with letter [] = false
starts_with letter (b ∷ bs) = b == letter

-- a letter, and a numeral behind it
abbrev pub lettered_fault : ℕ → List ℕ → Option FaultKind
lettered_fault letter word =
    if starts_with letter word then (if is_some (numeral (drop 1 word)) then None else Some K.BadNumber)
    else Some K.WrongOperands

-- the lowest fault of one operand
abbrev pub operand_fault : OperandKind → List ℕ → Option FaultKind
operand_fault P.Register word = lettered_fault REGISTER_LETTER word
operand_fault P.Field word = lettered_fault FIELD_LETTER word
operand_fault P.Number word = if is_some (numeral word) then None else Some K.BadNumber
operand_fault P.Name word = if is_name word then None else Some K.BadName

-- the lowest fault of some operands; those past the table's are registers
abbrev pub operands_fault : List OperandKind → List (List ℕ) → Option FaultKind
operands_fault operands [] = None
operands_fault [] (word ∷ words) = lowest (operand_fault P.Register word) (operands_fault [] words)
operands_fault (operand ∷ operands) (word ∷ words) =
    lowest (operand_fault operand word) (operands_fault operands words)

abbrev pub fits_count : LineWord → ℕ → Bool
fits_count word n =
    nat_le (length (word_operands word)) n && nat_le n (length (word_operands word) + word_further word)

-- the lowest fault of the operands of a line, which may be too few or too many
unfoldable pub shape_fault : LineWord → List (List ℕ) → Option FaultKind
shape_fault word operands =
    if fits_count word (length operands) then operands_fault (word_operands word) operands
    else Some K.WrongOperands
