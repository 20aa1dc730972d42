-- What a text says: the relation between bytes and a program, and the canonical text.
use Rattle.std.specs.Prelude.{ℕ, ◌≡◌, Bool, false, List, [], ◌∷◌, ◌++◌, None, All, map, filter, flat_map, not, codes, decimal}
use Rattle.text_lines.specs.Lines.{lines_of, line_fault}
use Rattle.behaviour_code.specs.Names.{text_of}
use Rattle.behaviour_code.specs.Opcodes.{spelling}
use Rattle.behaviour_code.specs.Operands.{opcode_of, operands_in}
use Rattle.behaviour_code.specs.declared.instr.Instr.{Instr}
use Rattle.behaviour_code.specs.declared.operand.Operand.{Operand}
use Rattle.behaviour_code.specs.declared.operand.Operand.TheVariants as O
use Rattle.behaviour_code.specs.declared.code.Behaviour.{Behaviour}
use Rattle.behaviour_code.specs.declared.code.Kind.{Kind}
use Rattle.behaviour_code.specs.declared.code.Program.{Program}
use Rattle.behaviour_text.specs.Words.{words_of}
use Rattle.behaviour_text.specs.Table.{starts_with}
use Rattle.behaviour_text.specs.declared.table.TheConstants.{COMMENT_MARK, FIELD_LETTER, REGISTER_LETTER}

-- r and a number
abbrev pub register : ℕ → List ℕ
register n = REGISTER_LETTER ∷ decimal n

-- f and a number
abbrev pub field : ℕ → List ℕ
field n = FIELD_LETTER ∷ decimal n

-- the word of an operand, where names have their texts by `text`
abbrev pub operand_word : (ℕ → List ℕ) → Operand → List ℕ
operand_word text (O.Register n) = register n
operand_word text (O.Field n) = field n
operand_word text (O.Number n) = decimal n
operand_word text (O.Name name) = text name

-- the words of an instruction
abbrev pub instr_words : (ℕ → List ℕ) → Instr → List (List ℕ)
instr_words text i = spelling (opcode_of i) ∷ map (operand_word text) (operands_in i)

-- the line that begins a behaviour, and the one that ends it
abbrev pub behaviour_begin : (ℕ → List ℕ) → ℕ → ℕ → List (List ℕ)
behaviour_begin text name parameters = codes "on" ∷ text name ∷ decimal parameters ∷ []

abbrev pub behaviour_end : List (List ℕ)
behaviour_end = codes "end" ∷ []

-- the line that begins a kind
abbrev pub kind_begin : (ℕ → List ℕ) → ℕ → ℕ → List (List ℕ)
kind_begin text name fields = codes "kind" ∷ text name ∷ decimal fields ∷ []

-- the lines of a behaviour, of a kind, of a program, each as its words
abbrev pub behaviour_lines : (ℕ → List ℕ) → Behaviour → List (List (List ℕ))
behaviour_lines text b =
    behaviour_begin text b.name b.parameters ∷ (map (instr_words text) b.body ++ behaviour_end ∷ [])

abbrev pub kind_lines : (ℕ → List ℕ) → Kind → List (List (List ℕ))
kind_lines text k = kind_begin text k.name k.fields ∷ flat_map (behaviour_lines text) k.behaviours

abbrev pub program_lines : Program → List (List (List ℕ))
program_lines p = flat_map (kind_lines (text_of p.names)) p.kinds

-- a line that has words, the first of which does not begin with #
abbrev pub speaks : List (List ℕ) → Bool
speaks [] = false
speaks (word ∷ words) = not (starts_with COMMENT_MARK word)

-- the lines that say something, each as its words
abbrev pub said_lines : List (List ℕ) → List (List (List ℕ))
said_lines lines = filter speaks (map words_of lines)

-- no line has a fault by itself
abbrev pub AreClean : List (List ℕ) → Type 0
AreClean lines = All (λ line. line_fault line ≡ None) lines

-- the bytes are a text of the program: their lines are its kinds, behaviours and instructions, in
-- order
pub record IsText (bytes : List ℕ) (p : Program) : Type 0 where
  pub clean : AreClean (lines_of bytes)
  pub lines : said_lines (lines_of bytes) ≡ program_lines p

-- words behind another one, with one space before each, and a line feed
abbrev pub rest_of_line : List (List ℕ) → List ℕ
rest_of_line [] = 10 ∷ []
rest_of_line (word ∷ words) = 32 ∷ (word ++ rest_of_line words)

-- a line: its words with one space between them, and a line feed
abbrev pub line_of : List (List ℕ) → List ℕ
line_of [] = 10 ∷ []
line_of (word ∷ words) = word ++ rest_of_line words

-- the canonical text: no leading space, no comment, no empty line
abbrev pub canonical : Program → List ℕ
canonical p = flat_map line_of (program_lines p)
