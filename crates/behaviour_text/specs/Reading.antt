-- What the reader holds after each line, and the program that it has at the end.
use Rattle.std.specs.Prelude.{ℕ, ◌≡◌, ◌+◌, List, [], ◌∷◌, ◌++◌, Option, Some, None, Result, Ok, Err, min, length, if◌then◌else◌, option_map}
use Rattle.std.specs.Option.{option_or}
use Rattle.text_lines.specs.Lines.{lines_of}
use Rattle.text_lines.specs.declared.LineKind.{LineKind}
use Rattle.behaviour_code.specs.Names.{intern}
use Rattle.behaviour_code.specs.declared.instr.Instr.{Instr}
use Rattle.behaviour_code.specs.declared.code.Program.{Program}
use Rattle.behaviour_text.specs.Words.{words_of, word_at, number_at}
use Rattle.behaviour_text.specs.Table.{line_word, starts_with}
use Rattle.behaviour_text.specs.Items.{instr_of, name_place}
use Rattle.behaviour_text.specs.Faults.{words_fault, lowest_fault}
use Rattle.behaviour_text.specs.Kinds.{kind_of}
use Rattle.behaviour_text.specs.declared.errors.FaultKind.{FaultKind}
use Rattle.behaviour_text.specs.declared.errors.FaultKind.TheVariants as K
use Rattle.behaviour_text.specs.declared.place.Place.{Place}
use Rattle.behaviour_text.specs.declared.place.Stage.{Stage}
use Rattle.behaviour_text.specs.declared.place.Stage.TheVariants.{Start, InKind, InBehaviour}
use Rattle.behaviour_text.specs.declared.reader.Reader.{Reader}
use Rattle.behaviour_text.specs.declared.table.TheConstants.{COMMENT_MARK}
use Rattle.behaviour_text.specs.declared.table.LineWord.{LineWord}
use Rattle.behaviour_text.specs.declared.table.LineWord.TheVariants as W

-- nothing was read
unfoldable pub start : Reader
start = record {
  names = [];
  kinds = [];
  stage = Start;
  kind_name = 0;
  fields = 0;
  behaviours = [];
  behaviour_name = 0;
  parameters = 0;
  body = [];
}

-- the kinds that are begun: the last one stands beside the others
abbrev pub kinds_begun : Stage → ℕ → ℕ
kinds_begun Start n = n
kinds_begun stage n = n + 1

-- the place of the next line
abbrev pub place_of : Reader → Place
place_of r = record {
  stage = r.stage;
  kinds = kinds_begun r.stage (length r.kinds);
  behaviours = length r.behaviours;
  instructions = length r.body;
}

-- the last kind is put to the others
abbrev pub close_kind_at : Stage → Reader → Reader
close_kind_at Start r = r
close_kind_at stage r = record r {
  kinds = r.kinds ++ record { name = r.kind_name; fields = r.fields; behaviours = r.behaviours } ∷ [];
  behaviours = [];
}

unfoldable pub close_kind : Reader → Reader
close_kind r = close_kind_at r.stage r

-- a kind is begun
unfoldable pub with_kind : Reader → ℕ → ℕ → Reader
with_kind r name fields = record (close_kind r) {
  stage = InKind;
  kind_name = name;
  fields = fields;
  behaviours = [];
}

-- a behaviour is begun
unfoldable pub with_on : Reader → ℕ → ℕ → Reader
with_on r name parameters = record r {
  stage = InBehaviour;
  behaviour_name = name;
  parameters = parameters;
  body = [];
}

-- the behaviour is ended
unfoldable pub with_end : Reader → Reader
with_end r = record r {
  stage = InKind;
  behaviours =
      r.behaviours ++ record {
        name = r.behaviour_name;
        parameters = r.parameters;
        body = r.body;
      } ∷ [];
  body = [];
}

-- one instruction more
unfoldable pub with_instr : Reader → Instr → Reader
with_instr r i = record r { body = r.body ++ i ∷ [] }

-- the name of a line, 0 where it has none, and the texts of names after it
abbrev pub intern_name : List (List ℕ) → Option ℕ → List (List ℕ) → ℕ × List (List ℕ)
intern_name texts None operands = (0, texts)
intern_name texts (Some place) operands = intern texts (word_at operands place)

-- the name of a line was found, and `new` has its text too
pub record IsNamed (old new : Reader) (found : ℕ × List (List ℕ)) (name : ℕ) : Type 0 where
  pub number : found.0 ≡ name
  pub names : new ≡ record old { names = found.1 }

-- what a line says, whose name is known
abbrev pub with_item : Reader → LineWord → ℕ → List (List ℕ) → Reader
with_item r W.Kind name operands = with_kind r name (min (number_at operands 1) 8)
with_item r W.On name operands = with_on r name (min (number_at operands 1) 8)
with_item r W.End name operands = with_end r
with_item r (W.Instr opcode) name operands = with_instr r (instr_of opcode name operands)

abbrev pub with_named : Reader → LineWord → ℕ × List (List ℕ) → List (List ℕ) → Reader
with_named r word (name, texts) operands = with_item (record r { names = texts }) word name operands

abbrev pub with_word : Reader → Option LineWord → List (List ℕ) → Reader
with_word r None operands = r
with_word r (Some word) operands =
    with_named r word (intern_name r.names (name_place word) operands) operands

-- what was read after a line of these words
unfoldable pub with_words : Reader → List (List ℕ) → Reader
with_words r [] = r
with_words r (word ∷ operands) =
    if starts_with COMMENT_MARK word then r else with_word r (line_word word) operands

-- `new` is what `old` is after a line without a fault
pub record LineTaken (old new : Reader) (line : List ℕ) (fault : Option LineKind) : Type 0 where
  pub clean : option_or (option_map kind_of fault) (words_fault (place_of old) (words_of line))
      ≡ None
  pub next : new ≡ with_words old (words_of line)

-- what was read at the end, unless the text ends within a behaviour
abbrev pub read_end : ℕ → Reader → Stage → Result Reader (ℕ × FaultKind)
read_end n r InBehaviour = Err (n, K.MissingEnd)
read_end n r stage = Ok r

-- the fault of a line, or else what comes after it
abbrev pub unless_fault : ℕ → Option FaultKind → Result Reader (ℕ × FaultKind) → Result Reader (ℕ × FaultKind)
unless_fault line None rest = rest
unless_fault line (Some kind) rest = Err (line, kind)

-- what was read after the lines, n of which came before; or the first fault
unfoldable pub read_from : ℕ → Reader → List (List ℕ) → Result Reader (ℕ × FaultKind)
read_from n r [] = read_end n r r.stage
read_from n r (line ∷ lines) =
    unless_fault (n + 1) (lowest_fault (place_of r) line)
    (read_from (n + 1) (with_words r (words_of line)) lines)

-- the program of what was read
abbrev pub program_of : Reader → Program
program_of r = record { kinds = (close_kind r).kinds; names = r.names }

abbrev pub finish : Result Reader (ℕ × FaultKind) → Result Program (ℕ × FaultKind)
finish (Ok r) = Ok (program_of r)
finish (Err fault) = Err fault

-- the program that a text gives, or its first fault
unfoldable pub read_text : List ℕ → Result Program (ℕ × FaultKind)
read_text bytes = finish (read_from 0 start (lines_of bytes))

-- the fault that reading ended with
abbrev pub fault_of : {X : Type 0} → Result X (ℕ × FaultKind) → Option (ℕ × FaultKind)
fault_of (Ok x) = None
fault_of (Err fault) = Some fault
