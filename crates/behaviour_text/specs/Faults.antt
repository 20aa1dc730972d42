-- The first fault of a text: the first line that has one, and the lowest kind of fault there.
use Rattle.std.specs.Prelude.{ℕ, ◌≡◌, ◌+◌, ◌||◌, List, [], ◌∷◌, Option, Some, None, nat_le, nat_lt, if◌then◌else◌, option_map, ⊤}
use Rattle.std.specs.Option.{option_or, option_map_or}
use Rattle.orca_names.specs.declared.limits.TheConstants.{BEHAVIOURS_LIMIT, BODY_LIMIT, FIELDS_LIMIT, KINDS_LIMIT, VALUES_LIMIT}
use Rattle.text_lines.specs.Lines.{line_fault, lines_of}
use Rattle.behaviour_text.specs.Kinds.{kind_of, number}
use Rattle.behaviour_text.specs.Words.{words_of, number_at}
use Rattle.behaviour_text.specs.Table.{line_word, shape_fault, starts_with}
use Rattle.behaviour_text.specs.declared.errors.FaultKind.{FaultKind}
use Rattle.behaviour_text.specs.declared.errors.FaultKind.TheVariants as K
use Rattle.behaviour_text.specs.declared.errors.TextErr.{TextErr}
use Rattle.behaviour_text.specs.declared.errors.TextErr.TheVariants as E
use Rattle.behaviour_text.specs.declared.place.Place.{Place}
use Rattle.behaviour_text.specs.declared.place.Stage.{Stage}
use Rattle.behaviour_text.specs.declared.place.Stage.TheVariants.{Start, InKind, InBehaviour}
use Rattle.behaviour_text.specs.declared.table.TheConstants.{COMMENT_MARK}
use Rattle.behaviour_text.specs.declared.table.LineWord.{LineWord}
use Rattle.behaviour_text.specs.declared.table.LineWord.TheVariants as W

-- the place of the first line
abbrev pub beginning : Place
beginning = record { stage = Start; kinds = 0; behaviours = 0; instructions = 0 }

-- `kind`: no `end` within a behaviour; too many from the 257th kind, and past 8 fields
abbrev pub kind_fault : Stage → ℕ → ℕ → Option FaultKind
kind_fault InBehaviour kinds fields = Some K.MissingEnd
kind_fault stage kinds fields =
    if nat_le KINDS_LIMIT kinds || nat_lt FIELDS_LIMIT fields then Some K.TooMany else None

-- `on`: outside before any kind; no `end` within a behaviour; too many from the 65th behaviour,
-- and past 8 parameters
abbrev pub on_fault : Stage → ℕ → ℕ → Option FaultKind
on_fault Start behaviours parameters = Some K.OutsideBehaviour
on_fault InBehaviour behaviours parameters = Some K.MissingEnd
on_fault InKind behaviours parameters =
    if nat_le BEHAVIOURS_LIMIT behaviours || nat_lt VALUES_LIMIT parameters then Some K.TooMany
    else None

-- a line that stands within a behaviour alone
abbrev pub inside_fault : Stage → Option FaultKind → Option FaultKind
inside_fault InBehaviour fault = fault
inside_fault stage fault = Some K.OutsideBehaviour

-- too many from the 1,025th instruction
abbrev pub body_fault : ℕ → Option FaultKind
body_fault instructions = if nat_le BODY_LIMIT instructions then Some K.TooMany else None

-- the lowest fault of a line's place
abbrev pub place_fault : Place → LineWord → List (List ℕ) → Option FaultKind
place_fault place W.Kind operands = kind_fault place.stage place.kinds (number_at operands 1)
place_fault place W.On operands = on_fault place.stage place.behaviours (number_at operands 1)
place_fault place W.End operands = inside_fault place.stage None
place_fault place (W.Instr opcode) operands = inside_fault place.stage (body_fault place.instructions)

-- the lowest fault of a line with this first word
abbrev pub word_fault : Place → Option LineWord → List (List ℕ) → Option FaultKind
word_fault place None operands = Some K.UnknownWord
word_fault place (Some word) operands =
    option_or (shape_fault word operands) (place_fault place word operands)

-- the same of its words; a line without words and a comment have none
unfoldable pub words_fault : Place → List (List ℕ) → Option FaultKind
words_fault place [] = None
words_fault place (word ∷ operands) =
    if starts_with COMMENT_MARK word then None else word_fault place (line_word word) operands

-- the lowest fault of a line at its place
unfoldable pub lowest_fault : Place → List ℕ → Option FaultKind
lowest_fault place line =
    option_or (option_map kind_of (line_fault line)) (words_fault place (words_of line))

-- the place behind a line with this first word
abbrev pub behind_word : Place → LineWord → Place
behind_word place W.Kind = record place { stage = InKind; kinds = place.kinds + 1; behaviours = 0 }
behind_word place W.On = record place { stage = InBehaviour; instructions = 0 }
behind_word place W.End = record place {
  stage = InKind;
  behaviours = place.behaviours + 1;
  instructions = 0;
}
behind_word place (W.Instr opcode) = record place { instructions = place.instructions + 1 }

-- the place behind a line of these words
unfoldable pub place_after : Place → List (List ℕ) → Place
place_after place [] = place
place_after place (word ∷ operands) =
    if starts_with COMMENT_MARK word then place
    else option_map_or (behind_word place) (line_word word) place

-- no `end` at the last line where the text ends within a behaviour
abbrev pub end_fault : ℕ → Stage → Option (ℕ × FaultKind)
end_fault line InBehaviour = Some (line, K.MissingEnd)
end_fault line stage = None

-- the first fault of the lines that are left, n of which came before
unfoldable pub first_from : ℕ → Place → List (List ℕ) → Option (ℕ × FaultKind)
first_from n place [] = end_fault n place.stage
first_from n place (line ∷ lines) =
    option_or (option_map (λ kind. (n + 1, kind)) (lowest_fault place line))
    (first_from (n + 1) (place_after place (words_of line)) lines)

-- the first fault of a text: its line, counted from 1, and its kind
unfoldable pub first_fault : List ℕ → Option (ℕ × FaultKind)
first_fault bytes = first_from 0 beginning (lines_of bytes)

-- the first fault as it is told: its line, and the number of its kind
abbrev pub told_fault : List ℕ → Option (ℕ × ℕ)
told_fault bytes = option_map (λ fault. (fault.0, number fault.1)) (first_fault bytes)

-- a text was refused for a fault, and not for want of memory
abbrev pub IsFault : TextErr → Type 0
IsFault (E.Fault line kind) = ⊤
IsFault E.NoMemory = ⊥

-- the error tells this fault, if it is not want of memory
abbrev pub Tells : Option (ℕ × FaultKind) → TextErr → Type 0
Tells fault (E.Fault line kind) = fault ≡ Some (line, kind)
Tells fault E.NoMemory = ⊤
