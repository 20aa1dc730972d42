-- The picture of a run: the program, the first state, what each entry of the book did, and the end.
use Rattle.std.specs.Prelude.{ℕ, ◌-◌, ◌≡◌, ◌↔◌, Bool, IsTrue, List, [], ◌∷◌, ◌++◌, codes, map, drop, length, if◌then◌else◌}
use Rattle.std.specs.Fmt.{decimal}
use Rattle.orca_names.specs.declared.names.Value.{Value}
use Rattle.orca_names.specs.declared.trace.Trace.{Trace}
use Rattle.orca_names.specs.declared.trace.Trace.TheVariants.{Deep, Roots}
use Rattle.text_lines.specs.Lines.{lines_of}
use Rattle.behaviour_code.specs.declared.code.Program.{Program}
use Rattle.behaviour_text.specs.Text.{canonical}
use Rattle.event_rule.specs.Events.{event_text}
use Rattle.event_rule.specs.Runs.{IsQuiet, Goes}
use Rattle.event_rule.specs.declared.event.Event.{Event}
use Rattle.event_rule.specs.declared.event.Event.TheVariants.{Hear}
use Rattle.letter_kinds.specs.declared.note.Note.{Note}
use Rattle.machine_rules.specs.Next.{next}
use Rattle.machine_rules.specs.Options.{Options}
use Rattle.machine_rules.specs.State.{State, first_state}
use Rattle.picture_rules.specs.Words.{Line, Word, text_of_lines, value_word}
use Rattle.picture_rules.specs.Blocked.{note_line}
use Rattle.picture_rules.specs.Parts.{changes, state_lines}

-- ---- an entry

-- how many notes the detector takes by the event
abbrev pub heard : Event → ℕ
heard Hear = 1
heard _ = 0

-- the notes that the event posts: those behind the ones that waited
abbrev pub posted : Event → State → State → List Note
posted e s t = drop (length s.notes - heard e) t.notes

-- the values that it prints
abbrev pub printed : State → State → List Value
printed s t = drop (length s.prints) t.prints

-- the entry as the book has it
abbrev pub entry_line : Event → Line
entry_line e = codes "entry" ∷ event_text e ∷ []

-- a value that was printed
abbrev pub print_line : Value → Line
print_line v = codes "print" ∷ value_word v ∷ []

-- an event from one state to another: what it prints, what it posts, and what it changes
abbrev pub entry_lines : Event → State → State → List Line
entry_lines e s t =
    entry_line e ∷ (map print_line (printed s t) ++ map note_line (posted e s t) ++ changes s t)

-- ---- the whole

-- how is traced
abbrev pub trace_word : Trace → Word
trace_word Deep = codes "deep"
trace_word Roots = codes "roots"

-- a line of the program's canonical text
abbrev pub text_line : List ℕ → Line
text_line line = codes "text" ∷ line ∷ []

-- what the run chose
abbrev pub option_lines : Options → List Line
option_lines options =
    (codes "picture" ∷ codes "1" ∷ [])
    ∷ (codes "weight" ∷ decimal options.weight ∷ [])
    ∷ (codes "trace" ∷ trace_word options.trace ∷ [])
    ∷ []

-- what the picture is of: the options, and the program
abbrev pub head_lines : Program → Options → List Line
head_lines program options = option_lines options ++ map text_line (lines_of (canonical program))

-- whether an event is still enabled
abbrev pub end_line : Bool → Line
end_line is_quiet = codes "end" ∷ (if is_quiet then codes "quiet" else codes "open") ∷ []

-- the events of the book lead from s to t, and these are the lines of its entries
abbrev pub Tell : State → List Event → State → List Line → Type 0
Tell s [] t lines = (s ≡ t) × (lines ≡ [])
Tell s (e ∷ book) t lines =
    (u : State) × (later : List Line) × (next s e ≡ Goes u) × (lines ≡ entry_lines e s u ++ later)
    × Tell u book t later

-- the bytes are the picture of the book, which is a run of the program and leads to t
pub record IsPicture (program : Program) (options : Options) (book : List Event) (t : State)
    (bytes : List ℕ) : Type 0 where
  pub entries : List Line
  pub told : Tell (first_state program options) book t entries
  pub is_quiet : Bool
  pub end : IsTrue is_quiet ↔ IsQuiet next t
  pub whole : bytes ≡ text_of_lines (head_lines program options
      ++ state_lines (first_state program options) ++ entries ++ end_line is_quiet ∷ [])
