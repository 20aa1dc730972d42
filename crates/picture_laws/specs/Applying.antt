-- What the lines of an entry say of each part of a state, and of the notes that wait.
use Rattle.std.specs.Prelude.{ℕ, ◌≡◌, ◌≤◌, ◌^◌, ◌&&◌, not, Bool, false, List, [], ◌∷◌, ◌++◌, bytes_eq, codes, drop, filter, length, map, if◌then◌else◌}
use Rattle.std.specs.Fmt.{decimal}
use Rattle.std.specs.List.{list_any}
use Rattle.behaviour_code.specs.WellFormed.{IsWellFormed}
use Rattle.behaviour_text.specs.Words.{word_at}
use Rattle.event_rule.specs.Runs.{Goes}
use Rattle.event_rule.specs.declared.event.Event.{Event}
use Rattle.letter_kinds.specs.Detector.{token_numbered}
use Rattle.letter_kinds.specs.Reports.{kept_report}
use Rattle.machine_rules.specs.Actors.{seat_at}
use Rattle.machine_rules.specs.Next.{next}
use Rattle.machine_rules.specs.State.{State}
use Rattle.picture_rules.specs.Blocked.{detector_lines, note_line, report_lines, token_lines}
use Rattle.picture_rules.specs.Parts.{above, reporters, token_numbers}
use Rattle.picture_rules.specs.Pictures.{entry_lines, heard}
use Rattle.picture_rules.specs.Seats.{seat_lines}
use Rattle.picture_rules.specs.Words.{Line, Word}

-- a part of a state: an actor, the detector, the report that is kept of an actor, an open token
pub data Part : Type 0 where
  AnActor : ℕ → Part
  TheDetector : Part
  AReport : ℕ → Part
  AToken : ℕ → Part

-- the lines of a part, none where it is not there
abbrev pub part_lines : State → Part → List Line
part_lines s (AnActor a) = seat_lines s.program.names a (seat_at s.actors a)
part_lines s TheDetector = detector_lines s.detector
part_lines s (AReport a) = report_lines (kept_report s.detector.kept a)
part_lines s (AToken n) = token_lines (token_numbered n s.detector)

-- ---- reading lines

-- these are the first two words of the line
abbrev pub has_words : Word → Word → Line → Bool
has_words w v line = bytes_eq (word_at line 0) w && bytes_eq (word_at line 1) v

-- the line is the first of the part
abbrev pub begins : Part → Line → Bool
begins (AnActor a) line = has_words (codes "actor") (decimal a) line
begins TheDetector line = bytes_eq (word_at line 0) (codes "detector")
begins (AReport a) line = has_words (codes "report") (decimal a) line
begins (AToken n) line = has_words (codes "token") (decimal n) line

-- the line says that the part is no more
abbrev pub says_gone : Part → Line → Bool
says_gone (AnActor a) line = has_words (codes "gone") (decimal a) line
says_gone TheDetector line = false
says_gone (AReport a) line = has_words (codes "withdrawn") (decimal a) line
says_gone (AToken n) line = has_words (codes "closed") (decimal n) line

-- the first words of such lines
abbrev pub part_words : List Word
part_words =
    codes "actor" ∷ codes "gone" ∷ codes "detector" ∷ codes "report" ∷ codes "withdrawn" ∷ codes "token"
    ∷ codes "closed" ∷ []

-- the line is a further one of the part before it
abbrev pub is_further : Line → Bool
is_further line = not (list_any (bytes_eq (word_at line 0)) part_words)

-- the lines up to the next part
abbrev pub further : List Line → List Line
further [] = []
further (line ∷ lines) = if is_further line then line ∷ further lines else []

-- the lines of each part after the lines of an entry, by what they were before
abbrev pub apply : List Line → (Part → List Line) → Part → List Line
apply [] before p = before p
apply (line ∷ lines) before p =
    if begins p line then line ∷ further lines
    else (if says_gone p line then [] else apply lines before p)

-- the line tells of a note that was posted
abbrev pub is_note : Line → Bool
is_note line = bytes_eq (word_at line 0) (codes "note")

-- ---- numbers of 64 bits, which words tell apart

-- the numbers of all actors, reports and tokens are such
pub record NumbersFit (s : State) : Type 0 where
  pub actors : length s.actors ≤ 2 ^ 64
  pub reports : above (reporters s.detector) ≤ 2 ^ 64
  pub tokens : above (token_numbers s.detector) ≤ 2 ^ 64

-- ---- an entry hides nothing

-- each part after an entry is told by the entry's lines and the part before
abbrev pub TellsParts : Type 0
TellsParts =
    (e : Event) (s t : State) → IsWellFormed s.program → NumbersFit s → NumbersFit t
    → next s e ≡ Goes t → (p : Part)
    → apply (entry_lines e s t) (part_lines s) p ≡ part_lines t p

-- the notes that wait after an entry are those before, without the one heard, and those of its lines
abbrev pub TellsNotes : Type 0
TellsNotes =
    (e : Event) (s t : State) → next s e ≡ Goes t
    → map note_line t.notes ≡ drop (heard e) (map note_line s.notes) ++ filter is_note (entry_lines e s t)
