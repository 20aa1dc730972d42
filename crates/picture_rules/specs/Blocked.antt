-- The lines of the detector of blocked actors: itself, its reports and tokens, and the notes to it.
use Rattle.std.specs.Prelude.{ℕ, Bool, List, [], ◌∷◌, codes, map, flat_map, Option}
use Rattle.std.specs.Option.{option_map_or}
use Rattle.std.specs.Fmt.{decimal}
use Rattle.letter_kinds.specs.declared.note.Note.{Note}
use Rattle.letter_kinds.specs.declared.note.Note.TheVariants.{Block, Unblock, Ack}
use Rattle.letter_kinds.specs.declared.note.Report.{Report}
use Rattle.letter_kinds.specs.Detector.{Detector, Token, has}
use Rattle.picture_rules.specs.Words.{Line, Word, bit_word, held_words}

-- is there news, and how many tokens were ever opened
abbrev pub detector_line : Bool → ℕ → Line
detector_line news opened = codes "detector" ∷ bit_word news ∷ decimal opened ∷ []

-- the detector's one line
abbrev pub detector_lines : Detector → List Line
detector_lines d = detector_line d.news d.opened ∷ []

-- an actor, its own count, and the counts that it holds on others
abbrev pub told_words : ℕ → ℕ → List (ℕ × ℕ) → List Word
told_words a count held = decimal a ∷ decimal count ∷ flat_map held_words held

-- a report that is kept
abbrev pub report_line : ℕ → ℕ → List (ℕ × ℕ) → Line
report_line a count held = codes "report" ∷ told_words a count held

-- that line, if one is kept
abbrev pub report_lines : Option Report → List Line
report_lines report = option_map_or (λ r. report_line r.actor r.count r.held ∷ []) report []

-- a member of a token, and whether it is among those that acknowledged
abbrev pub member_line : List ℕ → ℕ → Line
member_line acked a = codes "member" ∷ decimal a ∷ bit_word (has acked a) ∷ []

-- an open token with its members
abbrev pub open_lines : Token → List Line
open_lines t = (codes "token" ∷ decimal t.number ∷ []) ∷ map (member_line t.acked) t.members

-- those lines, if it is open
abbrev pub token_lines : Option Token → List Line
token_lines token = option_map_or open_lines token []

-- a note that was posted
abbrev pub note_line : Note → Line
note_line (Block a count held) = codes "note" ∷ codes "block" ∷ told_words a count held
note_line (Unblock a) = codes "note" ∷ codes "unblock" ∷ decimal a ∷ []
note_line (Ack token a) = codes "note" ∷ codes "ack" ∷ decimal token ∷ decimal a ∷ []
