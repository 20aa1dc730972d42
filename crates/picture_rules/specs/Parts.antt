-- The parts of a state, each with its lines, and what changes of them.
use Rattle.std.specs.Prelude.{ℕ, zero, suc, max, List, [], ◌∷◌, ◌++◌, codes, map, flat_map, length, bytes_eq, if◌then◌else◌, Option}
use Rattle.std.specs.Fmt.{decimal}
use Rattle.letter_kinds.specs.declared.note.Report.{Report}
use Rattle.letter_kinds.specs.Detector.{Detector, Token, token_numbered}
use Rattle.letter_kinds.specs.Reports.{kept_report}
use Rattle.machine_rules.specs.Actors.{Seat, seat_at}
use Rattle.machine_rules.specs.State.{State}
use Rattle.picture_rules.specs.Words.{Line, text_of_lines}
use Rattle.picture_rules.specs.Seats.{seat_lines}
use Rattle.picture_rules.specs.Blocked.{detector_lines, report_lines, token_lines}

-- ---- one part, before and after

-- these lines, where the texts before and after are not the same
abbrev pub where_changed : List Line → List Line → List Line → List Line
where_changed before after lines =
    if bytes_eq (text_of_lines before) (text_of_lines after) then [] else lines

-- the lines after, or one that says that the part is no more
abbrev pub or_gone : Line → List Line → List Line
or_gone gone [] = gone ∷ []
or_gone gone (line ∷ lines) = line ∷ lines

-- a part is told anew where it changed, and where it is no more a line stands in its place
abbrev pub part_change : Line → List Line → List Line → List Line
part_change gone before after = where_changed before after (or_gone gone after)

-- what changes of an actor, whose letters' behaviours have their texts among these
abbrev pub seat_change : List (List ℕ) → ℕ → Option Seat → Option Seat → List Line
seat_change texts a before after =
    part_change (codes "gone" ∷ decimal a ∷ []) (seat_lines texts a before) (seat_lines texts a after)

-- what changes of the detector, which is always there
abbrev pub detector_change : Detector → Detector → List Line
detector_change before after =
    where_changed (detector_lines before) (detector_lines after) (detector_lines after)

-- what changes of the report of an actor
abbrev pub report_change : ℕ → Option Report → Option Report → List Line
report_change a before after =
    part_change (codes "withdrawn" ∷ decimal a ∷ []) (report_lines before) (report_lines after)

-- what changes of the token of a number
abbrev pub token_change : ℕ → Option Token → Option Token → List Line
token_change n before after =
    part_change (codes "closed" ∷ decimal n ∷ []) (token_lines before) (token_lines after)

-- ---- all parts, those of a kind by rising numbers

-- the numbers below one, rising
abbrev pub numbers_below : ℕ → List ℕ
numbers_below zero = []
numbers_below (suc n) = numbers_below n ++ n ∷ []

-- one more than the greatest of these, 0 where there is none
abbrev pub above : List ℕ → ℕ
above [] = 0
above (n ∷ ns) = max (suc n) (above ns)

-- the actors of which a report is kept, and the numbers of the open tokens
abbrev pub reporters : Detector → List ℕ
reporters d = map (λ r. r.actor) d.kept

abbrev pub token_numbers : Detector → List ℕ
token_numbers d = map (λ t. t.number) d.tokens

-- what changes of the actors
abbrev pub seat_changes : State → State → List Line
seat_changes s t =
    flat_map (λ a. seat_change t.program.names a (seat_at s.actors a) (seat_at t.actors a))
    (numbers_below (max (length s.actors) (length t.actors)))

-- what changes of the reports
abbrev pub report_changes : Detector → Detector → List Line
report_changes d e =
    flat_map (λ a. report_change a (kept_report d.kept a) (kept_report e.kept a))
    (numbers_below (above (reporters d ++ reporters e)))

-- what changes of the tokens
abbrev pub token_changes : Detector → Detector → List Line
token_changes d e =
    flat_map (λ n. token_change n (token_numbered n d) (token_numbered n e))
    (numbers_below (above (token_numbers d ++ token_numbers e)))

-- what changes from one state to another
abbrev pub changes : State → State → List Line
changes s t =
    seat_changes s t
    ++ detector_change s.detector t.detector
    ++ report_changes s.detector t.detector
    ++ token_changes s.detector t.detector

-- ---- a state by itself, as if nothing had been before

-- its actors, the detector, the reports and the tokens
abbrev pub state_lines : State → List Line
state_lines s =
    flat_map (λ a. seat_lines s.program.names a (seat_at s.actors a)) (numbers_below (length s.actors))
    ++ detector_lines s.detector
    ++ flat_map (λ a. report_lines (kept_report s.detector.kept a))
    (numbers_below (above (reporters s.detector)))
    ++ flat_map (λ n. token_lines (token_numbered n s.detector))
    (numbers_below (above (token_numbers s.detector)))
