-- The parts that an event touches: their texts, and what changes of them.
use Rattle.std.specs.Prelude.{ℕ, ◌≡◌, List, [], ◌++◌, Option, flat_map, length, map, string_bytes}
use Rattle.std.specs.Option.{option_map_or}
use Rattle.std.specs.List.Sorted.{IsStrictlySortedBy}
use Rattle.std.specs.Ordering.{nat_cmp}
use Rattle.event_rule.specs.declared.event.Event.{Event}
use Rattle.letter_kinds.specs.Detector.{Detector, has, token_numbered}
use Rattle.letter_kinds.specs.Reports.{kept_report}
use Rattle.machine_rules.specs.Actors.{seat_at}
use Rattle.machine_rules.specs.State.{State}
use Rattle.orca_parts.specs.Touched.{touched_of, touched_token}
use Rattle.orca_parts.specs.declared.parts.Parts.{Parts}
use Rattle.picture_rules.specs.Blocked.{detector_lines, report_lines, token_lines}
use Rattle.picture_rules.specs.Parts.{detector_change, report_change, seat_change, token_change}
use Rattle.picture_rules.specs.Seats.{seat_lines}
use Rattle.picture_rules.specs.Words.{Line, text_of_lines}
use Rattle.book_picture.specs.declared.texts.Texts.{Texts}

-- the actors and the token that a prepared event may change, the actors rising
pub record AreTouched (e : Event) (m : Parts) (actors : List ℕ) (token : Option ℕ) : Type 0 where
  pub rising : IsStrictlySortedBy nat_cmp actors
  pub same : (a : ℕ) → has actors a ≡ has (touched_of e m) a
  pub number : token ≡ touched_token e m

-- ---- texts

-- of each of these actors the lines of its seat
abbrev pub seat_texts : List (List ℕ) → State → List ℕ → List (List ℕ)
seat_texts names s actors = map (λ a. text_of_lines (seat_lines names a (seat_at s.actors a))) actors

-- and of the report that is kept of it
abbrev pub report_texts : Detector → List ℕ → List (List ℕ)
report_texts d actors = map (λ a. text_of_lines (report_lines (kept_report d.kept a))) actors

-- the lines of the token of this number, if there is one
abbrev pub numbered_lines : Detector → Option ℕ → List Line
numbered_lines d token = option_map_or (λ n. token_lines (token_numbered n d)) token []

-- these are the texts of the parts
pub record AreTexts (names : List (List ℕ)) (s : State) (actors : List ℕ) (token : Option ℕ)
    (texts : Texts) : Type 0 where
  pub seats : map string_bytes texts.seats.items ≡ seat_texts names s actors
  pub detector : string_bytes texts.detector ≡ text_of_lines (detector_lines s.detector)
  pub reports : map string_bytes texts.reports.items ≡ report_texts s.detector actors
  pub numbered : string_bytes texts.token ≡ text_of_lines (numbered_lines s.detector token)

-- there is a text of each of the actors
pub record HaveTexts (texts : Texts) (actors : List ℕ) : Type 0 where
  pub seats : length texts.seats.items ≡ length actors
  pub reports : length texts.reports.items ≡ length actors

-- ---- changes

-- what changes of these actors, the detector, the reports of these actors, and this token
abbrev pub touched_changes : List ℕ → Option ℕ → State → State → List Line
touched_changes actors token s t =
    flat_map (λ a. seat_change t.program.names a (seat_at s.actors a) (seat_at t.actors a)) actors
    ++ detector_change s.detector t.detector
    ++ flat_map (λ a. report_change a (kept_report s.detector.kept a) (kept_report t.detector.kept a))
    actors
    ++ option_map_or
    (λ n. token_change n (token_numbered n s.detector) (token_numbered n t.detector)) token []
