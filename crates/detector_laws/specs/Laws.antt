-- The statements of the laws on the detector.
use Rattle.detector_laws.specs.Balance.{ActorsAreBalanced}
use Rattle.detector_laws.specs.Events.{CanBlock, Moves, Reaps}
use Rattle.detector_laws.specs.News.{NoNewsNoClosedSet}
use Rattle.detector_laws.specs.Quiet.{IsNeeded, IsQuiet, IsReached}
use Rattle.detector_laws.specs.Reports.{IsRising}
use Rattle.detector_laws.specs.Run.{IsRun, IsStart, IsStep}
use Rattle.detector_laws.specs.Tokens.{IsSealed}
use Rattle.detector_laws.specs.World.{block_in_world, FactsHold, hear_in_world, ReportsAreExact, scan_in_world, take_confirm, TokensAreSound, World}
use Rattle.letter_kinds.specs.Letters.{Letter, Confirm}
use Rattle.letter_kinds.specs.declared.note.Note.{Note}
use Rattle.letter_kinds.specs.declared.note.Note.TheVariants.{Ack}
use Rattle.letter_kinds.specs.declared.note.Report.{Report}
use Rattle.letter_kinds.specs.Detector.{all_acked, close_token, closed_set, Detector, has, hear_note, after_scan, Token, token_numbered}
use Rattle.machine_rules.specs.Cell.{Cell}
use Rattle.std.specs.Prelude.{[], List, Some, true, ℕ, ◌∷◌, ◌≡◌, ◌≢◌, Contains}

-- the token that a number finds is open, and has that number
abbrev pub NumberedIsOpen : Type 0
NumberedIsOpen =
    (d : Detector) (number : ℕ) (t : Token) → token_numbered number d ≡ Some t →
    Contains d.tokens t × (t.number ≡ number)

-- a note that is heard leaves what is told of each actor true
abbrev pub HearKeepsReports : Type 0
HearKeepsReports =
    (w : World) (n : Note) (ns : List Note) → w.notes ≡ n ∷ ns → ReportsAreExact w →
    ReportsAreExact (hear_in_world w n ns)

-- so does an actor that reports
abbrev pub BlockKeepsReports : Type 0
BlockKeepsReports =
    (w : World) (a : ℕ) (c : Cell) (r : Report) → CanBlock w a c r → ReportsAreExact w →
    ReportsAreExact (block_in_world w a c r)

-- who takes a Confirm
abbrev pub ConfirmKeepsReports : Type 0
ConfirmKeepsReports =
    (w : World) (a t : ℕ) (mail : List Letter) → w.mail a ≡ Confirm t ∷ mail → ReportsAreExact w →
    ReportsAreExact (take_confirm w a t mail)

-- and who does anything else
abbrev pub MovesKeepReports : Type 0
MovesKeepReports =
    (w after : World) (a : ℕ) → Moves w a after → ReportsAreExact w → ReportsAreExact after

-- a report keeps each open token sealed or spoiled
abbrev pub BlockKeepsTokens : Type 0
BlockKeepsTokens =
    (w : World) (a : ℕ) (c : Cell) (r : Report) → CanBlock w a c r → TokensAreSound w →
    TokensAreSound (block_in_world w a c r)

-- so does who takes a Confirm
abbrev pub ConfirmKeepsTokens : Type 0
ConfirmKeepsTokens =
    (w : World) (a t : ℕ) (mail : List Letter) → w.mail a ≡ Confirm t ∷ mail → TokensAreSound w →
    TokensAreSound (take_confirm w a t mail)

-- who does anything else
abbrev pub MovesKeepTokens : Type 0
MovesKeepTokens =
    (w after : World) (a : ℕ) → Moves w a after → TokensAreSound w → TokensAreSound after

-- and a note that is heard
abbrev pub HearKeepsTokens : Type 0
HearKeepsTokens =
    (w : World) (n : Note) (ns : List Note) → w.notes ≡ n ∷ ns → TokensAreSound w →
    TokensAreSound (hear_in_world w n ns)

-- a scan leaves what is told of each actor true
abbrev pub ScanKeepsReports : Type 0
ScanKeepsReports = (w : World) → ReportsAreExact w → ReportsAreExact (scan_in_world w)

-- where counts balance and reports are true, the token that it opens is sealed or spoiled too
abbrev pub ScanKeepsTokens : Type 0
ScanKeepsTokens =
    (w : World) → ActorsAreBalanced w → IsRising w.detector.kept → ReportsAreExact w →
    TokensAreSound w → TokensAreSound (scan_in_world w)

-- a reap leaves what is told of each actor true
abbrev pub ReapKeepsReports : Type 0
ReapKeepsReports =
    (w after : World) (t : Token) → Reaps w t after → ReportsAreExact w → TokensAreSound w →
    ReportsAreExact after

-- and the other tokens sealed or spoiled
abbrev pub ReapKeepsTokens : Type 0
ReapKeepsTokens =
    (w after : World) (t : Token) → Reaps w t after → TokensAreSound w → TokensAreSound after

-- after a note there is news, or no closed set as before
abbrev pub HearKeepsNoNews : Type 0
HearKeepsNoNews = (n : Note) (d : Detector) → NoNewsNoClosedSet d → NoNewsNoClosedSet (hear_note n d)

-- a scan leaves no closed set
abbrev pub ScanLeavesNoSet : Type 0
ScanLeavesNoSet = (d : Detector) → NoNewsNoClosedSet (after_scan d (closed_set d))

-- nor does a reap bring one about without news
abbrev pub ReapKeepsNoNews : Type 0
ReapKeepsNoNews =
    (d : Detector) (t : Token) → Contains d.tokens t →
    ((u : Token) → Contains d.tokens u → u.number ≡ t.number → u ≡ t) → NoNewsNoClosedSet d →
    NoNewsNoClosedSet (close_token t d)

-- kept reports stay in the order of their actors
abbrev pub HearKeepsOrder : Type 0
HearKeepsOrder = (n : Note) (d : Detector) → IsRising d.kept → IsRising (hear_note n d).kept

-- at a reap too
abbrev pub ReapKeepsOrder : Type 0
ReapKeepsOrder = (t : Token) (d : Detector) → IsRising d.kept → IsRising (close_token t d).kept

-- where a run starts all of this holds
abbrev pub StartHasFacts : Type 0
StartHasFacts = (w : World) → IsStart w → FactsHold w

-- each event keeps it, where the counts of actors balance
abbrev pub StepsKeepFacts : Type 0
StepsKeepFacts =
    (w after : World) → ActorsAreBalanced w → IsStep w after → FactsHold w → FactsHold after

-- so it holds after each run
abbrev pub RunsKeepFacts : Type 0
RunsKeepFacts = (w after : World) → IsRun w after → FactsHold w → FactsHold after

-- where no event is enabled, each actor that is present is reached from one that is pinned
abbrev pub QuietIsExact : Type 0
QuietIsExact =
    (w : World) → IsQuiet w → ReportsAreExact w → TokensAreSound w → NoNewsNoClosedSet w.detector →
    ActorsAreBalanced w → IsRising w.detector.kept → (a : ℕ) (c : Cell) → w.cell a ≡ Some c →
    IsReached w a

-- so it is after each run
abbrev pub ExactAtQuiet : Type 0
ExactAtQuiet =
    (w after : World) → FactsHold w → IsRun w after → ActorsAreBalanced after → IsQuiet after →
    (a : ℕ) (c : Cell) → after.cell a ≡ Some c → IsReached after a

-- nobody that is needed is a member of a token that is reaped
abbrev pub ReapsTheUnneeded : Type 0
ReapsTheUnneeded =
    (w after : World) (t : Token) → Reaps w t after → TokensAreSound w → (a : ℕ) → IsNeeded w a →
    has t.members a ≢ true

-- a token that all members acknowledged is sealed
abbrev pub AckedIsSealed : Type 0
AckedIsSealed =
    (w : World) (t : Token) → TokensAreSound w → Contains w.detector.tokens t → all_acked t ≡ true →
    IsSealed w.cell w.mail w.loaded w.notes t

-- and no letter waits for a member
abbrev pub AckedIsBare : Type 0
AckedIsBare =
    (w : World) (t : Token) → TokensAreSound w → Contains w.detector.tokens t → all_acked t ≡ true
    → (m : ℕ) →
    has t.members m ≡ true → w.mail m ≡ []

-- of an open token, whoever's acknowledgement is heard next is a member
abbrev pub MembersAloneAcknowledge : Type 0
MembersAloneAcknowledge =
    (w : World) (number a : ℕ) (later : List Note) → FactsHold w → w.notes ≡ Ack number a ∷ later →
    (t : Token) → Contains w.detector.tokens t → t.number ≡ number → has t.members a ≡ true
