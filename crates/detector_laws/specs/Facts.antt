-- All that every event keeps.
use Rattle.std.specs.Prelude.{ℕ, List, Option}
use Rattle.letter_kinds.specs.Detector.{Detector}
use Rattle.letter_kinds.specs.Letters.{Letter}
use Rattle.letter_kinds.specs.declared.note.Note.{Note}
use Rattle.machine_rules.specs.Cell.{Cell}
use Rattle.detector_laws.specs.Acknowledged.{OnlyMembersAcknowledge}
use Rattle.detector_laws.specs.News.{NoNewsNoClosedSet}
use Rattle.detector_laws.specs.Reports.{ExactReports, IsRising}
use Rattle.detector_laws.specs.Tokens.{SoundTokens}

-- what holds in each state of a run: of how many actors were made, of the detector, of the cell and
-- the letters of each actor, of how many letters load it, and of the notes that the detector has
-- still to hear
pub record DetectorFacts (made : ℕ) (d : Detector) (cell : ℕ → Option Cell) (mail : ℕ
    → List Letter) (loaded : ℕ → ℕ) (notes : List Note) : Type 0 where
  pub reports : ExactReports made cell d.kept notes
  pub tokens : SoundTokens d cell mail loaded notes
  pub members : OnlyMembersAcknowledge d mail notes
  pub news : NoNewsNoClosedSet d
  pub rising : IsRising d.kept
