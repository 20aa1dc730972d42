-- What fits without memory.
use Rattle.std.specs.Prelude.{ℕ, ◌<◌, ⊤, List, []}
use Rattle.letter_kinds.specs.Detector.{Detector}
use Rattle.letter_kinds.specs.declared.note.Note.{Note}
use Rattle.letter_kinds.specs.declared.note.Note.TheVariants.{Block, Unblock, Ack}
use Rattle.letter_kinds.specs.declared.note.Report.{Report}
use Rattle.detector_tokens.specs.Room.{Room}

-- the kept reports; the reports of actors below this number fit
pub record ReportsValue : Type 0 where
  pub list : List Report
  pub actors : ℕ

-- no report, and no room
abbrev pub no_reports : ReportsValue
no_reports = record { list = []; actors = 0 }

-- the detector, and the room for more tokens; the reports of actors below this number fit
pub record DetectorValue : Type 0 where
  pub state : Detector
  pub room : Room
  pub reports : ℕ

-- the note can be heard without memory
abbrev pub CanHear : Note → DetectorValue → Type 0
CanHear (Block a count held) d = a < d.reports
CanHear (Unblock a) d = ⊤
CanHear (Ack number a) d = ⊤

-- with another state
abbrev pub with_state : Detector → DetectorValue → DetectorValue
with_state state d = record d { state = state }
