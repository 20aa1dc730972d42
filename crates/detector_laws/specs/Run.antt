-- The start, steps and runs of the world that the detector's laws speak of.
use Rattle.std.specs.Prelude.{ℕ, ◌≡◌, true, false, List, [], ◌∷◌}
use Rattle.letter_kinds.specs.Detector.{Token, fresh_detector}
use Rattle.letter_kinds.specs.Letters.{Letter, Confirm}
use Rattle.letter_kinds.specs.declared.note.Note.{Note}
use Rattle.letter_kinds.specs.declared.note.Report.{Report}
use Rattle.machine_rules.specs.Cell.{Cell}
use Rattle.detector_laws.specs.Balance.{ActorsAreBalanced}
use Rattle.detector_laws.specs.Cells.{is_reporting}
use Rattle.detector_laws.specs.Confirms.{NoConfirms}
use Rattle.detector_laws.specs.Events.{CanBlock, Leaves, Moves, Reaps}
use Rattle.detector_laws.specs.World.{World, hear_in_world, scan_in_world, block_in_world, take_confirm}

-- nothing was reported yet, and no Confirm waits
pub record IsStart (w : World) : Type 0 where
  pub detector : w.detector ≡ fresh_detector
  pub notes : w.notes ≡ []
  pub unreported : (a : ℕ) → is_reporting (w.cell a) ≡ false
  pub unasked : (a : ℕ) → NoConfirms (w.mail a)

-- one event leads from the world to another
pub data IsStep (w : World) : World → Type 0 where
  Hears : {n : Note} {ns : List Note} → w.notes ≡ n ∷ ns → IsStep w (hear_in_world w n ns)
  Scans : w.detector.news ≡ true → IsStep w (scan_in_world w)
  ReapsOne : {t : Token} {after : World} → Reaps w t after → IsStep w after
  LeavesOne : {a : ℕ} {after : World} → Leaves w a after → IsStep w after
  Blocks : {a : ℕ} {c : Cell} {r : Report} → CanBlock w a c r → IsStep w (block_in_world w a c r)
  TakesConfirm : {a token : ℕ} {mail : List Letter} → w.mail a ≡ Confirm token ∷ mail
      → IsStep w (take_confirm w a token mail)
  MovesOne : {a : ℕ} {after : World} → Moves w a after → IsStep w after

-- events lead from the world to another, and before each of them the counts balance
pub data IsRun (w : World) : World → Type 0 where
  Stays : IsRun w w
  GoesOn : {v u : World} → IsRun w v → ActorsAreBalanced v → IsStep v u → IsRun w u
