-- The state in which no event is enabled, and who is reached and needed.
use Rattle.std.specs.Prelude.{ℕ, ◌≡◌, ◌≢◌, true, false, [], None, Some, Contains}
use Rattle.letter_kinds.specs.Detector.{Token, all_acked}
use Rattle.machine_rules.specs.Cell.{Cell}
use Rattle.machine_rules.specs.Next.{IsAtRest}
use Rattle.detector_laws.specs.Cells.{held_on}
use Rattle.detector_laws.specs.Confirms.{OnlyConfirms}
use Rattle.detector_laws.specs.World.{World}

-- no event is enabled
pub record IsQuiet (w : World) : Type 0 where
  pub heard : w.notes ≡ []
  pub scanned : w.detector.news ≡ false
  pub unacked : (t : Token) → Contains w.detector.tokens t → all_acked t ≢ true
  pub unloaded : (a : ℕ) → w.loaded a ≡ 0
  pub rest : (a : ℕ) (c : Cell) → w.cell a ≡ Some c → IsAtRest c (w.mail a)
  pub told : (a : ℕ) (c : Cell) → w.cell a ≡ Some c → c.fields.pinned ≡ false → c.reported ≡ true

-- an actor that is pinned, or that one that is reached holds
pub data IsReached (w : World) : ℕ → Type 0 where
  root : {a : ℕ} {c : Cell} → w.cell a ≡ Some c → c.fields.pinned ≡ true → IsReached w a
  edge : {b a : ℕ} → IsReached w b → held_on (w.cell b) a ≢ 0 → IsReached w a

-- the same while events are under way: an actor that is pinned, has a frame or a letter other than a
-- Confirm, that a letter loads, or that one that is needed holds
pub data IsNeeded (w : World) : ℕ → Type 0 where
  by_pin : {a : ℕ} {c : Cell} → w.cell a ≡ Some c → c.fields.pinned ≡ true → IsNeeded w a
  by_frame : {a : ℕ} {c : Cell} → w.cell a ≡ Some c → c.frame ≢ None → IsNeeded w a
  by_letter : {a : ℕ} → ¬ OnlyConfirms (w.mail a) → IsNeeded w a
  by_load : {a : ℕ} → w.loaded a ≢ 0 → IsNeeded w a
  by_holder : {b a : ℕ} → IsNeeded w b → held_on (w.cell b) a ≢ 0 → IsNeeded w a
