-- What an event leaves as it was.
use Rattle.std.specs.Prelude.{ℕ, ◌≡◌, ◌≢◌, false, List, Option, Some}
use Rattle.letter_kinds.specs.Detector.{has, token_numbered}
use Rattle.letter_kinds.specs.Reports.{kept_report}
use Rattle.machine_rules.specs.Actors.{seat_at}
use Rattle.machine_rules.specs.State.{State}

-- but for these actors and this token, seats, kept reports and open tokens are as before
pub record LeavesOthers (actors : List ℕ) (token : Option ℕ) (s t : State) : Type 0 where
  pub seats : (a : ℕ) → has actors a ≡ false → seat_at t.actors a ≡ seat_at s.actors a
  pub reports : (a : ℕ) → has actors a ≡ false
      → kept_report t.detector.kept a ≡ kept_report s.detector.kept a
  pub tokens : (n : ℕ) → token ≢ Some n → token_numbered n t.detector ≡ token_numbered n s.detector
