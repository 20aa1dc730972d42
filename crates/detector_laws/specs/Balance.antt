-- What the detector's laws take from the counts of actors.
use Rattle.std.specs.Prelude.{ℕ, zero, suc, ◌+◌, ◌≡◌, ◌<◌, Some}
use Rattle.machine_rules.specs.Cell.{Cell}
use Rattle.detector_laws.specs.Cells.{held_on}
use Rattle.detector_laws.specs.Confirms.{OnlyConfirms}
use Rattle.detector_laws.specs.World.{World}

-- the sum of f over the numbers below n
abbrev pub sum_below : ℕ → (ℕ → ℕ) → ℕ
sum_below zero f = 0
sum_below (suc n) f = f n + sum_below n f

-- an actor's count is what all hold on it and what letters load. An actor whose letters are all
-- Confirms has no Inc and no Dec under way
pub record ActorsAreBalanced (w : World) : Type 0 where
  pub full : (x : ℕ) (c : Cell) → w.cell x ≡ Some c → OnlyConfirms (w.mail x)
      → c.holdings.count ≡ sum_below w.made (λ b. held_on (w.cell b) x) + w.loaded x
  pub made : (b : ℕ) (c : Cell) → w.cell b ≡ Some c → b < w.made
  -- no actor holds a count on itself
  pub own : (b : ℕ) → held_on (w.cell b) b ≡ 0
