use Rattle.std.proofs.Common.{◌≢◌, ℕ, ◌<◌, Some}
use Rattle.seat_hall.specs.Log.{claim_in}
use Rattle.seat_hall.proofs.hall.lowest_in.Given as goal

abbrev pub invariant-loop-a : goal.invariant-loop-a
invariant-loop-a l = (b pass : ℕ) → b < l.a → claim_in l.claims b ≢ Some pass
