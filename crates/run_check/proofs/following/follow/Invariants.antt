use Rattle.std.proofs.Common.{◌≡◌, []}
use Rattle.orca_core.specs.Machine.{NoneIsAway}
use Rattle.run_check.proofs.following.follow.Given as goal

abbrev pub invariant-loop-i : goal.invariant-loop-i
invariant-loop-i l = NoneIsAway l.orca × (l.orca.blocks ≡ [])
