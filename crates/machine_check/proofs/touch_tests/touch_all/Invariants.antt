use Rattle.std.proofs.Common.{◌≡◌, []}
use Rattle.orca_core.specs.Machine.{NoneIsAway}
use Rattle.machine_check.proofs.touch_tests.touch_all.Given as goal

abbrev pub invariant-loop-touching : goal.invariant-loop-touching
invariant-loop-touching l = NoneIsAway l.machine × (l.machine.blocks ≡ [])
