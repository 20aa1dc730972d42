use Rattle.std.proofs.Common.{◌≡◌, ◌++◌, take}
use Rattle.orca_parts.specs.Touched.{receivers}
use Rattle.orca_parts.proofs.touches.push_receivers.Given as goal

abbrev pub invariant-loop-out : goal.invariant-loop-out
invariant-loop-out g l = l.names.items ≡ l.fn.names.items ++ receivers (take l.out-index l.outs)
