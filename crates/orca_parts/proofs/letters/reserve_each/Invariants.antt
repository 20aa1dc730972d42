use Rattle.std.proofs.Common.{drop}
use Rattle.orca_parts.specs.Touched.{receivers}
use Rattle.orca_parts.proofs.Reserving.{Reserves}
use Rattle.orca_parts.proofs.letters.reserve_each.Given as goal

abbrev pub invariant-loop-group : goal.invariant-loop-group
invariant-loop-group l = Reserves (receivers (drop l.group-index l.groups)) (receivers l.groups) l.fn.table l.table
