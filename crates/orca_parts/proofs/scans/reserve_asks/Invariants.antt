use Rattle.std.proofs.Common.{drop}
use Rattle.orca_parts.proofs.Reserving.{Reserves}
use Rattle.orca_parts.proofs.scans.reserve_asks.Given as goal

abbrev pub invariant-loop-member : goal.invariant-loop-member
invariant-loop-member l = Reserves (drop l.member-index l.members) l.members l.fn.table l.table
