use Rattle.std.proofs.Common.{take}
use Rattle.std.specs.Prelude.{All}
use Rattle.why_path.specs.Checks.{Holds}
use Rattle.why_path.proofs.holds.lines_hold.Given as goal

abbrev pub invariant-loop-line : goal.invariant-loop-line
invariant-loop-line l = All (Holds l.orca.state.actors l.reasons) (take l.line-index l.reasons)
