use Rattle.std.proofs.Common.{take}
use Rattle.std.specs.Prelude.{All}
use Rattle.machine_rules.specs.Left.{IsLeft}
use Rattle.why_path.proofs.holds.are_left.Given as goal

abbrev pub invariant-loop-line : goal.invariant-loop-line
invariant-loop-line l = All (λ r. IsLeft l.orca.state.actors r.thing) (take l.line-index l.reasons)
