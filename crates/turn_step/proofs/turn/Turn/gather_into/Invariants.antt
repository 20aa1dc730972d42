use Rattle.std.proofs.Common.{◌≡◌, ◌++◌, take, map}
use Rattle.turn_rules.specs.Segment.{value_at}
use Rattle.turn_step.proofs.turn.Turn.gather_into.Given as goal

abbrev pub invariant-loop-r : goal.invariant-loop-r
invariant-loop-r l = l.args ≡ l.fn.args ++ map (value_at l.self) (take l.r-index l.numbers)
