use Rattle.std.proofs.Common.{◌≡◌, map, take}
use Rattle.count_ledger.specs.Lines.{line_below}
use Rattle.count_ledger.proofs.ledger.first_lines.Given as goal

abbrev pub invariant-loop-thing : goal.invariant-loop-thing
invariant-loop-thing l = l.sums.items ≡ map (line_below 0 l.orca.state.actors) (take l.thing-index l.things)
