use Rattle.std.proofs.Common.{◌≡◌, map}
use Rattle.count_ledger.specs.Lines.{line_below}
use Rattle.count_ledger.proofs.ledger.tally.Given as goal

abbrev pub invariant-loop-a : goal.invariant-loop-a
invariant-loop-a l = l.sums.items ≡ map (line_below l.a l.orca.state.actors) l.things.items
