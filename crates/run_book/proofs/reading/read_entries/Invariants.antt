use Rattle.std.proofs.Common.{◌≡◌, ◌-◌, length}
use Rattle.run_book.specs.Progress.{IsReadTo}
use Rattle.run_book.proofs.reading.read_entries.Given as goal

abbrev pub invariant-loop-from : goal.invariant-loop-from
invariant-loop-from l = record {
  read : IsReadTo l.text l.header l.book.entries l.from;
  weight : l.book.weight ≡ l.header.weight;
  trace : l.book.trace ≡ l.header.trace;
}

abbrev pub decreases-loop-from : goal.decreases-loop-from
decreases-loop-from l = length l.text - l.from
