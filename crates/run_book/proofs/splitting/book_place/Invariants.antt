use Rattle.std.proofs.Common.{ℕ, List, ◌≤◌, ◌-◌, length, take}
use Rattle.run_book.specs.Splits.{EndsLine, HasBookBehind}
use Rattle.run_book.proofs.splitting.book_place.Given as goal

abbrev pub invariant-loop-from : goal.invariant-loop-from
invariant-loop-from l = record {
  line : l.from ≤ length l.text → EndsLine (take l.from l.text);
  first : (before : List ℕ) → HasBookBehind l.text before → l.from ≤ length before;
}

abbrev pub decreases-loop-from : goal.decreases-loop-from
decreases-loop-from l = length l.text - l.from
