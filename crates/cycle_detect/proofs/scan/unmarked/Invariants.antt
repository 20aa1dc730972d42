use Rattle.std.proofs.Common.{◌≡◌, ◌+◌, ◌≤◌, filter, not, take}
use Rattle.detector_tokens.specs.Marks.{mark_of}
use Rattle.cycle_detect.proofs.scan.unmarked.Given as goal

abbrev pub invariant-loop-k : goal.invariant-loop-k
invariant-loop-k g l = record {
  found : l.found.items ≡ filter (λ a. not (mark_of l.names l.marks a)) (take l.k l.names);
  cost : l.steps ≤ l.fn.steps + l.k;
}
