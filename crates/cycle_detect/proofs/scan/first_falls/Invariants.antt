use Rattle.std.proofs.Common.{◌≡◌, ◌+◌, ◌≤◌, false, map, length, replicate}
use Rattle.cycle_detect.specs.Falling.{AreFalling}
use Rattle.detector_tokens.specs.Marks.{off_count}
use Rattle.cycle_detect.proofs.scan.first_falls.Given as goal

abbrev pub invariant-loop-k : goal.invariant-loop-k
invariant-loop-k g l = record {
  told : l.standing.told.items ≡ l.fn.standing.told.items;
  falling : AreFalling (map (λ r. r.now) l.reports) l.k (replicate (length l.names) false) l.standing.out.items l.standing.told.items l.standing.work.items;
  size : off_count l.standing.out.items + length l.standing.work.items ≡ length l.names;
  cost : l.steps ≤ l.fn.steps + l.k;
}
