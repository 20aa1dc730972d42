use Rattle.std.proofs.Common.{◌≡◌, ℕ, ◌+◌, ◌*◌, ◌<◌, ◌≤◌, take, map, length}
use Rattle.std.specs.Prelude.{slice_index}
use Rattle.letter_kinds.specs.Reports.{told_on_by}
use Rattle.cycle_detect.specs.Falling.{held_count}
use Rattle.cycle_detect.proofs.scan.add_all.Given as goal

abbrev pub invariant-loop-report : goal.invariant-loop-report
invariant-loop-report g l = record {
  added : (k : ℕ) → k < length l.names → slice_index l.told k ≡ slice_index l.fn.told k + told_on_by (slice_index l.names k) (map (λ r. r.now) (take l.report-index l.reports));
  cost : l.steps ≤ l.fn.steps + l.report-index + 2 * held_count (map (λ r. r.now) (take l.report-index l.reports));
}
