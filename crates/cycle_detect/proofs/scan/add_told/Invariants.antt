use Rattle.std.proofs.Common.{◌≡◌, ℕ, ◌+◌, ◌*◌, ◌<◌, ◌≤◌, take, length}
use Rattle.std.specs.Prelude.{slice_index}
use Rattle.letter_kinds.specs.Reports.{told_on, report_told}
use Rattle.cycle_detect.proofs.scan.add_told.Given as goal

abbrev pub invariant-loop-entry : goal.invariant-loop-entry
invariant-loop-entry g l = record {
  added : (k : ℕ) → k < length l.names → slice_index l.told k ≡ slice_index l.fn.told k + told_on (slice_index l.names k) (report_told l.report.actor 0 (take l.entry-index l.entry-items));
  cost : l.steps ≤ l.fn.steps + 2 * l.entry-index;
}
