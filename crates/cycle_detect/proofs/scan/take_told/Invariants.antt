use Rattle.std.proofs.Common.{◌≡◌, ℕ, ◌+◌, ◌*◌, ◌<◌, ◌≤◌, Bool, List, take, map, length}
use Rattle.std.specs.Prelude.{slice_index}
use Rattle.letter_kinds.specs.Reports.{told_on, report_told}
use Rattle.cycle_detect.specs.Falling.{AreFalling, told_without}
use Rattle.detector_tokens.specs.Marks.{off_count}
use Rattle.cycle_detect.proofs.scan.take_told.Given as goal

abbrev pub invariant-loop-entry : goal.invariant-loop-entry
invariant-loop-entry g l = record {
  long : (length l.standing.told.items ≡ length l.names) × (length l.standing.out.items ≡ length l.names);
  lowered : (k : ℕ) → k < length l.names → slice_index l.standing.told.items k + told_on (slice_index l.names k) (report_told l.report.actor 0 (take l.entry-index l.entry-items)) ≡ slice_index l.fn.standing.told.items k;
  falling : (off : List Bool) → AreFalling (map (λ r. r.now) l.reports) (length l.names) off l.fn.standing.out.items l.fn.standing.told.items l.fn.standing.work.items
      → ((k : ℕ) → k < length l.names → told_without (map (λ r. r.now) l.reports) off (slice_index l.names k) + told_on (slice_index l.names k) l.report ≤ slice_index l.fn.standing.told.items k)
      → AreFalling (map (λ r. r.now) l.reports) (length l.names) off l.standing.out.items l.standing.told.items l.standing.work.items;
  size : off_count l.standing.out.items + length l.standing.work.items ≡ off_count l.fn.standing.out.items + length l.fn.standing.work.items;
  cost : l.steps ≤ l.fn.steps + 2 * l.entry-index;
}
