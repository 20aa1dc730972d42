use Rattle.std.proofs.Common.{◌≡◌, ◌-◌, ◌≤◌, ℕ, false, length, get_or}
use Rattle.cycle_detect.proofs.reports.widen.Given as goal

abbrev pub invariant-loop-kept : goal.invariant-loop-kept
invariant-loop-kept l = record {
  same : (k : ℕ) → get_or l.kept k false ≡ get_or l.fn.kept k false;
  longer : length l.fn.kept ≤ length l.kept;
}

abbrev pub decreases-loop-kept : goal.decreases-loop-kept
decreases-loop-kept l = l.count - length l.kept
