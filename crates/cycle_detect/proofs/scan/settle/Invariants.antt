use Rattle.std.proofs.Common.{◌≡◌, ℕ, ◌+◌, ◌*◌, ◌<◌, ◌≤◌, map, length}
use Rattle.std.specs.Prelude.{slice_index}
use Rattle.cycle_detect.specs.Falling.{AreFalling, held_left, told_without}
use Rattle.detector_tokens.specs.Marks.{off_count}
use Rattle.cycle_detect.proofs.scan.settle.Given as goal

abbrev pub invariant-loop-i : goal.invariant-loop-i
invariant-loop-i g l = record {
  falling : AreFalling (map (λ r. r.now) l.reports) (length l.names) l.off l.standing.out.items l.standing.told.items l.standing.work.items;
  told : (k : ℕ) → k < length l.names → slice_index l.standing.told.items k ≡ told_without (map (λ r. r.now) l.reports) l.off (slice_index l.names k);
  cost : l.steps + off_count l.standing.out.items + length l.standing.work.items + 2 * held_left (map (λ r. r.now) l.reports) l.off
      ≤ l.fn.steps + off_count l.fn.standing.out.items + length l.fn.standing.work.items + 2 * held_left (map (λ r. r.now) l.reports) l.fn.off;
}

abbrev pub decreases-loop-i : goal.decreases-loop-i
decreases-loop-i g l = off_count l.standing.out.items + length l.standing.work.items
