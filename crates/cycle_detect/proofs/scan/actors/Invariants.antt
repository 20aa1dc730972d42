use Rattle.std.proofs.Common.{◌≡◌, ◌+◌, take, map}
use Rattle.cycle_detect.specs.Kept.{actors_of}
use Rattle.cycle_detect.proofs.scan.actors.Given as goal

abbrev pub invariant-loop-report : goal.invariant-loop-report
invariant-loop-report g l = record {
  found : l.found.items ≡ actors_of (map (λ r. r.now) (take l.report-index l.reports));
  cost : l.steps ≡ l.fn.steps + l.report-index;
}
