use Rattle.std.proofs.Common.{◌≡◌, ◌+◌, ◌≤◌, ◌++◌, filter, length, map, not}
use Rattle.letter_kinds.specs.Detector.{in_token}
use Rattle.letter_kinds.specs.declared.note.Report.{Report}
use Rattle.cycle_detect.proofs.KeptLemmas.{those_from}
use Rattle.cycle_detect.proofs.scan.candidates.Given as goal

abbrev pub invariant-loop-report : goal.invariant-loop-report
invariant-loop-report g l = record {
  found : map (λ r. r.now) l.found.items ++ filter (λ (r : Report). not (in_token l.tokens.list r.actor)) (those_from l.from l.reports.list)
      ≡ filter (λ (r : Report). not (in_token l.tokens.list r.actor)) l.reports.list;
  cost : l.steps + length (those_from l.from l.reports.list) ≤ l.fn.steps + length l.reports.list;
}

abbrev pub decreases-loop-report : goal.decreases-loop-report
decreases-loop-report g l = length (those_from l.from l.reports.list)
