use Rattle.std.proofs.Common.{◌≡◌, filter, not, take}
use Rattle.letter_kinds.specs.Detector.{has}
use Rattle.letter_kinds.specs.declared.note.Report.{Report}
use Rattle.cycle_detect.proofs.reports.Reports.drop_all.Given as goal

abbrev pub invariant-loop-actor : goal.invariant-loop-actor
invariant-loop-actor l = record {
  list : l.self.list ≡ filter (λ (r : Report). not (has (take l.actor-index l.actors) r.actor)) l.fn.self.list;
  actors : l.self.actors ≡ l.fn.self.actors;
}
