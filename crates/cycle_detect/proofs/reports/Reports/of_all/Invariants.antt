use Rattle.std.proofs.Common.{◌≡◌, take}
use Rattle.letter_kinds.specs.Detector.{reports_of}
use Rattle.cycle_detect.proofs.reports.Reports.of_all.Given as goal

abbrev pub invariant-loop-actor : goal.invariant-loop-actor
invariant-loop-actor l = l.found.items ≡ reports_of l.self.list (take l.actor-index l.actors)
