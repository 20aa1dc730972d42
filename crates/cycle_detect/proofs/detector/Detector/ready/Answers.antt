use Rattle.std.proofs.Common.{subst, sym, IfSome}
use Rattle.letter_kinds.specs.Detector.{Detector}
use Rattle.detector_tokens.specs.Open.{IsLowestAcked}
use Rattle.cycle_detect.specs.Room.{DetectorValue}
use Rattle.cycle_detect.proofs.Closing.{lowest_acked}
use Rattle.cycle_detect.proofs.detector.Detector.ready.Goals as goal

pub returns-clause-lowest : goal.returns-clause-lowest
returns-clause-lowest c =
    let d : Detector = record { kept = c.self.inside.reports.list; tokens = c.self.inside.tokens.list; opened = c.self.inside.opened; news = c.self.inside.news } in
    subst (λ (v : DetectorValue). IfSome c.first_acked.result (IsLowestAcked v.state)) c.self.view_is
    (subst (λ o. IfSome o (IsLowestAcked d)) (sym c.first_acked.ensures.value) (lowest_acked d c.first_acked.ensures.numbered))
