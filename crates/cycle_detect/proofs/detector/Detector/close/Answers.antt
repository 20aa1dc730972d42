use Rattle.std.proofs.Common.{subst, sym, ◌∙◌, ◌≡◌, ◌≤◌, IfSome, Some}
use Rattle.std.specs.List.{AllByRecursion}
use Rattle.letter_kinds.specs.Detector.{Detector, Token, close_token, token_numbered}
use Rattle.cycle_detect.specs.Room.{DetectorValue}
use Rattle.cycle_detect.proofs.Closing.{closed_is, if_found}
use Rattle.detector_tokens.proofs.OpenLemmas.{each-filter}
use Rattle.cycle_detect.proofs.detector.Detector.close.Goals as goal

pub invariant_of-self : goal.invariant_of-self
invariant_of-self c =
    subst (AllByRecursion (λ (t : Token). t.number ≤ c.self.inside.opened)) (sym c.take.ensures.others) (each-filter _ _ c.self.inside.tokens.list c.self.invariant)

pub invariant_of-self-in_default : goal.invariant_of-self-in_default
invariant_of-self-in_default c =
    subst (AllByRecursion (λ (t : Token). t.number ≤ c.self.inside.opened)) (sym c.take.ensures.others) (each-filter _ _ c.self.inside.tokens.list c.self.invariant)

pub returns-in-Some : goal.returns-in-Some
returns-in-Some c =
    let d : Detector = record { kept = c.self.inside.reports.list; tokens = c.self.inside.tokens.list; opened = c.self.inside.opened; news = c.self.inside.news } in
    let new : Detector = record { kept = c.drop_all.new.self.list; tokens = c.take.new.self.list; opened = c.self.inside.opened; news = c.self.inside.news } in
    let found : token_numbered c.args.token d ≡ Some c.in-Some.closed = sym c.take.ensures.token ∙ c.in-Some.is in
    subst (λ (v : DetectorValue). IfSome (token_numbered c.args.token v.state) (λ t. new ≡ close_token t v.state)) c.self.view_is
    (if_found (token_numbered c.args.token d) c.in-Some.closed (λ t. new ≡ close_token t d) found
    (closed_is d c.in-Some.closed c.args.token c.members.result.now c.drop_all.new.self.list c.take.new.self.list found c.members.ensures.value c.drop_all.ensures.list c.take.ensures.others))
