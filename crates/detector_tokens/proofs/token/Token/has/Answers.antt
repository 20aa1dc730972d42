use Rattle.std.proofs.Common.{◌∙◌, ap}
use Rattle.letter_kinds.specs.Detector.{Token, has}
use Rattle.detector_tokens.proofs.RisingLemmas.{found_is_has}
use Rattle.detector_tokens.proofs.token.Token.has.Goals as goal

pub returns : goal.returns
returns c =
    c.is_some.ensures ∙ (found_is_has c.deref.result.now c.args.actor c.place_of.result c.place_of.ensures.some c.place_of.ensures.none
    ∙ (ap (λ ms. has ms c.args.actor) c.deref.ensures.value ∙ ap (λ (t : Token). has t.members c.args.actor) c.self.view_is))
