use Rattle.std.proofs.Common.{◌∙◌, ap}
use Rattle.letter_kinds.specs.Detector.{in_token}
use Rattle.detector_tokens.specs.Room.{TokensValue}
use Rattle.detector_tokens.proofs.OpenLemmas.{member_found}
use Rattle.detector_tokens.proofs.tokens.Tokens.has_member.Goals as goal

pub returns-then-not-is_empty : goal.returns-then-not-is_empty
returns-then-not-is_empty c =
    c.is_some.ensures ∙ (member_found c.deref.result.now c.args.actor c.place_of_member.result c.place_of_member.ensures.some c.place_of_member.ensures.none
    ∙ ap (λ ts. in_token ts c.args.actor) (c.deref.ensures.value ∙ ap (λ (v : TokensValue). v.list) c.self.view_is))
