use Rattle.std.proofs.Common.{◌≡◌, ◌∙◌, ap, false, sym, subst}
use Rattle.std.specs.Prelude.{slice_get}
use Rattle.letter_kinds.specs.Detector.{in_token}
use Rattle.detector_tokens.specs.Open.{HasMemberAt, IsTokenOf, token_of}
use Rattle.detector_tokens.specs.Room.{TokensValue}
use Rattle.detector_tokens.proofs.Indexing.{is_token_of, token_of_member}
use Rattle.detector_tokens.proofs.OpenLemmas.{no-member}
use Rattle.detector_tokens.proofs.tokens.Tokens.of_member.Goals as goal

pub returns-in-Some-clause-value : goal.returns-in-Some-clause-value
returns-in-Some-clause-value c =
    let at : HasMemberAt c.self.inside.open.items c.args.actor c.in-Some.i = subst (λ ts. HasMemberAt ts c.args.actor c.in-Some.i) c.deref.ensures.value c.in-Some.ensures.some in
    token_of_member c.self.inside.open.items (slice_get c.self.inside.told) c.self.inside.ready c.args.actor c.in-Some.i c.index.result.now c.self.invariant at c.index.ensures
    ∙ ap (λ (v : TokensValue). token_of c.args.actor v.list) c.self.view_is

pub returns-in-Some-clause-one : goal.returns-in-Some-clause-one
returns-in-Some-clause-one c =
    let at : HasMemberAt c.self.inside.open.items c.args.actor c.in-Some.i = subst (λ ts. HasMemberAt ts c.args.actor c.in-Some.i) c.deref.ensures.value c.in-Some.ensures.some in
    subst (λ (v : TokensValue). IsTokenOf v.list c.args.actor c.index.result.now) c.self.view_is
    (is_token_of c.self.inside.open.items (slice_get c.self.inside.told) c.self.inside.ready c.args.actor c.in-Some.i c.index.result.now c.self.invariant at c.index.ensures)

pub returns-in-None-clause-value : goal.returns-in-None-clause-value
returns-in-None-clause-value c =
    sym (no-member c.args.actor c.args.self.now.list
    (subst (λ ts. in_token ts c.args.actor ≡ false) (c.deref.ensures.value ∙ ap (λ (v : TokensValue). v.list) c.self.view_is) c.in-None.ensures.none))
