use Rattle.std.proofs.Common.{sym, subst, ◌∙◌, ap, false, ◌≡◌}
use Rattle.std.specs.Prelude.{slice_get}
use Rattle.letter_kinds.specs.Detector.{in_token}
use Rattle.detector_tokens.specs.Open.{AreIndexed, HasMemberAt}
use Rattle.detector_tokens.specs.Room.{TokensValue}
use Rattle.detector_tokens.proofs.Indexing.{cancels}
use Rattle.detector_tokens.proofs.OpenLemmas.{cancel-none}
use Rattle.detector_tokens.proofs.tokens.Tokens.cancel.Goals as goal

pub returns-in-Some-clause-list : goal.returns-in-Some-clause-list
returns-in-Some-clause-list c =
    c.take_at.ensures.others ∙ cancels c.args.self.now.list (slice_get c.self.inside.told) c.self.inside.ready c.args.actor c.in-Some.i c.take_at.result
    (subst (λ ts. AreIndexed ts (slice_get c.self.inside.told) c.self.inside.ready) (ap (λ (v : TokensValue). v.list) c.self.view_is) c.self.invariant)
    (subst (λ ts. HasMemberAt ts c.args.actor c.in-Some.i) (c.deref.ensures.value ∙ ap (λ (v : TokensValue). v.list) c.self.view_is) c.in-Some.ensures.some)
    c.take_at.ensures.token

pub returns-in_default-clause-list : goal.returns-in_default-clause-list
returns-in_default-clause-list c =
    sym (cancel-none c.args.actor c.args.self.now.list (subst (λ ts. in_token ts c.args.actor ≡ false) (c.deref.ensures.value ∙ ap (λ (v : TokensValue). v.list) c.self.view_is) c.in_default.ensures.none))
