use Rattle.std.proofs.Common.{sym, subst, ◌∙◌, ◌≢◌, ◌≡◌, ap, Some, ◌<◌, length, filter, not, slice_get, get_or}
use Rattle.std.specs.Prelude.{◌==◌}
use Rattle.letter_kinds.specs.Detector.{Token}
use Rattle.detector_tokens.specs.Open.{first_acked}
use Rattle.detector_tokens.specs.Room.{TokensValue}
use Rattle.detector_tokens.proofs.Indexing.{first_stays, other_ready, place_gives, taken, taken_index}
use Rattle.detector_tokens.proofs.tokens.Tokens.take_at.Goals as goal

pub invariant_of-self : goal.invariant_of-self
invariant_of-self c =
    let within : c.args.i < length c.self.inside.open.items = subst (λ (v : TokensValue). c.args.i < length v.list) (sym c.self.view_is) c.requires in
    taken_index c.self.inside.open.items c.remove-token.new.self.items (slice_get c.self.inside.told) c.self.inside.ready c.first_acked-self-inside.result c.args.i c.remove-token.result
    c.self.invariant within c.remove-token.ensures.value c.remove-token.ensures.items (c.first_acked-self-inside.ensures ∙ ap first_acked c.deref.ensures.value)

pub invariant_of-self-else-eq : goal.invariant_of-self-else-eq
invariant_of-self-else-eq c =
    let within : c.args.i < length c.self.inside.open.items = subst (λ (v : TokensValue). c.args.i < length v.list) (sym c.self.view_is) c.requires in
    let other : c.self.inside.ready ≢ Some c.remove-token.result.number = subst (λ n. c.self.inside.ready ≢ Some n) c.number.ensures (other_ready c.self.inside.ready c.number.result (sym c.eq.ensures ∙ c.if-eq.false)) in
    taken_index c.self.inside.open.items c.remove-token.new.self.items (slice_get c.self.inside.told) c.self.inside.ready c.self.inside.ready c.args.i c.remove-token.result
    c.self.invariant within c.remove-token.ensures.value c.remove-token.ensures.items
    (first_stays c.self.inside.open.items c.remove-token.new.self.items (slice_get c.self.inside.told) c.self.inside.ready c.args.i c.remove-token.result
    c.self.invariant within c.remove-token.ensures.value c.remove-token.ensures.items other)

pub returns-then-eq-clause-token : goal.returns-then-eq-clause-token
returns-then-eq-clause-token c = place_gives c.args.self.now.list c.args.i c.remove-token.result c.requires (subst (λ (v : TokensValue). c.remove-token.result ≡ get_or v.list c.args.i c.remove-token.result) c.self.view_is c.remove-token.ensures.value)

pub returns-then-eq-clause-others : goal.returns-then-eq-clause-others
returns-then-eq-clause-others c =
    let within : c.args.i < length c.self.inside.open.items = subst (λ (v : TokensValue). c.args.i < length v.list) (sym c.self.view_is) c.requires in
    taken c.self.inside.open.items c.remove-token.new.self.items (slice_get c.self.inside.told) c.self.inside.ready c.args.i c.remove-token.result
    c.self.invariant within c.remove-token.ensures.value c.remove-token.ensures.items
    ∙ ap (λ (v : TokensValue). filter (λ (t : Token). not (t.number == c.remove-token.result.number)) v.list) c.self.view_is

pub returns-else-eq-clause-token : goal.returns-else-eq-clause-token
returns-else-eq-clause-token c = place_gives c.args.self.now.list c.args.i c.remove-token.result c.requires (subst (λ (v : TokensValue). c.remove-token.result ≡ get_or v.list c.args.i c.remove-token.result) c.self.view_is c.remove-token.ensures.value)

pub returns-else-eq-clause-others : goal.returns-else-eq-clause-others
returns-else-eq-clause-others c =
    let within : c.args.i < length c.self.inside.open.items = subst (λ (v : TokensValue). c.args.i < length v.list) (sym c.self.view_is) c.requires in
    taken c.self.inside.open.items c.remove-token.new.self.items (slice_get c.self.inside.told) c.self.inside.ready c.args.i c.remove-token.result
    c.self.invariant within c.remove-token.ensures.value c.remove-token.ensures.items
    ∙ ap (λ (v : TokensValue). filter (λ (t : Token). not (t.number == c.remove-token.result.number)) v.list) c.self.view_is
