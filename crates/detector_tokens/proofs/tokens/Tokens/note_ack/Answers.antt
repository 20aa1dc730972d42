use Rattle.std.proofs.Common.{sym, subst, ◌∙◌, ap, map}
use Rattle.std.specs.Prelude.{slice_get}
use Rattle.letter_kinds.specs.Detector.{note_ack}
use Rattle.detector_tokens.specs.Open.{IsNumberedAt}
use Rattle.detector_tokens.specs.Room.{TokensValue}
use Rattle.detector_tokens.proofs.Indexing.{acks_all, acked_index, pending_index}
use Rattle.detector_tokens.proofs.OpenLemmas.{acks_none}
use Rattle.detector_tokens.proofs.tokens.Tokens.note_ack.Goals as goal

pub invariant_of-self : goal.invariant_of-self
invariant_of-self c =
    let at : IsNumberedAt c.self.inside.open.items c.args.number c.in-Some.i = subst (λ ts. IsNumberedAt ts c.args.number c.in-Some.i) c.deref.ensures.value c.in-Some.ensures.some in
    rw c.lower_with.ensures (acked_index c.self.inside.open.items (slice_get c.self.inside.told) c.self.inside.ready c.args.number c.args.actor c.in-Some.i c.index_mut-token.result.now c.note_ack.new.self
    c.self.invariant at c.index_mut-token.ensures.value c.note_ack.ensures (sym c.is_acked.ensures ∙ c.if-is_acked.true))

pub invariant_of-self-else-is_acked : goal.invariant_of-self-else-is_acked
invariant_of-self-else-is_acked c =
    let at : IsNumberedAt c.self.inside.open.items c.args.number c.in-Some.i = subst (λ ts. IsNumberedAt ts c.args.number c.in-Some.i) c.deref.ensures.value c.in-Some.ensures.some in
    pending_index c.self.inside.open.items (slice_get c.self.inside.told) c.self.inside.ready c.args.number c.args.actor c.in-Some.i c.index_mut-token.result.now c.note_ack.new.self
    c.self.invariant at c.index_mut-token.ensures.value c.note_ack.ensures (sym c.is_acked.ensures ∙ c.if-is_acked.false)

pub returns-then-is_acked-clause-list : goal.returns-then-is_acked-clause-list
returns-then-is_acked-clause-list c =
    let at : IsNumberedAt c.self.inside.open.items c.args.number c.in-Some.i = subst (λ ts. IsNumberedAt ts c.args.number c.in-Some.i) c.deref.ensures.value c.in-Some.ensures.some in
    acks_all c.self.inside.open.items (slice_get c.self.inside.told) c.self.inside.ready c.args.number c.args.actor c.in-Some.i c.index_mut-token.result.now c.note_ack.new.self
    c.self.invariant at c.index_mut-token.ensures.value c.note_ack.ensures ∙ ap (λ (v : TokensValue). map (note_ack c.args.number c.args.actor) v.list) c.self.view_is

pub returns-else-is_acked-clause-list : goal.returns-else-is_acked-clause-list
returns-else-is_acked-clause-list c =
    let at : IsNumberedAt c.self.inside.open.items c.args.number c.in-Some.i = subst (λ ts. IsNumberedAt ts c.args.number c.in-Some.i) c.deref.ensures.value c.in-Some.ensures.some in
    acks_all c.self.inside.open.items (slice_get c.self.inside.told) c.self.inside.ready c.args.number c.args.actor c.in-Some.i c.index_mut-token.result.now c.note_ack.new.self
    c.self.invariant at c.index_mut-token.ensures.value c.note_ack.ensures ∙ ap (λ (v : TokensValue). map (note_ack c.args.number c.args.actor) v.list) c.self.view_is

pub returns-in_default-clause-list : goal.returns-in_default-clause-list
returns-in_default-clause-list c =
    sym (acks_none c.args.number c.args.actor c.args.self.now.list (rw (← c.self.view_is, ← c.deref.ensures.value) c.in_default.ensures.none))
