use Rattle.std.proofs.Common.{sym, ◌∙◌, ap, Some, slice_get, ◌≡◌}
use Rattle.letter_kinds.specs.Detector.{Token, note_ack}
use Rattle.detector_tokens.proofs.MarksSteps.{some_missing, marks_after, acks_one, acks_again, acks_other}
use Rattle.detector_tokens.proofs.token.Token.note_ack.Goals as goal

pub overflow_sub-self : goal.overflow_sub-self
overflow_sub-self c =
    let at : slice_get c.self.inside.members.items c.in-Some.i ≡ Some c.args.actor = rw (← c.deref.ensures.value) c.in-Some.ensures.some in
    some_missing c.self.inside.members.items c.self.inside.acked.items c.self.inside.missing c.in-Some.i c.args.actor c.index.result.now c.self.invariant at c.index.ensures c.if-not-index.true

pub invariant_of-self : goal.invariant_of-self
invariant_of-self c =
    let at : slice_get c.self.inside.members.items c.in-Some.i ≡ Some c.args.actor = rw (← c.deref.ensures.value) c.in-Some.ensures.some in
    marks_after c.self.inside.members.items c.self.inside.acked.items c.self.inside.missing c.in-Some.i c.args.actor c.index.result.now c.self.invariant at c.index.ensures c.if-not-index.true

pub returns-then-not-index : goal.returns-then-not-index
returns-then-not-index c =
    let at : slice_get c.self.inside.members.items c.in-Some.i ≡ Some c.args.actor = rw (← c.deref.ensures.value) c.in-Some.ensures.some in
    acks_one c.self.inside.number c.self.inside.members.items c.self.inside.acked.items c.self.inside.missing c.in-Some.i c.args.actor c.self.invariant at
    ∙ ap (λ (t : Token). note_ack t.number c.args.actor t) c.self.view_is

pub returns-else-not-index : goal.returns-else-not-index
returns-else-not-index c =
    let at : slice_get c.self.inside.members.items c.in-Some.i ≡ Some c.args.actor = rw (← c.deref.ensures.value) c.in-Some.ensures.some in
    sym c.self.view_is ∙ (acks_again c.self.inside.number c.self.inside.members.items c.self.inside.acked.items c.self.inside.missing c.in-Some.i c.args.actor c.index.result.now c.self.invariant at c.index.ensures c.if-not-index.false
    ∙ ap (λ (t : Token). note_ack t.number c.args.actor t) c.self.view_is)

pub returns-in_default : goal.returns-in_default
returns-in_default c =
    sym c.self.view_is ∙ (acks_other c.self.inside.number c.self.inside.members.items c.self.inside.acked.items c.self.inside.missing c.args.actor c.self.invariant (rw (← c.deref.ensures.value) c.in_default.ensures.none)
    ∙ ap (λ (t : Token). note_ack t.number c.args.actor t) c.self.view_is)
