use Rattle.detector_tokens.proofs.MarksSteps.{fresh_marks, fresh_token}
use Rattle.detector_tokens.proofs.token.Token.new.Goals as goal

pub invariant_of-result : goal.invariant_of-result
invariant_of-result c =
    fresh_marks c.args.members.now c.in_ok-from_slice.field-0.items c.in_ok-vec.field-0.items c.in_ok-from_slice.ensures.items
    (c.in_ok-vec.ensures.items_if_clones_equal (λ y e. e)) c.requires

pub returns : goal.returns
returns c =
    fresh_token c.args.number c.args.members.now c.in_ok-from_slice.field-0.items c.in_ok-vec.field-0.items c.in_ok-from_slice.ensures.items
    (c.in_ok-vec.ensures.items_if_clones_equal (λ y e. e))
