use Rattle.std.proofs.Common.{◌∙◌, ap, sym}
use Rattle.std.specs.Prelude.{slice_get}
use Rattle.letter_kinds.specs.Detector.{Token, has}
use Rattle.detector_tokens.proofs.OpenLemmas.{in-untold, in-closed, in-other, if_none}
use Rattle.detector_tokens.proofs.tokens.place_of_member.Goals as goal

pub returns-in_err-number-clause-none : goal.returns-in_err-number-clause-none
returns-in_err-number-clause-none c =
    if_none _ (in-untold (slice_get c.args.told.now) c.args.actor c.args.tokens.now (sym c.get.ensures ∙ c.in_err-number.was) c.requires.told)

pub returns-in_err-i-clause-none : goal.returns-in_err-i-clause-none
returns-in_err-i-clause-none c =
    if_none _ (in-closed (slice_get c.args.told.now) c.in_ok-number.number c.args.actor c.args.tokens.now (sym c.get.ensures ∙ c.in_ok-number.was) c.in_err-i.ensures.none c.requires.told)

pub returns-else-has-clause-none : goal.returns-else-has-clause-none
returns-else-has-clause-none c =
    let at = c.in_ok-i.ensures.some in
    let token = c.index-tokens-i.result in
    in-other (slice_get c.args.told.now) c.in_ok-number.number c.args.actor c.args.tokens.now c.in_ok-i.i token
    (sym c.get.ensures ∙ c.in_ok-number.was) c.requires.numbered c.requires.told at.within (at.same token)
    (ap (λ (t : Token). has t.members c.args.actor) (sym c.index-tokens-i.is) ∙ (sym c.has.ensures ∙ c.if-has.false))
