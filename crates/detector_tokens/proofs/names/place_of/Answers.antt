use Rattle.std.proofs.Common.{IfNone, subst, sym, false, ◌≡◌}
use Rattle.letter_kinds.specs.Detector.{has}
use Rattle.detector_tokens.proofs.RisingLemmas.{not_found}
use Rattle.detector_tokens.proofs.names.place_of.Goals as goal

pub returns-clause-none : goal.returns-clause-none
returns-clause-none c =
    subst (λ o. IfNone o (has c.args.names.now c.args.actor ≡ false)) (sym c.ok.ensures.value)
    (not_found c.args.names.now c.args.actor c.binary_search.result c.requires c.binary_search.ensures.position)
