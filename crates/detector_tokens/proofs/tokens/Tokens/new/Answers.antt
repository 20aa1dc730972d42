use Rattle.std.proofs.Common.{refl}
use Rattle.detector_tokens.proofs.RisingLemmas.{none_rise}
use Rattle.detector_tokens.proofs.tokens.Tokens.new.Goals as goal

pub invariant_of-result : goal.invariant_of-result
invariant_of-result c = rw c.new.ensures.items record { numbered = none_rise; members = tt; first = refl }
