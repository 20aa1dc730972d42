use Rattle.std.proofs.Common.{subst, sym, ◌≤◌}
use Rattle.std.specs.List.{AllByRecursion}
use Rattle.letter_kinds.specs.Detector.{Token}
use Rattle.cycle_detect.proofs.Closing.{opened-acks}
use Rattle.detector_tokens.proofs.OpenLemmas.{each-filter}
use Rattle.cycle_detect.proofs.detector.Detector.hear_prepared.Goals as goal

pub invariant_of-self-in-Unblock : goal.invariant_of-self-in-Unblock
invariant_of-self-in-Unblock c =
    subst (AllByRecursion (λ (t : Token). t.number ≤ c.self.inside.opened)) (sym c.cancel.ensures.list) (each-filter _ _ c.self.inside.tokens.list c.self.invariant)

pub invariant_of-self-in-Ack : goal.invariant_of-self-in-Ack
invariant_of-self-in-Ack c =
    subst (AllByRecursion (λ (t : Token). t.number ≤ c.self.inside.opened)) (sym c.note_ack.ensures.list)
    (opened-acks c.in-Ack.token c.in-Ack.actor c.self.inside.opened c.self.inside.tokens.list c.self.invariant)
