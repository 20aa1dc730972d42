-- The members of a token that all acknowledged are done.
use Rattle.std.proofs.Common.{◌≡◌, true, Some, sym, ◌∙◌, subst}
use Rattle.event_rule.specs.declared.event.Event.TheVariants.{Reap}
use Rattle.letter_kinds.specs.Detector.{Token, has}
use Rattle.machine_rules.proofs.Enabling.{enabled_exactly}
use Rattle.machine_rules.proofs.Guards.{acked_open}
use Rattle.machine_laws.proofs.Done.{runs_reap_the_done}
use Rattle.cell_laws.specs.Reaps.{TheAcknowledgedAreDone}

pub the_acknowledged_are_done : TheAcknowledgedAreDone
the_acknowledged_are_done program options heavy book t run number token acked a member =
    let on = (enabled_exactly t (Reap number)).1 (token, acked) in
    let takes = runs_reap_the_done program options heavy book t run number on in
    let found : Some token ≡ Some takes.token = sym (acked_open number t.detector token acked).0 ∙ takes.is_open in
    let same : token ≡ takes.token = cc in
    takes.done a (subst (λ (q : Token). has q.members a ≡ true) same member)
