use Rattle.std.proofs.Common.{◌≡◌}
use Rattle.behaviour_check.specs.Rules.{step_faults}
use Rattle.behaviour_check.proofs.FaultLists.{first_from}
use Rattle.behaviour_check.proofs.faults.body_fault.Given as goal

abbrev pub invariant-loop-i : goal.invariant-loop-i
invariant-loop-i l =
    let f = step_faults l.kinds (l.kind_number, l.kind) (l.number, l.behaviour) in
    first_from f l.behaviour.body l.i ≡ first_from f l.behaviour.body 0
