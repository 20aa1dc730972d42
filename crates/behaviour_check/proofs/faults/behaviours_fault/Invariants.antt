use Rattle.std.proofs.Common.{◌≡◌}
use Rattle.behaviour_check.specs.Rules.{behaviour_faults}
use Rattle.behaviour_check.proofs.FaultLists.{first_from}
use Rattle.behaviour_check.proofs.faults.behaviours_fault.Given as goal

abbrev pub invariant-loop-i : goal.invariant-loop-i
invariant-loop-i l =
    let f = behaviour_faults l.kinds (l.kind_number, l.kind) in
    first_from f l.kind.behaviours l.i ≡ first_from f l.kind.behaviours 0
