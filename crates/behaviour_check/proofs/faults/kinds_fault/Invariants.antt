use Rattle.std.proofs.Common.{◌≡◌}
use Rattle.behaviour_check.specs.Rules.{kind_faults}
use Rattle.behaviour_check.proofs.FaultLists.{first_from}
use Rattle.behaviour_check.proofs.faults.kinds_fault.Given as goal

abbrev pub invariant-loop-i : goal.invariant-loop-i
invariant-loop-i l = first_from (kind_faults l.kinds) l.kinds l.i ≡ first_from
    (kind_faults l.kinds) l.kinds 0
