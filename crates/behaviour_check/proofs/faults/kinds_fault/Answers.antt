use Rattle.std.proofs.Common.{arith}
use Rattle.std.proofs.lemmas.Grind.{common_steps}
use Rattle.behaviour_check.proofs.FaultLists.{kinds_next}
use Rattle.behaviour_check.proofs.faults.kinds_fault.Goals as goal

pub returns-then-is_some : goal.returns-then-is_some
returns-then-is_some c =
    let next = kinds_next c.args.kinds.now c.loop-i.i _ _ c.loop-i-test.true c.index-kinds-i.is
    c.has_kind.ensures in
    grind (arith, common_steps, next)

pub loop-i-preserved : goal.loop-i-preserved
loop-i-preserved c =
    let next = kinds_next c.args.kinds.now c.loop-i.i _ _ c.loop-i-test.true c.index-kinds-i.is
    c.has_kind.ensures in
    grind (arith, common_steps, next)
