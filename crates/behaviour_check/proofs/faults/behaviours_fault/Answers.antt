use Rattle.std.proofs.Common.{arith}
use Rattle.std.proofs.lemmas.Grind.{common_steps}
use Rattle.behaviour_check.proofs.FaultLists.{behaviours_next}
use Rattle.behaviour_check.proofs.faults.behaviours_fault.Goals as goal

pub returns-then-has_behaviour : goal.returns-then-has_behaviour
returns-then-has_behaviour c =
    let next = behaviours_next c.args.kinds.now c.args.kind_number c.args.kind.now _ c.loop-i.i _ _
    c.as_slice-behaviours.ensures c.loop-i-test.true c.index-behaviours-i.is c.has_behaviour.ensures in
    grind (arith, common_steps, next)

pub returns-then-is_some : goal.returns-then-is_some
returns-then-is_some c =
    let next = behaviours_next c.args.kinds.now c.args.kind_number c.args.kind.now _ c.loop-i.i _ _
    c.as_slice-behaviours.ensures c.loop-i-test.true c.index-behaviours-i.is c.has_behaviour.ensures in
    grind (arith, common_steps, next)

pub loop-i-preserved : goal.loop-i-preserved
loop-i-preserved c =
    let next = behaviours_next c.args.kinds.now c.args.kind_number c.args.kind.now _ c.loop-i.i _ _
    c.as_slice-behaviours.ensures c.loop-i-test.true c.index-behaviours-i.is c.has_behaviour.ensures in
    grind (arith, common_steps, next)
