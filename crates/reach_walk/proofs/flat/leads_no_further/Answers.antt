use Rattle.std.proofs.Common.{arith}
use Rattle.reach_walk.proofs.flat.leads_no_further.Goals as goal

pub returns-in-Obj-clause-steps : goal.returns-in-Obj-clause-steps
returns-in-Obj-clause-steps g c =
    let taken = c.leads_nowhere.ensures.steps in
    (omega (arith, c.tick.ensures, taken.0), omega (arith, c.tick.ensures, taken.1))
