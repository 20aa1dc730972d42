use Rattle.std.proofs.Common.{subst}
use Rattle.orca_core.specs.Machine.{IsReached, Machine}
use Rattle.orca_core.proofs.machine.Orca.weight_is_above_zero.Goals as goal

pub returns : goal.returns
returns c =
    let reached = subst (λ (m : Machine). IsReached m.state m.steps) c.self.view_is c.self.invariant.reached in
    reached.heavy
