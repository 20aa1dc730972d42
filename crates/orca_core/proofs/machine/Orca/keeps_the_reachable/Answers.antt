use Rattle.std.proofs.Common.{subst}
use Rattle.orca_core.specs.Machine.{IsReached, Machine}
use Rattle.orca_core.proofs.Lasting.{keeps_the_reachable}
use Rattle.orca_core.proofs.machine.Orca.keeps_the_reachable.Goals as goal

pub returns : goal.returns
returns c = keeps_the_reachable c.args.self.now (subst (λ (m : Machine). IsReached m.state m.steps) c.self.view_is c.self.invariant.reached)
