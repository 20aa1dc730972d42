use Rattle.std.proofs.Common.{subst}
use Rattle.orca_core.specs.Machine.{IsReached, Machine}
use Rattle.orca_core.proofs.Lasting.{comes_to_rest}
use Rattle.orca_core.proofs.machine.Orca.comes_to_rest.Goals as goal

pub returns : goal.returns
returns c = comes_to_rest c.args.self.now (subst (λ (m : Machine). IsReached m.state m.steps) c.self.view_is c.self.invariant.reached)
