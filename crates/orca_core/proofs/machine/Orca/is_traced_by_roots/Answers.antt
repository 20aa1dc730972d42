use Rattle.std.proofs.Common.{subst}
use Rattle.orca_core.specs.Machine.{IsReached, Machine}
use Rattle.orca_core.proofs.Lasting.{is_traced_by_roots}
use Rattle.orca_core.proofs.machine.Orca.is_traced_by_roots.Goals as goal

pub returns : goal.returns
returns c = is_traced_by_roots c.args.self.now (subst (λ (m : Machine). IsReached m.state m.steps) c.self.view_is c.self.invariant.reached)
