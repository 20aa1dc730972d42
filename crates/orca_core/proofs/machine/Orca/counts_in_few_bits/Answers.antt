use Rattle.std.proofs.Common.{subst}
use Rattle.orca_core.specs.Machine.{IsReached, Machine}
use Rattle.orca_core.proofs.Lasting.{counts_in_few_bits}
use Rattle.orca_core.proofs.machine.Orca.counts_in_few_bits.Goals as goal

pub returns : goal.returns
returns c = counts_in_few_bits c.args.self.now (subst (λ (m : Machine). IsReached m.state m.steps) c.self.view_is c.self.invariant.reached)
