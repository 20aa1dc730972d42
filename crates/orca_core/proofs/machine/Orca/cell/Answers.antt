use Rattle.std.proofs.Common.{subst}
use Rattle.std.specs.Prelude.{IfSome}
use Rattle.actor_cell.specs.Tells.{Tells}
use Rattle.orca_parts.specs.Blocks.{AreKept}
use Rattle.orca_core.specs.Machine.{Machine}
use Rattle.orca_core.proofs.Untold.{seen_kept}
use Rattle.orca_core.proofs.machine.Orca.cell.Goals as goal

pub returns-clause-blocks : goal.returns-clause-blocks
returns-clause-blocks c =
    let m = c.self.inside.core.parts in
    subst (λ (x : Machine). IfSome c.cell.result (λ cell. AreKept x.blocks (Tells cell.now))) c.self.view_is
    (seen_kept m.blocks m.table.slots c.args.a c.cell.result c.self.invariant.fit.kept c.cell.ensures.cell)
