use Rattle.std.proofs.Common.{subst}
use Rattle.std.specs.Prelude.{IfSome}
use Rattle.letter_kinds.specs.Telling.{ToldByOne}
use Rattle.orca_parts.specs.Blocks.{AreKept}
use Rattle.orca_core.specs.Machine.{Machine}
use Rattle.orca_core.proofs.Untold.{mail_kept}
use Rattle.orca_core.proofs.machine.Orca.mail.Goals as goal

pub returns-clause-blocks : goal.returns-clause-blocks
returns-clause-blocks c =
    let m = c.self.inside.core.parts in
    subst (λ (x : Machine). IfSome c.mail.result (λ mail. AreKept x.blocks (ToldByOne mail.now.brought))) c.self.view_is
    (mail_kept m.blocks m.table.slots c.args.a c.mail.result c.self.invariant.fit.kept c.mail.ensures)
