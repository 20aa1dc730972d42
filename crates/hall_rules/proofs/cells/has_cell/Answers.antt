use Rattle.std.proofs.Common.{subst}
use Rattle.std.specs.Prelude.{◌↔◌, IsSomeAnd, IsTrue}
use Rattle.actor_cell.specs.Cells.{IsSame}
use Rattle.actor_cell.specs.Tells.{Tells}
use Rattle.orca_core.proofs.Blockless.{none_told}
use Rattle.hall_rules.proofs.cells.has_cell.Goals as goal

pub same-requires-clause-here : goal.same-requires-clause-here
same-requires-clause-here c = none_told c.args.orca.now.blocks (Tells c.in-Some.here.now) c.requires.none c.in-Some.ensures.blocks

pub returns-in-Some : goal.returns-in-Some
returns-in-Some c =
    subst (λ o. IsTrue c.same.result ↔ IsSomeAnd o (λ here. IsSame here c.args.cell.now)) c.in-Some.ensures.kept
    c.same.ensures
