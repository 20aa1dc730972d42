use Rattle.std.proofs.Common.{sym}
use Rattle.seat_hall.proofs.Founds.{installable}
use Rattle.seat_hall.proofs.entering.may_install.Goals as goal

pub returns-in-Some : goal.returns-in-Some
returns-in-Some c = λ found is.
    installable c.args.orca.now c.args.e.now found.value c.in-Some.a c.cell-cell.result (sym c.in-Some.ensures) c.requires.home
    (c.requires.found found is) c.cell-cell.ensures.cell c.cell-cell.ensures.owner c.cell-cell.ensures.kept
