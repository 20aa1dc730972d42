use Rattle.std.proofs.Common.{◌≡◌, Some, subst}
use Rattle.letter_kinds.specs.Telling.{Told}
use Rattle.actor_cell.specs.Tells.{Tells, told_found}
use Rattle.orca_parts.specs.Founds.{IsFoundUntold}
use Rattle.orca_parts.proofs.Untold.{still_untold, untold_holds}
use Rattle.book_hall.proofs.copy.CellCopy.find.Goals as goal

pub found-requires-clause-stand : goal.found-requires-clause-stand
found-requires-clause-stand c = untold_holds _ (Tells c.args.self.now.cell) c.args.self.now.untold

pub returns-in_ok-found-in-Go-clause-own : goal.returns-in_ok-found-in-Go-clause-own
returns-in_ok-found-in-Go-clause-own c = λ known is.
    let copy = c.args.self.now in
    subst (λ f. IsFoundUntold copy.options copy.code.now copy.cell f) (let z : Some c.in_ok-found-in-Go.found ≡ Some known = is in cc)
    (c.in_ok-found-in-Go.ensures.found, still_untold (Tells copy.cell) (Told (told_found c.in_ok-found-in-Go.found)) copy.untold c.in_ok-found-in-Go.ensures.told)
