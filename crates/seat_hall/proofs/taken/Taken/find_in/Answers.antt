use Rattle.std.proofs.Common.{OnOk, subst, sym}
use Rattle.letter_kinds.specs.Telling.{TellsNothing, Told}
use Rattle.actor_cell.specs.Founds.{IsFound}
use Rattle.actor_cell.specs.Tells.{Tells, told_found}
use Rattle.orca_parts.specs.Founds.{IsFoundUntold}
use Rattle.orca_parts.proofs.Untold.{ok_untold, untold_holds}
use Rattle.seat_hall.proofs.taken.Taken.find_in.Goals as goal

pub find_in-requires-clause-stand : goal.find_in-requires-clause-stand
find_in-requires-clause-stand c = untold_holds _ (Tells c.inside.result.now) (subst (λ x. TellsNothing (Tells x)) (sym c.inside.ensures) c.args.self.now.untold)

pub returns : goal.returns
returns c =
    let taken = c.args.self.now in
    let cell = c.inside.result.now in
    subst (λ x. OnOk c.find_in.result (IsFoundUntold taken.options taken.code.now x c.find_in.new.found)) c.inside.ensures
    (ok_untold c.find_in.result (IsFound taken.options taken.code.now cell c.find_in.new.found) (Tells cell) (Told (told_found c.find_in.new.found))
    (subst (λ x. TellsNothing (Tells x)) (sym c.inside.ensures) taken.untold) c.find_in.ensures.found c.find_in.ensures.told)
