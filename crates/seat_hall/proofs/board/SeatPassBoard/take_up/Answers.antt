use Rattle.std.proofs.Common.{◌≡◌, ◌≤◌, ◌+◌, ◌++◌, IfNone, IfSome, refl, subst}
use Rattle.std.proofs.lemmas.Option.{IfSome_then}
use Rattle.seat_hall.specs.Advances.{TakesUp, claiming, taking}
use Rattle.seat_hall.specs.Boards.{PassValue, out_of}
use Rattle.seat_hall.specs.Passes.{Calls, out}
use Rattle.seat_hall.proofs.Advances.{taken_up_actor, taken_up_one}
use Rattle.seat_hall.proofs.Boards.{stays}
use Rattle.seat_hall.proofs.board.SeatPassBoard.take_up.Goals as goal

pub returns-clause-actor : goal.returns-clause-actor
returns-clause-actor g c =
    taken_up_actor c.self.inside.number c.args.a c.self.inside.token c.take_up-took.new.seat c.take_up-took.new.next c.take_up-took.ensures.claim

pub returns-clause-fresh : goal.returns-clause-fresh
returns-clause-fresh g c = IfSome_then c.take_up-took.new.next c.take_up-took.ensures.claim (λ task its. its.fresh)

pub returns-clause-owns : goal.returns-clause-owns
returns-clause-owns g c = IfSome_then c.take_up-took.new.next c.take_up-took.ensures.claim (λ task its. its.may)

pub returns-clause-one : goal.returns-clause-one
returns-clause-one g c =
    let new = c.take_up-took.new.seat in let next = c.take_up-took.new.next in
    subst (λ (p : PassValue). IfSome next (λ _. out c.self.inside.number new ≤ out_of p + 1)) c.self.view_is
    (taken_up_one c.self.inside.number c.args.a c.self.inside.token new next c.take_up-took.ensures.claim)

pub returns-clause-none : goal.returns-clause-none
returns-clause-none g c =
    let new = c.take_up-took.new.seat in
    subst (λ (p : PassValue). IfNone c.take_up-took.new.next (out c.self.inside.number new ≡ out_of p)) c.self.view_is c.take_up-took.ensures.none

pub returns-clause-stays : goal.returns-clause-stays
returns-clause-stays g c = stays _ _ _ c.self.view_is refl 1 c.take_up-took.ensures.stays.stays c.take_up-took.ensures.stays.cells

pub returns-clause-more : goal.returns-clause-more
returns-clause-more g c =
    let new = c.take_up-took.new.seat in
    subst (λ (p : PassValue). IfSome c.take_up-took.new.next (λ _. out c.self.inside.number new ≡ out_of p + 1)) c.self.view_is
    (IfSome_then c.take_up-took.new.next c.take_up-took.ensures.claim (λ task its. its.more))

pub returns-clause-ok : goal.returns-clause-ok
returns-clause-ok g c =
    let new = c.take_up-took.new.seat in let next = c.take_up-took.new.next in let took = c.take_up-took.result in
    let a = c.args.a in
    subst (λ (p : PassValue). Calls p.number p.token new (taking p.number a took ++ claiming p.number a next)
    (TakesUp p.number a took next)) c.self.view_is c.take_up-took.ensures.calls
