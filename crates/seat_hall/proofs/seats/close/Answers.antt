use Rattle.seat_hall.proofs.Ends.{closes, last_hall}
use Rattle.seat_hall.proofs.Keeps.{few}
use Rattle.seat_hall.proofs.seats.close.Goals as goal

pub close-requires-clause-few : goal.close-requires-clause-few
close-requires-clause-few c = few

pub returns-in-Ok : goal.returns-in-Ok
returns-in-Ok c =
    closes c.args.seat c.in-Ok.hall.logged c.leave.result
    (last_hall c.args.number c.args.seat c.in-Ok.hall _ c.requires.seated.1 c.in-Ok.ensures.closed) c.leave.ensures
