use Rattle.seat_hall.proofs.Apart.{none_is_reaped}
use Rattle.seat_hall.proofs.laws.cells_are_never_reaped.Goals as goal

pub returns : goal.returns
returns c = none_is_reaped
