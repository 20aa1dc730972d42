use Rattle.std.proofs.Common.{refl}
use Rattle.seat_hall.proofs.Boards.{stays}
use Rattle.seat_hall.proofs.board.SeatPassBoard.ask_stop.Goals as goal

pub returns-clause-stays : goal.returns-clause-stays
returns-clause-stays g c = stays _ _ _ c.self.view_is refl 1 c.ask_stop.ensures.stays.stays c.ask_stop.ensures.stays.cells
