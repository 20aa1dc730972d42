use Rattle.std.proofs.Common.{refl}
use Rattle.seat_hall.proofs.Boards.{stays}
use Rattle.seat_hall.proofs.board.SeatPassBoard.enter_first.Goals as goal

pub returns-clause-stays : goal.returns-clause-stays
returns-clause-stays g c = stays _ _ _ c.self.view_is refl 1 c.enter_first-answer.ensures.stays.stays c.enter_first-answer.ensures.stays.cells
