use Rattle.std.proofs.Common.{refl}
use Rattle.seat_hall.proofs.Boards.{stays}
use Rattle.seat_hall.proofs.board.SeatPass.split.Goals as goal

pub returns-in_err-seat-clause-stays : goal.returns-in_err-seat-clause-stays
returns-in_err-seat-clause-stays g c = stays _ _ _ c.self.view_is refl 1 c.split.ensures.stays.stays c.split.ensures.stays.cells

pub returns-clause-stays : goal.returns-clause-stays
returns-clause-stays g c = stays _ _ _ c.self.view_is refl 1 c.split.ensures.stays.stays c.split.ensures.stays.cells
