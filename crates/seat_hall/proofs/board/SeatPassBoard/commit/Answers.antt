use Rattle.std.proofs.Common.{◌≡◌, ◌+◌, ap, sym, ◌∙◌, refl, arith}
use Rattle.seat_hall.specs.Boards.{out_of}
use Rattle.seat_hall.specs.Passes.{out}
use Rattle.seat_hall.proofs.Boards.{gives_up}
use Rattle.seat_hall.proofs.board.SeatPassBoard.commit.Goals as goal

pub returns-clause-less : goal.returns-clause-less
returns-clause-less g c = sym (ap out_of c.self.view_is) ∙ c.commit-answer.ensures.out

pub returns-clause-out : goal.returns-clause-out
returns-clause-out g c =
    let less : out_of c.args.self.now ≡ out c.self.inside.number c.commit-answer.new.seat + 1 =
    sym (ap out_of c.self.view_is) ∙ c.commit-answer.ensures.out in omega arith

pub returns-clause-stays : goal.returns-clause-stays
returns-clause-stays g c =
    let told = c.commit-answer.ensures.stays in
    gives_up _ _ _ c.self.view_is refl c.args.task.taken.cell.heap.owner told.stays told.cells
