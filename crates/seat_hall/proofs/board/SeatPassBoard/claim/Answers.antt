use Rattle.std.proofs.Common.{◌≡◌, ◌+◌, ap, ◌∙◌, refl, arith}
use Rattle.seat_hall.specs.Boards.{PassValue, out_of}
use Rattle.seat_hall.specs.Passes.{out}
use Rattle.seat_hall.proofs.Boards.{stays}
use Rattle.seat_hall.proofs.board.SeatPassBoard.claim.Goals as goal

pub returns-in-Ok-clause-stays : goal.returns-in-Ok-clause-stays
returns-in-Ok-clause-stays g c = stays _ _ _ c.self.view_is refl 1 c.claim.ensures.stays.stays c.claim.ensures.stays.cells

pub returns-in-Ok-clause-more : goal.returns-in-Ok-clause-more
returns-in-Ok-clause-more g c = c.in-Ok.ensures.ok.more ∙ ap (λ (p : PassValue). out_of p + 1) c.self.view_is

pub returns-in-Ok-clause-one : goal.returns-in-Ok-clause-one
returns-in-Ok-clause-one g c =
    let more : out c.self.inside.number c.claim.new.seat ≡ out_of c.args.self.now + 1 =
    c.in-Ok.ensures.ok.more ∙ ap (λ (p : PassValue). out_of p + 1) c.self.view_is in omega arith

pub returns-after-self-clause-stays : goal.returns-after-self-clause-stays
returns-after-self-clause-stays g c = stays _ _ _ c.self.view_is refl 1 c.claim.ensures.stays.stays c.claim.ensures.stays.cells
