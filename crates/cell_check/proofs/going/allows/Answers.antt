use Rattle.letter_kinds.specs.Load.{as_load}
use Rattle.actor_cell.specs.Cells.{as_cell}
use Rattle.cell_check.proofs.Few.{can_move}
use Rattle.cell_check.proofs.going.allows.Goals as goal

pub returns : goal.returns
returns c = λ turn yes.
    let cell = c.args.cell.now in
    let found = c.args.found.now in
    can_move cell.heap.owner (as_cell cell).holdings turn found.doing found.args (as_load found.load) (as_load found.rows) found.things
    (c.are_spare.ensures c.if-not-are_spare.false) (c.are_low.ensures yes)
