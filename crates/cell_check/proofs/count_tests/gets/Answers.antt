use Rattle.letter_kinds.specs.Load.{as_load}
use Rattle.actor_cell.specs.Cells.{as_cell}
use Rattle.cell_check.proofs.Few.{few_received}
use Rattle.cell_check.proofs.Telling.{alone_told}
use Rattle.cell_check.proofs.count_tests.gets.Goals as goal

pub takes-requires-clause-can : goal.takes-requires-clause-can
takes-requires-clause-can c =
    let cell = c.args.cell.now in
    few_received cell.heap.owner (as_load c.in_ok-load.load) (as_cell cell).holdings c.requires.fresh (c.are_spare.ensures c.if-not-are_spare.false)

pub takes-requires-clause-brought : goal.takes-requires-clause-brought
takes-requires-clause-brought c = alone_told c.in_ok-load.load c.new-2.result c.new-2.ensures c.in_ok-load.ensures
