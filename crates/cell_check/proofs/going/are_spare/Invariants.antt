use Rattle.std.proofs.Common.{take}
use Rattle.std.specs.Prelude.{All}
use Rattle.letter_kinds.specs.Load.{as_loaded}
use Rattle.actor_cell.specs.Cells.{as_cell}
use Rattle.cell_check.specs.Spare.{IsSpare}
use Rattle.cell_check.proofs.going.are_spare.Given as goal

abbrev pub invariant-loop-loaded : goal.invariant-loop-loaded
invariant-loop-loaded l = All (λ e. IsSpare l.cell.heap.owner (as_cell l.cell).holdings l.least (as_loaded e)) (take l.loaded-index l.load)
