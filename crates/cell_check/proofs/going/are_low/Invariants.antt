use Rattle.std.proofs.Common.{take}
use Rattle.std.specs.Prelude.{All}
use Rattle.actor_cell.specs.Cells.{as_cell}
use Rattle.cell_check.specs.Spare.{IsLow}
use Rattle.cell_check.proofs.going.are_low.Given as goal

abbrev pub invariant-loop-amount : goal.invariant-loop-amount
invariant-loop-amount l = All (IsLow (as_cell l.cell).holdings) (take l.amount-index l.things)
