use Rattle.std.proofs.Common.{ap}
use Rattle.object_heap.specs.Heap.{Heap}
use Rattle.actor_cell.proofs.Here.{fresh_tells}
use Rattle.actor_cell.proofs.Lying.{lie_none}
use Rattle.actor_cell.proofs.cell.Cell.fresh.Goals as goal

pub returns-clause-told : goal.returns-clause-told
returns-clause-told c = fresh_tells c.new-3.result c.new-4.result c.new-5.result (ap (λ (h : Heap). h.blocks) c.new-3.ensures) c.new-4.ensures c.new-5.ensures

pub returns-clause-lie : goal.returns-clause-lie
returns-clause-lie c = lie_none c.new-3.result (ap (λ (h : Heap). h.rows) c.new-3.ensures)
