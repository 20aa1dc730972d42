use Rattle.std.proofs.Common.{ap}
use Rattle.object_heap.specs.Heap.{Heap}
use Rattle.foreign_table.specs.Table.{Table}
use Rattle.actor_cell.proofs.Tells.{tells_reserved}
use Rattle.actor_cell.proofs.cell.Cell.copy.Goals as goal

pub returns-clause-told : goal.returns-clause-told
returns-clause-told c =
    let s = c.args.self.now in
    let own = c.in_ok-heap.ensures in
    let held = c.in_ok-foreign.ensures in
    let brought = c.in_ok-known.ensures in
    tells_reserved s.heap c.in_ok-heap.heap s.foreign c.in_ok-foreign.foreign s.known c.in_ok-known.known
    (ap (λ (h : Heap). h.owner) own) (ap (λ (h : Heap). h.rows) own) (ap (λ (h : Heap). h.blocks) own)
    (ap (λ (t : Table). t.entries) held) (ap (λ (t : Table). t.blocks) held) brought.0 brought.1
