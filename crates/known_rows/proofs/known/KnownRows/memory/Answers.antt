use Rattle.row_store.specs.Memory.{remembered}
use Rattle.known_rows.proofs.Standing.{both_remembered}
use Rattle.known_rows.proofs.known.KnownRows.memory.Goals as goal

pub returns : goal.returns
returns c =
    let s = c.args.self.now in
    both_remembered s.heap.now s.foreign.now (remembered c.memory.result.now) (remembered c.memory-2.result.now) c.memory.ensures c.memory-2.ensures
    (remembered c.parted.result) c.owner.result c.owner.ensures c.parted.ensures
