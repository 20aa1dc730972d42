use Rattle.row_store.specs.Memory.{remembered}
use Rattle.known_rows.proofs.Standing.{turn_remembered}
use Rattle.known_rows.proofs.turn_rows.TurnRows.memory.Goals as goal

pub returns : goal.returns
returns c =
    let s = c.args.self.now in
    turn_remembered s.known.heap.now s.known.foreign.now s.made.now (remembered c.memory.result) c.memory.ensures
