use Rattle.std.proofs.Common.{ap, arith}
use Rattle.row_store.specs.Memory.{remembered}
use Rattle.trace_send.specs.Room.{values_of}
use Rattle.trace_send.proofs.Steps.{values_at_hand}
use Rattle.trace_send.proofs.room.count_values.Goals as goal

pub loop-loaded-init : goal.loop-loaded-init
loop-loaded-init c =
    let items = values_at_hand (remembered c.parts.result.1.now) c.parts.result.0.now in
    let load = ap values_of c.parts.ensures.load in
    omega (arith, items, load)
