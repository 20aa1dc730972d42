use Rattle.root_trace.proofs.Together.{own_together}
use Rattle.root_trace.proofs.own_rows.OwnRowsPlacedRows.dense.Goals as goal

pub returns : goal.returns
returns c =
    let known = c.args.self.now.known in
    own_together known.rows.heap.now known.rows.foreign.now c.dense.result c.dense.ensures.together c.dense.ensures.owner
