use Rattle.known_rows.proofs.Together.{turn_together}
use Rattle.known_rows.proofs.turn_places.TurnPlacesPlacedRows.dense.Goals as goal

pub returns : goal.returns
returns c =
    let s = c.args.self.now in
    turn_together s.known.rows.heap.now s.known.rows.foreign.now s.made.now s.later c.dense.result c.dense.ensures.together c.dense.ensures.end
