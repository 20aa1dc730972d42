use Rattle.std.proofs.Common.{sym, ◌∙◌}
use Rattle.known_rows.proofs.Placed.{lower_count}
use Rattle.known_rows.proofs.places.KnownPlaces.first_above.Goals as goal

pub returns : goal.returns
returns c =
    let s = c.args.self.now in
    s.start ∙ sym (lower_count s.rows.heap.now s.rows.foreign.now s.first s.end s.span)
