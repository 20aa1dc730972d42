use Rattle.std.proofs.Common.{◌+◌, length, sym, ap, ◌∙◌}
use Rattle.known_rows.proofs.Later.{turn_count}
use Rattle.known_rows.proofs.turn_places.TurnPlacesPlaces.places.Goals as goal

pub returns : goal.returns
returns c =
    let s = c.args.self.now in
    ap (λ n. n + length s.made.now) c.places.ensures ∙ sym (turn_count s.known.rows.heap.now s.known.rows.foreign.now s.made.now s.later)
