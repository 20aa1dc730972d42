use Rattle.std.proofs.Common.{◌+◌, ◌-◌, sym, ap, ◌∙◌}
use Rattle.std.specs.FinMap as m
use Rattle.known_rows.proofs.Placed.{count_is}
use Rattle.known_rows.proofs.places.KnownPlacesPlaces.places.Goals as goal

pub returns : goal.returns
returns c =
    let s = c.args.self.now in
    s.size ∙ ap (λ n. n + (m.len s.rows.foreign.now.entries - s.end)) s.start ∙ sym (count_is s.rows.heap.now s.rows.foreign.now s.first s.end s.span)
