use Rattle.std.proofs.Common.{◌+◌, ◌-◌, Some, sym, ap, ◌∙◌, arith}
use Rattle.std.specs.FinMap as m
use Rattle.std.proofs.lemmas.Option.{slice_get_within}
use Rattle.known_rows.proofs.Placed.{keys_count, no_place_other, place_above, place_below, stands_behind}
use Rattle.known_rows.proofs.places.KnownPlaces.place_of_held.Goals as goal

pub overflow_add-result : goal.overflow_add-result
overflow_add-result c =
    let s = c.args.self.now in
    let inside = slice_get_within (m.keys s.rows.foreign.now.entries) c.in-Some.j c.args.thing.now c.in-Some.ensures.key in
    omega (arith, s.size, s.fits.0, keys_count s.rows.foreign.now, s.span.end_within)

pub returns-in-Some : goal.returns-in-Some
returns-in-Some c =
    let s = c.args.self.now in
    sym (place_below s.rows.heap.now s.rows.foreign.now s.first s.end s.span c.in-Some.j c.args.thing.now c.in-Some.ensures.key c.if-j-self.true)

pub returns-in-Some-2 : goal.returns-in-Some-2
returns-in-Some-2 c =
    let s = c.args.self.now in
    let behind = stands_behind s.rows.heap.now s.rows.foreign.now s.first s.end s.span c.in-Some.j c.args.thing.now c.in-Some.ensures.key c.requires c.if-j-self.false in
    ap (λ n. Some (n + (c.in-Some.j - s.end))) s.start ∙ sym (place_above s.rows.heap.now s.rows.foreign.now s.first s.end s.span c.in-Some.j c.args.thing.now c.in-Some.ensures.key behind)

pub returns-in-None : goal.returns-in-None
returns-in-None c =
    let s = c.args.self.now in
    sym (no_place_other s.rows.heap.now s.rows.foreign.now s.first s.end s.span c.args.thing.now c.requires (sym c.in-None.ensures.held))
