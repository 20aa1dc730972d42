use Rattle.std.proofs.Common.{◌+◌, ◌<◌, ◌≤◌, Some, subst, sym, ap, ◌∙◌}
use Rattle.known_rows.proofs.Later.{turn_kept, turn_moved, turn_new, turn_none, turn_place}
use Rattle.known_rows.proofs.turn_places.TurnPlacesPlaces.place_of.Goals as goal

pub returns-in-Some : goal.returns-in-Some
returns-in-Some c =
    let s = c.args.self.now in
    sym (ap (turn_place s.known.rows.heap.now s.known.rows.foreign.now s.made.now s.later) c.in-Some.ensures.1
    ∙ turn_new s.known.rows.heap.now s.known.rows.foreign.now s.made.now s.later c.in-Some.i c.in-Some.ensures.0 ∙ ap (λ n. Some (n + c.in-Some.i)) (sym s.start))

pub returns-in-Some-place_of : goal.returns-in-Some-place_of
returns-in-Some-place_of c =
    let s = c.args.self.now in
    sym (turn_kept s.known.rows.heap.now s.known.rows.foreign.now s.made.now s.later c.args.thing.now c.in-Some-place_of.at (sym c.in-Some-place_of.ensures)
    (subst (λ n. c.in-Some-place_of.at < n) s.start c.if-at-self.true))

pub returns-in-Some-2 : goal.returns-in-Some-2
returns-in-Some-2 c =
    let s = c.args.self.now in
    sym (turn_moved s.known.rows.heap.now s.known.rows.foreign.now s.made.now s.later c.args.thing.now c.in-Some-place_of.at (sym c.in-Some-place_of.ensures)
    (subst (λ n. n ≤ c.in-Some-place_of.at) s.start c.if-at-self.false))

pub returns-in-None : goal.returns-in-None
returns-in-None c =
    let s = c.args.self.now in
    sym (turn_none s.known.rows.heap.now s.known.rows.foreign.now s.made.now s.later c.args.thing.now (sym c.in-None.ensures) c.in_default.ensures)
