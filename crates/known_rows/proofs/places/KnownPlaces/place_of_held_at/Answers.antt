use Rattle.std.proofs.Common.{◌≡◌, ◌+◌, ◌-◌, Some, sym, ap, ◌∙◌, arith}
use Rattle.known_rows.specs.Places.{place_in}
use Rattle.known_rows.proofs.Placed.{place_above, place_below}
use Rattle.known_rows.proofs.places.KnownPlaces.place_of_held_at.Goals as goal

pub returns-then-j-self : goal.returns-then-j-self
returns-then-j-self c = λ x e.
    let s = c.args.self.now in
    sym (place_below s.rows.heap.now s.rows.foreign.now s.first s.end s.span c.args.j x e c.if-j-self.true)

pub overflow_add-result : goal.overflow_add-result
overflow_add-result c =
    let s = c.args.self.now in
    omega (arith, s.size, s.fits.0)

pub returns-then-j-self-2 : goal.returns-then-j-self-2
returns-then-j-self-2 c = λ x e.
    let s = c.args.self.now in
    ap (λ n. Some (n + (c.args.j - s.end))) s.start ∙ sym (place_above s.rows.heap.now s.rows.foreign.now s.first s.end s.span c.args.j x e c.if-j-self-2.true)

pub returns : goal.returns
returns c = λ x e.
    let s = c.args.self.now in
    let both : Some c.thing_at.result ≡ Some x = sym c.thing_at.ensures ∙ e in
    let same : c.thing_at.result ≡ x = cc in
    c.place_of.ensures ∙ ap (place_in s.rows.heap.now s.rows.foreign.now) same
