use Rattle.std.proofs.Common.{arith}
use Rattle.known_rows.proofs.Placed.{place_own}
use Rattle.known_rows.proofs.places.KnownPlaces.place_of_own_at.Goals as goal

pub overflow_add-result : goal.overflow_add-result
overflow_add-result c =
    let s = c.args.self.now in
    omega (arith, s.start, s.size, s.fits.0)

pub overflow_add-result-2 : goal.overflow_add-result-2
overflow_add-result-2 c =
    let s = c.args.self.now in
    omega (arith, s.start, s.size, s.fits.0)

pub returns : goal.returns
returns c = λ serial e.
    let s = c.args.self.now in
    place_own s.rows.heap.now s.rows.foreign.now s.first s.end s.span c.args.i serial e
