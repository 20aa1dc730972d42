use Rattle.std.proofs.Common.{length, refl, ap, arith}
use Rattle.known_rows.proofs.Placed.{lower_count}
use Rattle.known_rows.proofs.Together.{objects_count, own_together}
use Rattle.known_rows.proofs.places.KnownPlacesPlacedRows.dense.Goals as goal

pub overflow_add-result : goal.overflow_add-result
overflow_add-result c =
    let s = c.args.self.now in
    omega (arith, s.start, s.size, s.fits.0)

pub returns-clause-together : goal.returns-clause-together
returns-clause-together c =
    let s = c.args.self.now in
    own_together s.rows.heap.now s.rows.foreign.now s.first s.end s.span _ refl c.first_serial.ensures (λ whole. c.is_whole.ensures.0 whole) c.owner.ensures c.objects.ensures (omega (arith, s.start, s.size, s.fits.0))

pub returns-clause-end : goal.returns-clause-end
returns-clause-end c =
    let s = c.args.self.now in
    omega (arith, lower_count s.rows.heap.now s.rows.foreign.now s.first s.end s.span, objects_count s.rows.heap.now, ap length c.objects.ensures)
