use Rattle.std.proofs.Common.{sym, ap, ◌∙◌, arith}
use Rattle.std.specs.FinMap as m
use Rattle.std.proofs.lemmas.Bool.{false≢true}
use Rattle.std.proofs.lemmas.Option.{slice_get_within}
use Rattle.orca_names.specs.declared.names.Thing.TheVariants.{Obj}
use Rattle.known_rows.specs.Places.{place_in}
use Rattle.known_rows.proofs.Placed.{absent_own, no_place_own, place_own, serials_count}
use Rattle.known_rows.proofs.places.KnownPlaces.place_of_own.Goals as goal

pub overflow_add-result-in-Some : goal.overflow_add-result-in-Some
overflow_add-result-in-Some c =
    let s = c.args.self.now in
    let inside = slice_get_within (m.keys s.rows.heap.now.rows) c.in-Some.i c.args.n.serial c.in-Some.ensures.key in
    omega (arith, s.start, s.size, s.fits.0, serials_count s.rows.heap.now)

pub overflow_add-result : goal.overflow_add-result
overflow_add-result c =
    let s = c.args.self.now in
    let inside = slice_get_within (m.keys s.rows.heap.now.rows) c.in-Some.i c.args.n.serial c.in-Some.ensures.key in
    omega (arith, s.start, s.size, s.fits.0, serials_count s.rows.heap.now)

pub returns-in-Some : goal.returns-in-Some
returns-in-Some c =
    let s = c.args.self.now in
    sym (ap (place_in s.rows.heap.now s.rows.foreign.now) (λ j. Obj (record { owner = c.requires j; serial = c.args.n.serial }))
    ∙ place_own s.rows.heap.now s.rows.foreign.now s.first s.end s.span c.in-Some.i c.args.n.serial c.in-Some.ensures.key)

pub returns-in-None : goal.returns-in-None
returns-in-None c =
    let s = c.args.self.now in
    let absent = absent_own s.rows.heap.now c.args.n c.requires (λ has. false≢true (c.in-None.ensures.there.1 has)) in
    sym (no_place_own s.rows.heap.now s.rows.foreign.now s.first s.end s.span c.args.n c.requires absent)
