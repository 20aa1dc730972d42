use Rattle.std.proofs.Common.{◌<◌, get_or, length, sym, arith}
use Rattle.std.specs.FinMap as m
use Rattle.std.proofs.lemmas.Option.{slice_get-get_or}
use Rattle.orca_names.specs.declared.names.Thing.TheVariants.{Actor}
use Rattle.known_rows.specs.PlaceLaws.{places_below}
use Rattle.known_rows.proofs.Placed.{keys_count}
use Rattle.local_sweep.proofs.Gathered.{marked_at}
use Rattle.local_sweep.proofs.kept.ByPlaceKept.keeps_held.Goals as goal

pub contains-requires : goal.contains-requires
contains-requires c =
    let heap = c.args.self.now.known.rows.heap.now in
    let foreign = c.args.self.now.known.rows.foreign.now in
    let inside : c.args.j < length (m.keys foreign.entries) = omega (arith, c.requires, keys_count foreign) in
    let x = get_or (m.keys foreign.entries) c.args.j (Actor 0) in
    let place = c.in-Some.ensures x (slice_get-get_or (m.keys foreign.entries) c.args.j (Actor 0) inside) in
    let below = places_below heap foreign x c.in-Some.p (sym place) in
    omega (arith, c.args.self.now.room)

pub returns-in-Some : goal.returns-in-Some
returns-in-Some c = λ x is.
    let heap = c.args.self.now.known.rows.heap.now in
    let foreign = c.args.self.now.known.rows.foreign.now in
    marked_at c.args.self.now.marks.now heap foreign x c.in-Some.p c.contains.result (sym (c.in-Some.ensures x is)) c.contains.ensures
