use Rattle.std.proofs.Common.{◌<◌, get_or, length, arith}
use Rattle.std.specs.FinMap as m
use Rattle.std.proofs.lemmas.List.{length-map}
use Rattle.std.proofs.lemmas.Option.{slice_get-get_or}
use Rattle.orca_names.specs.declared.names.Thing.TheVariants.{Obj}
use Rattle.known_rows.specs.PlaceLaws.{places_below}
use Rattle.local_sweep.specs.Plan.{object_named}
use Rattle.local_sweep.proofs.Gathered.{marked_at}
use Rattle.local_sweep.proofs.kept.ByPlaceKept.keeps_own.Goals as goal

pub contains-requires : goal.contains-requires
contains-requires c =
    let heap = c.args.self.now.known.rows.heap.now in
    let foreign = c.args.self.now.known.rows.foreign.now in
    let inside : c.args.i < length (m.keys heap.rows) = omega (arith, c.requires, length-map (m.entries heap.rows) (λ e. e.0), m.len-entries heap.rows) in
    let serial = get_or (m.keys heap.rows) c.args.i 0 in
    let place = c.place_of_own_at.ensures serial (slice_get-get_or (m.keys heap.rows) c.args.i 0 inside) in
    let below = places_below heap foreign (Obj (object_named heap.owner serial)) c.place_of_own_at.result place in
    omega (arith, c.args.self.now.room)

pub returns : goal.returns
returns c = λ serial is.
    let heap = c.args.self.now.known.rows.heap.now in
    let foreign = c.args.self.now.known.rows.foreign.now in
    marked_at c.args.self.now.marks.now heap foreign (Obj (object_named heap.owner serial)) c.place_of_own_at.result c.contains.result (c.place_of_own_at.ensures serial is) c.contains.ensures
