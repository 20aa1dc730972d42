use Rattle.std.proofs.Common.{◌≡◌, ◌++◌, ◌<◌, [], length, get_or, refl, sym, subst, arith}
use Rattle.orca_names.specs.declared.names.Thing.TheVariants.{Obj}
use Rattle.row_store.specs.Standing.{Stand}
use Rattle.reach_walk.specs.Met.{met_by}
use Rattle.reach_walk.specs.Reach.{named_by, row_edges}
use Rattle.reach_walk.proofs.Blocks.{words_stay}
use Rattle.reach_walk.proofs.ByPlaces.{begins, goes_on, ends, few_queued}
use Rattle.reach_walk.proofs.by_place.walk_places.Goals as goal

pub loop-i-init : goal.loop-i-init
loop-i-init g c =
    let rows = c.args.rows.now in
    let met = c.in_ok-meet_all.ensures.met [] c.in_ok-met.ensures.met in
    record {
      goes = (met_by c.args.roots.now, met, begins (g.R.Places.place rows) (row_edges (g.R.BlockRows.rows rows)) c.args.roots.now c.meet_all.new.self.queue.items);
      counted = omega (arith, c.in_ok-meet_all.ensures.steps);
      room = omega (arith, c.meet_all.ensures.same, c.in_ok-met.ensures.met.tells.told.room);
      words = record { known = refl; places = refl; beside = refl };
    }

pub loop-i-smaller : goal.loop-i-smaller
loop-i-smaller g c =
    let rows = c.args.rows.now in
    let goes = c.loop-i.invariant.goes in
    let few = few_queued (g.R.Places.place rows) (g.R.Places.count rows) c.loop-i.met goes.0 (g.met.R.Places.below rows) goes.1 in
    omega (arith, few, c.len.ensures)

pub take-requires-clause-stand : goal.take-requires-clause-stand
take-requires-clause-stand g c =
    let rows = c.args.rows.now in
    subst (Stand (g.R.BlockRows.rows rows) (g.R.BlockRows.blocks rows)) (sym c.loop-i.invariant.words.known) c.requires

-- what is queued is the place of an object
pub take-requires-clause-within : goal.take-requires-clause-within
take-requires-clause-within g c =
    let its = c.loop-i.invariant.goes.1.only c.index-at.result.now (c.loop-i.i, omega (arith, c.len.ensures), sym c.index-at.ensures) in
    g.met.R.Places.below c.args.rows.now (Obj its.0) c.index-at.result.now its.2

pub loop-i-preserved : goal.loop-i-preserved
loop-i-preserved g c =
    let rows = c.args.rows.now in
    let place = g.R.Places.place rows in
    let edges = row_edges (g.R.BlockRows.rows rows) in
    let roots = named_by c.args.roots.now in
    let queue = c.loop-i.met.queue.items in
    let i = c.loop-i.i in
    let goes = c.loop-i.invariant.goes in
    let at = c.index-at.result.now in
    let inside : i < length queue = omega (arith, c.len.ensures) in
    let here : get_or queue i at ≡ at = sym c.index-at.ensures in
    let its = goes.1.only at (i, inside, here) in
    let ticked = c.in_ok-take.ensures.steps its.0 its.2 in
    record {
      goes = (
        goes.0 ++ met_by (edges (Obj its.0)),
        c.in_ok-take.ensures.met goes.0 its.0 goes.1 its.1 its.2,
        goes_on place edges (g.met.R.Places.in_order rows) roots goes.0 queue c.take.new.met.queue.items i its.0 at goes.2 inside here its.1 its.2 c.in_ok-take.ensures.queue,
      );
      counted = omega (arith, ticked.0, ticked.1, c.loop-i.invariant.counted);
      room = omega (arith, c.take.ensures.same, c.loop-i.invariant.room);
      words = words_stay g.W.RowWords.known g.W.RowWords.places g.W.RowWords.beside c.args.words.now c.loop-i.words c.take.new.words c.loop-i.invariant.words c.take.ensures.words;
    }

pub returns-clause-reached : goal.returns-clause-reached
returns-clause-reached g c =
    let rows = c.args.rows.now in
    let goes = c.loop-i.invariant.goes in
    (goes.0, goes.1, ends (g.R.Places.place rows) (g.R.Places.count rows) (g.R.BlockRows.rows rows) (g.met.R.PlacedRows.only_placed rows) (named_by c.args.roots.now) goes.0 c.loop-i.met c.loop-i.i (omega (arith, c.len.ensures)) goes.1 goes.2)

pub returns-clause-steps : goal.returns-clause-steps
returns-clause-steps g c = omega (arith, c.loop-i.invariant.counted, c.loop-i.invariant.goes.2.within)
