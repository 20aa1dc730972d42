use Rattle.std.proofs.Common.{◌≡◌, ◌+◌, ◌++◌, ◌∷◌, [], length, map, take, ap, sym, ◌∙◌, arith}
use Rattle.std.proofs.lemmas.List.{length-map, length-take-le, take_more}
use Rattle.orca_names.specs.declared.names.Thing.{Thing}
use Rattle.row_store.specs.Told.{Lying, lie_as, lies_as, thing_lies}
use Rattle.reach_walk.proofs.ByPlaces.{rows_more}
use Rattle.reach_walk.proofs.load.with_rows.Goals as goal

pub push_told-requires : goal.push_told-requires
push_told-requires g c =
    let its = g.R.RowReader.rows c.args.rows.now in
    let blocks = g.R.TellsRows.blocks c.args.rows.now in
    let so_far = take c.loop-thing.thing-index c.args.things.now in
    let taken = length-take-le c.loop-thing.thing-index c.args.things.now (omega (arith, c.loop-thing-test.true)) in
    omega (arith, ap length c.loop-thing.invariant.load, length-map c.loop-thing.load.items (lies_as its), length-map {B = Thing × Lying} so_far (λ x. (x, thing_lies its blocks x)), taken, c.loop-thing.invariant.room, c.loop-thing-test.true)

pub loop-thing-preserved : goal.loop-thing-preserved
loop-thing-preserved g c =
    let its = g.R.RowReader.rows c.args.rows.now in
    let blocks = g.R.TellsRows.blocks c.args.rows.now in
    let things = c.args.things.now in
    let i = c.loop-thing.thing-index in
    let x = c.thing-item.result in
    let inv = c.loop-thing.invariant in
    let told = c.push_told.ensures in
    let same = g.met.R.TellsRows.same_blocks c.args.rows.now c.loop-thing.rows inv.beside in
    let pushed : lie_as its c.push_told.new.load.items ≡ lie_as its c.loop-thing.load.items ++ (x, thing_lies its blocks x) ∷ [] =
    (λ j. lie_as (sym inv.rows j) c.push_told.new.load.items) ∙ told.load
    ∙ (λ j. lie_as (inv.rows j) c.loop-thing.load.items ++ (x, thing_lies (inv.rows j) (same j) x) ∷ []) in
    let more : take (i + 1) things ≡ take i things ++ x ∷ [] = take_more things i x c.loop-thing-test.true ∙ ap (λ y. take i things ++ y ∷ []) (sym c.thing-item.is) in
    record {
      load = rows_more (thing_lies its blocks) (lie_as its c.loop-thing.load.items) (lie_as its c.push_told.new.load.items) (take i things) x inv.load pushed
          ∙ ap (map (λ y. (y, thing_lies its blocks y))) (sym more);
      room = omega (arith, inv.room, told.room);
      rows = told.rows.0 ∙ inv.rows;
      all = told.rows.1 ∙ inv.all;
      beside = told.rows.2 ∙ inv.beside;
    }
