use Rattle.std.proofs.Common.{◌∷◌, [], ap, refl, ◌∙◌}
use Rattle.std.proofs.lemmas.List.{length-map, map-append}
use Rattle.row_store.specs.Told.{lie_as, lies_as, thing_lies}
use Rattle.reach_walk.proofs.Together.{one_stands}
use Rattle.reach_walk.proofs.by_place.push_run.Goals as goal

pub returns-then-is_empty-clause-pushed : goal.returns-then-is_empty-clause-pushed
returns-then-is_empty-clause-pushed g c =
    let rows = c.args.rows.now in
    let its = g.R.BlockRows.rows rows in
    let blocks = g.R.BlockRows.blocks rows in
    let pushed = c.in_ok-push_entry.ensures in
    ((pushed.0, thing_lies its blocks pushed.0) ∷ [], refl, one_stands (g.R.Places.place rows) its blocks pushed.0 c.args.at pushed.1, pushed.2)

pub returns-clause-pushed : goal.returns-clause-pushed
returns-clause-pushed g c =
    let rows = c.args.rows.now in
    let its = g.R.BlockRows.rows rows in
    let run = c.run_at-run.result.now in (
      lie_as its run,
      length-map run (lies_as its),
      c.run_at-run.ensures.run (g.R.Places.place rows) its (g.R.BlockRows.blocks rows) c.requires.together,
      ap (lie_as its) c.in_ok-extend_from_slice.ensures.items ∙ map-append (lies_as its) c.args.load.now.items run,
    )
