use Rattle.std.proofs.Common.{arith}
use Rattle.reach_walk.proofs.ByPlaces.{queued_marks}
use Rattle.reach_walk.proofs.Found.{marks-told}
use Rattle.reach_walk.proofs.by_place.mark_bits_within.Goals as goal

pub returns-clause-marks : goal.returns-clause-marks
returns-clause-marks g c =
    let rows = c.args.rows.now in
    let all = g.R.BlockRows.all rows in
    let found = c.in_ok-met.ensures.reached in
    marks-told (g.R.BlockRows.rows rows) all c.args.roots.now (g.R.BlockRows.within rows) (g.R.Places.place rows) (g.R.Places.count rows) c.in_ok-met.met.noted found.0 found.1.tells.told found.2

pub returns-clause-steps : goal.returns-clause-steps
returns-clause-steps g c =
    let rows = c.args.rows.now in
    let few = queued_marks (g.R.BlockRows.rows rows) (g.R.BlockRows.all rows) c.args.roots.now (g.R.BlockRows.within rows) (g.R.Places.place rows) (g.R.Places.count rows) c.in_ok-met.met c.in_ok-met.ensures.reached in
    omega (arith, few, c.in_ok-met.ensures.steps)
