use Rattle.std.proofs.Common.{◌≡◌, ◌-◌, List, map}
use Rattle.orca_names.specs.declared.names.Thing.{Thing}
use Rattle.row_store.specs.Told.{lie_as, thing_lies}
use Rattle.reach_walk.proofs.Placed.{ListsBelow}
use Rattle.reach_walk.proofs.by_place.listed.Given as goal

abbrev pub invariant-loop-from : goal.invariant-loop-from
invariant-loop-from g l =
    let its = g.R.BlockRows.rows l.rows in
    (things : List Thing) × (lie_as its l.load.items ≡ map (λ x. (x, thing_lies its (g.R.BlockRows.blocks l.rows) x)) things)
    × ListsBelow (g.R.Places.place l.rows) l.bits l.from things

abbrev pub decreases-loop-from : goal.decreases-loop-from
decreases-loop-from g l = l.count - l.from
