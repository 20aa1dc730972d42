use Rattle.std.proofs.Common.{◌≡◌, ◌+◌, ◌-◌, ◌*◌, ◌≤◌, length, map}
use Rattle.orca_names.specs.declared.names.Thing.TheVariants.{Obj}
use Rattle.reach_walk.specs.Reach.{named_by, row_edges}
use Rattle.reach_walk.specs.Walk.{IsSeen}
use Rattle.reach_walk.proofs.Covers.{cover_of}
use Rattle.reach_walk.proofs.Walking.{Walks}
use Rattle.reach_walk.proofs.walk_rows.walk_rows.Given as goal

abbrev pub invariant-loop-i : goal.invariant-loop-i
invariant-loop-i g l = record {
  seen : IsSeen l.seen;
  walks : Walks (row_edges (g.R.RowReader.rows l.fn.rows)) (named_by l.roots) l.seen.things l.i;
  counted : l.steps ≤ l.fn.steps + length l.roots + 9 * l.i;
  rows : g.R.RowReader.rows l.rows ≡ g.R.RowReader.rows l.fn.rows;
  all : g.R.RowReader.all l.rows ≡ g.R.RowReader.all l.fn.rows;
  beside : g.R.RowReader.beside l.rows ≡ g.R.RowReader.beside l.fn.rows;
}

abbrev pub decreases-loop-i : goal.decreases-loop-i
decreases-loop-i g l =
    length (cover_of (row_edges (g.R.RowReader.rows l.fn.rows)) (map Obj (g.R.RowReader.all l.fn.rows)) (named_by l.roots)) - l.i
