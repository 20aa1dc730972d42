use Rattle.std.proofs.Common.{◌+◌, ◌-◌, ◌*◌, ◌≤◌, List, length}
use Rattle.orca_names.specs.declared.names.Thing.{Thing}
use Rattle.row_store.specs.Words.{SameWords}
use Rattle.reach_walk.specs.Met.{HasMet}
use Rattle.reach_walk.specs.Reach.{named_by, row_edges}
use Rattle.reach_walk.proofs.ByPlaces.{Goes}
use Rattle.reach_walk.proofs.by_place.walk_places.Given as goal

abbrev pub invariant-loop-i : goal.invariant-loop-i
invariant-loop-i g l = record {
  goes : (things : List Thing) × HasMet (g.R.Places.place l.rows) (g.R.Places.count l.rows) l.met things
      × Goes (g.R.Places.place l.rows) (row_edges (g.R.BlockRows.rows l.rows)) (named_by l.roots) things l.met.queue.items l.i;
  counted : l.steps ≤ l.fn.steps + length l.roots + 9 * l.i;
  room : g.R.Places.count l.rows ≤ length l.met.noted.bits;
  words : SameWords g.W.RowWords.known g.W.RowWords.places g.W.RowWords.beside l.fn.words l.words;
}

abbrev pub decreases-loop-i : goal.decreases-loop-i
decreases-loop-i g l = g.R.Places.count l.rows - l.i
