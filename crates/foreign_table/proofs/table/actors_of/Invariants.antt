use Rattle.std.proofs.Common.{[], ◌≡◌, ◌++◌, ◌≤◌, drop, length, map}
use Rattle.std.specs.Prelude.{vec_capacity}
use Rattle.foreign_table.specs.Entry.{pair_of}
use Rattle.foreign_table.specs.Table.{on_actors}
use Rattle.foreign_table.proofs.table.actors_of.Given as goal

abbrev pub invariant-loop-entry : goal.invariant-loop-entry
invariant-loop-entry l = record {
  found : l.found.items ++ on_actors (map (pair_of []) (drop l.entry-index l.held)) ≡ on_actors (map (pair_of []) l.held);
  room : length (on_actors (map (pair_of []) l.held)) ≤ vec_capacity l.found;
}
