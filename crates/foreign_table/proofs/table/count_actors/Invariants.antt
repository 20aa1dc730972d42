use Rattle.std.proofs.Common.{[], ◌≡◌, ◌+◌, ◌≤◌, drop, length, map}
use Rattle.foreign_table.specs.Entry.{pair_of}
use Rattle.foreign_table.specs.Table.{on_actors}
use Rattle.foreign_table.proofs.table.count_actors.Given as goal

abbrev pub invariant-loop-entry : goal.invariant-loop-entry
invariant-loop-entry l = record {
  counted : l.count + length (on_actors (map (pair_of []) (drop l.entry-index l.held))) ≡ length (on_actors (map (pair_of []) l.held));
  few : l.count ≤ l.entry-index;
}
