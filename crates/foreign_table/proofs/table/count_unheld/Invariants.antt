use Rattle.std.proofs.Common.{◌≡◌, ◌+◌, ◌≤◌, List, drop}
use Rattle.orca_names.specs.declared.names.Value.{Value}
use Rattle.foreign_table.specs.Table.{count_unheld, kept_in}
use Rattle.foreign_table.proofs.table.count_unheld.Given as goal

abbrev pub invariant-loop-amount : goal.invariant-loop-amount
invariant-loop-amount l = record {
  counted : (values : List Value) → l.count + count_unheld (drop l.amount-index l.things) (kept_in values l.held) ≡ count_unheld l.things (kept_in values l.held);
  few : l.count ≤ l.amount-index;
}
