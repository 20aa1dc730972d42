use Rattle.std.proofs.Common.{ap, ◌∙◌}
use Rattle.row_store.proofs.Standing.{none_remembered, none_stand}
use Rattle.known_rows.specs.Known.{block_known}
use Rattle.known_rows.specs.declared.known.KnownRows.{KnownRows}
use Rattle.known_rows.proofs.Standing.{none_known}
use Rattle.table_check.proofs.root_tests.carries_rows.Goals as goal

pub of-requires : goal.of-requires
of-requires c =
    none_stand _ _ _ (none_known c.args.heap.now c.gains_all.new.table c.requires.own (c.gains_all.ensures c.requires.held))

pub rows_of-requires : goal.rows_of-requires
rows_of-requires c = record {
  known = none_remembered _ _ _ (λ n.
      ap (λ (r : KnownRows). block_known r.heap.now r.foreign.now n) c.of.ensures.rows
      ∙ none_known c.args.heap.now c.gains_all.new.table c.requires.own (c.gains_all.ensures c.requires.held) n);
}
