use Rattle.std.proofs.Common.{◌≡◌}
use Rattle.std.specs.Prelude.{vec_len, vec_capacity}
use lib.Seq.{paste}
use Rattle.foreign_table.proofs.aside.write_values.Given as goal

abbrev pub invariant-loop-k : goal.invariant-loop-k
invariant-loop-k l = record {
  items : l.values.items ≡ paste l.fn.values.items l.first l.row l.k;
  long : vec_len l.values ≡ vec_len l.fn.values;
  room : vec_capacity l.values ≡ vec_capacity l.fn.values;
}
