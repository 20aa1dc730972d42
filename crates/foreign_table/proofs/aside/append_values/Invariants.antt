use Rattle.std.proofs.Common.{◌≡◌, ◌+◌, ◌++◌, take}
use Rattle.std.specs.Prelude.{vec_len, vec_capacity}
use Rattle.foreign_table.proofs.aside.append_values.Given as goal

abbrev pub invariant-loop-value : goal.invariant-loop-value
invariant-loop-value l = record {
  items : l.values.items ≡ l.fn.values.items ++ take l.value-index l.row;
  long : vec_len l.values ≡ vec_len l.fn.values + l.value-index;
  room : vec_capacity l.values ≡ vec_capacity l.fn.values;
}
