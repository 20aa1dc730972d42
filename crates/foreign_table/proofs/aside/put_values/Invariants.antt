use Rattle.std.proofs.Common.{◌≡◌, ◌+◌, ◌++◌, take, drop}
use Rattle.std.specs.Prelude.{vec_len, vec_capacity}
use Rattle.foreign_table.proofs.aside.put_values.Given as goal

abbrev pub invariant-loop-value : goal.invariant-loop-value
invariant-loop-value l = record {
  items : l.values.items ≡ take l.first l.fn.values.items ++ (take l.value-index l.row ++ drop l.first l.fn.values.items);
  here : l.place ≡ l.first + l.value-index;
  long : vec_len l.values ≡ vec_len l.fn.values + l.value-index;
  room : vec_capacity l.values ≡ vec_capacity l.fn.values;
}
