use Rattle.std.proofs.Common.{◌≡◌, ◌+◌, ◌++◌, take, drop}
use Rattle.std.specs.Prelude.{vec_len, vec_capacity}
use Rattle.foreign_table.proofs.aside.take_values.Given as goal

abbrev pub invariant-loop : goal.invariant-loop
invariant-loop l = record {
  items : l.values.items ≡ take l.first l.fn.values.items ++ drop (l.first + l.counter) l.fn.values.items;
  long : vec_len l.values + l.counter ≡ vec_len l.fn.values;
  room : vec_capacity l.values ≡ vec_capacity l.fn.values;
}
