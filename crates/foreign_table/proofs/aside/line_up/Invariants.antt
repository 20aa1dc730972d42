use Rattle.std.proofs.Common.{◌≡◌, ◌+◌, ◌++◌, ◌<◌, ◌^◌, drop, take}
use Rattle.std.specs.Prelude.{vec_len, vec_capacity}
use Rattle.foreign_table.specs.Entry.{lined_up}
use Rattle.foreign_table.proofs.Rows.{lengths}
use Rattle.foreign_table.proofs.aside.line_up.Given as goal

abbrev pub invariant-loop-i : goal.invariant-loop-i
invariant-loop-i l = record {
  items : take l.i l.held.items ++ lined_up l.first (drop l.i l.held.items) ≡ take l.from l.fn.held.items ++ lined_up l.fn.first (drop l.from l.fn.held.items);
  fits : l.first + lengths (drop l.i l.held.items) < 2 ^ 64;
  long : vec_len l.held ≡ vec_len l.fn.held;
  room : vec_capacity l.held ≡ vec_capacity l.fn.held;
}
