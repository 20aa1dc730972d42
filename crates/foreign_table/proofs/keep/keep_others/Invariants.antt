use Rattle.std.proofs.Common.{◌≡◌}
use Rattle.std.specs.Prelude.{vec_len, vec_capacity}
use Rattle.foreign_table.specs.Back.{is_kept}
use Rattle.foreign_table.proofs.Sweep.{SweptTo}
use Rattle.foreign_table.proofs.keep.keep_others.Given as goal

abbrev pub invariant-loop-i : goal.invariant-loop-i
invariant-loop-i l = record {
  swept : SweptTo (is_kept l.back) l.fn.held.items l.fn.values.items l.held.items l.values.items l.kept l.kept_values l.i;
  whole : l.count ≡ vec_len l.fn.held;
  room : vec_capacity l.held ≡ vec_capacity l.fn.held;
  values_room : vec_capacity l.values ≡ vec_capacity l.fn.values;
}
