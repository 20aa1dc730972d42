use Rattle.std.proofs.Common.{◌≡◌, ◌+◌, drop}
use Rattle.std.specs.List.{sum_by}
use Rattle.row_store.specs.Told.{row_here}
use Rattle.foreign_table.specs.Table.{row_length}
use Rattle.trace_send.specs.Room.{values_of}
use Rattle.trace_send.proofs.room.count_values.Given as goal

abbrev pub invariant-loop-loaded : goal.invariant-loop-loaded
invariant-loop-loaded l = l.count + sum_by (λ e. row_length (row_here e.1)) (drop l.loaded-index l.items) ≡ values_of l.load
