-- What an actor counts, of its count and its two tables.
use Rattle.std.specs.Prelude.{ℕ}
use Rattle.letter_kinds.specs.Holdings.{Holdings}
use Rattle.object_heap.specs.Heap.{Heap}
use Rattle.foreign_table.specs.Table.{Table}

abbrev pub holdings_of : ℕ → Heap → Table → Holdings
holdings_of count heap foreign =
    record { count = count; rows = heap.rows; next = heap.next; foreign = foreign.entries }
