-- What an actor counts, as data.
use Rattle.std.specs.FinMap as m
use Rattle.std.specs.Coded.{Coded, coded×, coded_ℕ, coded_option}
use Rattle.orca_names.specs.Codes.{coded_row, coded_thing}
use Rattle.orca_names.specs.Names.{thing_cmp}
use Rattle.letter_kinds.specs.Holdings.{Entries, OwnRows, Row}
use Rattle.object_heap.specs.Heap as heaps
use Rattle.foreign_table.specs.Table as tables

abbrev pub coded_own : Coded OwnRows
coded_own = m.code coded_ℕ (coded× coded_row coded_ℕ)

abbrev pub coded_entries : Coded Entries
coded_entries = m.code coded_thing (coded× coded_ℕ (coded_option coded_row))

abbrev pub coded_known : Coded (m.FinMap thing_cmp Row)
coded_known = m.code coded_thing coded_row

-- the blocks in which rows lie, of own objects and of things
abbrev pub coded_own_blocks : Coded heaps.Blocks
coded_own_blocks = heaps.coded_blocks

abbrev pub coded_blocks : Coded tables.Blocks
coded_blocks = tables.coded_blocks
