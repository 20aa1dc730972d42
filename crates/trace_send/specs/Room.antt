-- The room that the rows of a load take.
use Rattle.std.specs.Prelude.{ℕ, List}
use Rattle.std.specs.List.{sum_by}
use Rattle.orca_names.specs.declared.names.Thing.{Thing}
use Rattle.row_store.specs.Told.{Lying}
use Rattle.foreign_table.specs.Table.{length_aside}

-- the number of values of all rows of a load that are at hand: one in a block takes no room
abbrev pub values_of : List (Thing × Lying) → ℕ
values_of load = sum_by (λ e. length_aside e.1.row e.1.block) load
