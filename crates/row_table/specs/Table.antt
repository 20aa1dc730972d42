-- The rows that an actor was told of others' objects.
use Rattle.std.specs.Prelude.{ℕ, ◌≡◌, ◌+◌, ◌-◌, if◌then◌else◌, is_some, [], Option, Some, None, refl}
use Rattle.std.specs.FinMap as m
use Rattle.std.specs.Global.{Box}
use Rattle.std.specs.Option.{option_map_or}
use Rattle.std.specs.Coded.{Coded, code_by, coded×, coded_ℕ}
use Rattle.orca_names.specs.Codes.{coded_thing, coded_row}
use Rattle.orca_names.specs.Names.{thing_cmp}
use Rattle.orca_names.specs.declared.names.Thing.{Thing}
use Rattle.letter_kinds.specs.Holdings.{Entries, Row}
use Rattle.foreign_table.specs.Mapped.{mapped}
use Rattle.foreign_table.specs.Table.{AllHere, Blocks, Table, coded_blocks, length_aside, values_at}

-- rows by their objects
abbrev pub Rows : Type 0
Rows = m.FinMap thing_cmp Row

-- the room for new rows and for their values, the rows, and their blocks
pub record KnownRows : Type 0 where
  pub spare : ℕ
  pub spare_values : ℕ
  pub rows : Rows
  pub blocks : Blocks

abbrev pub coded_rows : Coded KnownRows
coded_rows =
    code_by (ℕ × (ℕ × (Rows × Blocks)))
    (coded× coded_ℕ (coded× coded_ℕ (coded× (m.code coded_thing coded_row) coded_blocks)))
    (λ t. (t.spare, (t.spare_values, (t.rows, t.blocks))))
    (λ p. record { spare = p.0; spare_values = p.1.0; rows = p.1.1.0; blocks = p.1.1.1 })
    (λ _. refl)

-- no row, and no room
abbrev pub nothing_known : KnownRows
nothing_known = record { spare = 0; spare_values = 0; rows = m.empty; blocks = m.empty }

-- an entry of count 0 with the row
abbrev pub bare_entry : Row → ℕ × Option Row
bare_entry row = (0, Some row)

-- rows as entries of count 0
abbrev pub uncounted : Rows → Entries
uncounted rows = mapped (λ x. bare_entry) rows

-- the row of an entry
abbrev pub row_in : ℕ × Option Row → Row
row_in e = option_map_or (λ row. row) e.1 []

-- the rows of entries that each have one
abbrev pub rows_in : Entries → Rows
rows_in entries = mapped (λ x. row_in) entries

-- the table of these entries
abbrev pub as_held : KnownRows → Table
as_held t = record {
  spare = t.spare;
  spare_values = t.spare_values;
  entries = uncounted t.rows;
  blocks = t.blocks;
}

-- the rows of the table
abbrev pub known_by : Table → KnownRows
known_by t = record {
  spare = t.spare;
  spare_values = t.spare_values;
  rows = rows_in t.entries;
  blocks = t.blocks;
}

-- the rows of the table in memory of its own, if it is there
abbrev pub known_in : Option (Box Table) → KnownRows
known_in None = nothing_known
known_in (Some held) = known_by held.value

-- each entry is of count 0, with a row
abbrev pub IsUncounted : Table → Type 0
IsUncounted t = uncounted (rows_in t.entries) ≡ t.entries

abbrev pub AreUncounted : Option (Box Table) → Type 0
AreUncounted None = Unit {0}
AreUncounted (Some held) = IsUncounted held.value

-- no row lies in a block
abbrev pub AllKnownHere : KnownRows → Type 0
AllKnownHere t = AllHere (as_held t)

-- the row of the thing is as told, and lies in this block, if in one; one that is new takes room, and
-- its values in place of others
abbrev pub learnt : Thing → Option Row → Option ℕ → KnownRows → KnownRows
learnt x None block t = t
learnt x (Some row) block t = record {
  spare = t.spare - (if is_some (m.get t.rows x) then 0 else 1);
  spare_values = t.spare_values + values_at (as_held t) x - length_aside (Some row) block;
  rows = m.insert t.rows x row;
  blocks = m.insert t.blocks x block;
}
