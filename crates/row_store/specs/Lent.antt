-- Rows that are lent.
use Rattle.std.specs.Prelude.{ℕ, ◌≡◌, ◌≤◌, List, Option, None, Some, IsSome, length}
use Rattle.orca_names.specs.declared.names.Value.{Value}
use Rattle.row_store.specs.declared.lent.Lent.{Lent}
use Rattle.row_store.specs.declared.lent.Lent.TheVariants.{Nothing, Here, In}

-- what is lent of this row, which lies in this block if in any
abbrev pub IsLent : Option (List Value) → Option ℕ → Lent → Type 0
IsLent row block Nothing = (row ≡ None) × (block ≡ None)
IsLent row block (Here values) =
    (row ≡ Some values.now) × (block ≡ None)
    × (1 ≤ length values.now) × (length values.now ≤ 8)
IsLent row block (In at) = IsSome row × (block ≡ Some at)
