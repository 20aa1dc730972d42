-- Of things, what their sender lacks.
use Rattle.std.specs.Prelude.{ℕ, ◌==◌, ◌&&◌, not, Bool, List, [], ◌∷◌, Option, Some, None, filter, map}
use Rattle.orca_names.specs.Names.{owner_of}
use Rattle.orca_names.specs.declared.names.Thing.{Thing}
use Rattle.letter_kinds.specs.Counting.{Amount}
use Rattle.foreign_table.specs.Table.{Table, count_on}

-- of another's thing just one is held
abbrev pub is_lacked : ℕ → Table → Thing → Bool
is_lacked me foreign x = not (owner_of x == me) && (count_on foreign x == 1)

-- the owner of the first thing, which is the lowest where they are in order, and those of its things,
-- each with the weight
abbrev pub of_first_owner : ℕ → List Thing → Option (ℕ × List Amount)
of_first_owner weight [] = None
of_first_owner weight (x ∷ things) =
    Some (owner_of x, map (λ y. (y, weight)) (filter (λ y. owner_of y == owner_of x) (x ∷ things)))
