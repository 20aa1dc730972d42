-- Held things as entries of a map from things; the values of their rows lie aside, or in blocks.
use Rattle.std.specs.Prelude.{ℕ, ◌≡◌, ◌≤◌, ◌+◌, List, [], ◌∷◌, Option, None, Some, take, drop}
use Rattle.orca_names.specs.declared.names.Thing.{Thing}
use Rattle.orca_names.specs.declared.names.Value.{Value}
use Rattle.letter_kinds.specs.Counting.{Amount}
use Rattle.letter_kinds.specs.Holdings.{Row}
use Rattle.row_store.specs.Told.{Lying}
use Rattle.foreign_table.specs.declared.search.Entry.{Entry}
use Rattle.foreign_table.specs.declared.search.Place.{Place}
use Rattle.foreign_table.specs.declared.search.Place.TheVariants.{Here, In}

-- how many values lie aside
abbrev pub len_in : Place → ℕ
len_in (Here len) = len
len_in (In block) = 0

-- the block in which they lie, if they lie in one
abbrev pub block_in : Place → Option ℕ
block_in (Here len) = None
block_in (In block) = Some block

abbrev pub len_of : Entry → ℕ
len_of e = len_in e.place

-- these values as a row; no row has none
abbrev pub as_row : List Value → Option Row
as_row [] = None
as_row (value ∷ values) = Some (value ∷ values)

-- how a row lies of which these values lie aside
abbrev pub lying_of : List Value → Option ℕ → Lying
lying_of values block = record { row = as_row values; block = block }

-- how the row of an entry lies, by all values that lie aside
abbrev pub lies_in : List Value → Entry → Lying
lies_in values e = lying_of (take (len_of e) (drop e.first values)) (block_in e.place)

abbrev pub pair_of : List Value → Entry → Thing × (ℕ × Lying)
pair_of values e = (e.thing, (e.count, lies_in values e))

-- what of an entry does not lie aside
abbrev pub amount_of : Entry → Amount
amount_of e = (e.thing, e.count)

-- rows stand one behind another, from one place to another
abbrev pub FollowFrom : ℕ → List Entry → ℕ → Type 0
FollowFrom at [] end = at ≡ end
FollowFrom at (e ∷ es) end = (e.first ≡ at) × (len_of e ≤ 8) × FollowFrom (at + len_of e) es end

-- the same entries with rows one behind another, from a place on
abbrev pub lined_up : ℕ → List Entry → List Entry
lined_up at [] = []
lined_up at (e ∷ es) = record e { first = at } ∷ lined_up (at + len_of e) es
