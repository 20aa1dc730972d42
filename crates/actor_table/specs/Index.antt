-- An index of a list: where an element has a property, its place is on.
use Rattle.std.specs.Prelude.{ℕ, ◌≡◌, ◌≤◌, Bool, false, List, get_or, length, slice_index_or}

-- each element has a place, and a place is on exactly where its element has the property; past the last
-- element stands `none`
pub record IsIndex {A : Type 0} (has : A → Bool) (none : A) (on : List Bool) (xs : List A) : Type 0 where
  pub room : length xs ≤ length on
  pub at : (a : ℕ) → slice_index_or on a false ≡ has (get_or xs a none)
