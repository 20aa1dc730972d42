-- The rooms in which cells lie that are out of a hall.
use Rattle.std.specs.Prelude.{ℕ}

-- how many are free, and how many are out
pub record RoomsView : Type 0 where
  pub free : ℕ
  pub out : ℕ
