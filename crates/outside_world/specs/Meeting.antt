-- A gate at which two actors meet.
use Rattle.std.specs.Prelude.{ℕ, Bool, ◌&&◌, not}

-- the two actors, and how often one looks for the other
pub record Meeting : Type 0 where
  pub one : ℕ
  pub other : ℕ
  pub tries : ℕ

-- it was entered, and did not give up
abbrev pub stays : Bool → Bool → Bool
stays entered gave_up = entered && not gave_up
