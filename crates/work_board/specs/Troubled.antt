-- A board round a board, some of whose looks answer wrong names.
use Rattle.std.specs.Prelude.{ℕ, ◌+◌, ◌-◌, ◌^◌, ◌==◌, min, Bool, false, List, Option, find, option_map}

-- the board inside, the wrong names with the numbers of the looks that answer them, the looks so far,
-- and whether the last of them was an end
pub record Troubled (B : Type 0) : Type 0 where
  pub inner : B
  pub wrong : List (ℕ × ℕ)
  pub looks : ℕ
  pub ended : Bool

-- one more, up to the end of 64 bits
abbrev pub one_more : ℕ → ℕ
one_more n = min (n + 1) (2 ^ 64 - 1)

-- the name beside this number
abbrev pub name_at : List (ℕ × ℕ) → ℕ → Option ℕ
name_at wrong look = option_map (λ pair. pair.1) (find (λ pair. pair.0 == look) wrong)

-- a look that answered a wrong name
abbrev pub after_wrong : {B : Type 0} → Troubled B → Troubled B
after_wrong t = record t { looks = one_more t.looks; ended = false }
