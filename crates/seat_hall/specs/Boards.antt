-- A pass as a board.
use Rattle.std.specs.Prelude.{ℕ, ◌≡◌, Bool, List}
use Rattle.seat_hall.specs.declared.item.Item.{Item}
use Rattle.seat_hall.specs.Log.{Logged}
use Rattle.seat_hall.specs.Passes.{Calls, KeepsCells, KeepsOthers, Stays, Token, out}

-- its token, its number, and whether its last look was an end and the run was spoilt
pub record PassValue : Type 0 where
  pub token : Token
  pub number : ℕ
  pub ended : Bool
  pub spoilt : Bool

-- how many of its claims are out
abbrev pub out_of : PassValue → ℕ
out_of p = out p.number p.token

-- it stays the pass that it is, had so many turns, and keeps its cells
pub record StaysPass (turns : ℕ) (old new : PassValue) : Type 0 where
  pub number : new.number ≡ old.number
  pub stays : Stays old.number turns old.token new.token
  pub cells : KeepsCells old.number old.token new.token

-- it stays the pass that it is, had one turn, and keeps its cells but for that of the actor a
pub record GivesUp (a : ℕ) (old new : PassValue) : Type 0 where
  pub number : new.number ≡ old.number
  pub stays : Stays old.number 1 old.token new.token
  pub cells : KeepsOthers old.number a old.token new.token

-- its call at its own step
abbrev pub CallsAs : PassValue → PassValue → List Item → (Logged → Type 0) → Type 0
CallsAs old new own answer = Calls old.number old.token new.token own answer
