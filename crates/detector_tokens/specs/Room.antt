-- Room for further tokens.
use Rattle.std.specs.Prelude.{ℕ, ◌≡◌, ◌<◌, ◌≤◌, true, List, []}
use Rattle.letter_kinds.specs.Detector.{Token, has}

-- so many further tokens, of actors below this number
pub record Room : Type 0 where
  pub tokens : ℕ
  pub actors : ℕ

-- a further token of these members fits
pub record Fits (members : List ℕ) (room : Room) : Type 0 where
  pub token : 0 < room.tokens
  pub each : (m : ℕ) → has members m ≡ true → m < room.actors

-- no room was lost
pub record KeepsRoom (before after : Room) : Type 0 where
  pub tokens : before.tokens ≤ after.tokens
  pub actors : before.actors ≤ after.actors

-- the open tokens, and the room for more
pub record TokensValue : Type 0 where
  pub list : List Token
  pub room : Room

-- no token, and no room
abbrev pub nothing_open : TokensValue
nothing_open = record { list = []; room = record { tokens = 0; actors = 0 } }
