-- What is taken from a source and given to a sink piece by piece.
use Rattle.std.specs.Prelude.{◌≡◌, ℕ, ◌<◌, ◌≤◌, List, ◌++◌, length, take}
use Rattle.std.specs.declared.option.Option.{Option}
use Rattle.std.specs.Io.KnownBytes.{Appends, Consumes, IsAtEnd}

-- the bytes are all that was left, or the first of them where there are as many as may be taken
pub record TakesAll (most : ℕ) (before after : Option (List ℕ)) (bytes : List ℕ) : Type 0 where
  pub front : Consumes before after bytes
  pub bounded : length bytes ≤ most
  pub whole : length bytes < most → IsAtEnd after

-- some front of what was left was taken
pub record TakesPart (before after : Option (List ℕ)) : Type 0 where
  pub bytes : List ℕ
  pub front : Consumes before after bytes

-- one turn of reading adds so many bytes
pub record TakesMore (before after : Option (List ℕ)) (old new : List ℕ) (count : ℕ) : Type 0 where
  pub bytes : List ℕ
  pub front : Consumes before after bytes
  pub added : new ≡ old ++ bytes
  pub size : length bytes ≡ count

-- a front of the bytes was written, and not all of them
pub record GivesPart (before after : Option (List ℕ)) (bytes : List ℕ) : Type 0 where
  pub count : ℕ
  pub short : count < length bytes
  pub front : Appends before after (take count bytes)
