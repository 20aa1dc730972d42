-- How much an actor holds of the things that a letter names.
use Rattle.std.specs.Prelude.{ℕ, ◌≢◌, ◌≤◌, All, List, length}
use Rattle.orca_names.specs.Names.{owner_of}
use Rattle.letter_kinds.specs.Counting.{Amount, Loaded}
use Rattle.letter_kinds.specs.Holdings.{Holdings, held_in}

-- another's thing is held so often at least
abbrev pub IsSpare : ℕ → Holdings → ℕ → Loaded → Type 0
IsSpare me h least e = (owner_of e.0 ≢ me) × (least ≤ held_in h e.0)

-- few things are loaded, each another's that is held so often at least
abbrev pub AreSpare : ℕ → Holdings → ℕ → List Loaded → Type 0
AreSpare me h least load = (length load ≤ 8) × All (IsSpare me h least) load

-- a thing is held at most a thousand times, and may be held 256 times more
abbrev pub IsLow : Holdings → Amount → Type 0
IsLow h e = (held_in h e.0 ≤ 1000) × (e.1 ≤ 256)

-- few things are held so rarely
abbrev pub AreLow : Holdings → List Amount → Type 0
AreLow h things = (length things ≤ 8) × All (IsLow h) things
