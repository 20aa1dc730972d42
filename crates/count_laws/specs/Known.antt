-- What an actor knows, and what the letters that wait for it load.
use Rattle.std.specs.Prelude.{ℕ, ◌<◌, ◌≤◌, ◌≡◌, ◌≢◌, ◌⊎◌, true, List, [], ◌∷◌, Contains, map, Option, Some, None, unwrap_or, ⊤}
use Rattle.std.specs.List.Sorted.{IsStrictlySortedBy}
use Rattle.orca_names.specs.Names.{owner_of, thing_cmp}
use Rattle.orca_names.specs.declared.names.Thing.{Thing}
use Rattle.orca_names.specs.declared.names.Value.{Value}
use Rattle.turn_rules.specs.declared.act.Frame.{Frame}
use Rattle.reach_walk.specs.Reach.{named_by, thing_row, ReachesFrom}
use Rattle.letter_kinds.specs.Letters.{Letter, App, Inc, Dec, Confirm}
use Rattle.letter_kinds.specs.Counting.{Loaded}
use Rattle.letter_kinds.specs.Holdings.{Holdings, Row, has_own, held_in, row_of}
use Rattle.letter_kinds.specs.Sums.{times_loaded}
use Rattle.machine_rules.specs.Cell.{Cell}

-- one of the values names the thing
abbrev pub Names : List Value → Thing → Type 0
Names values x = Contains (named_by values) x

abbrev pub InFrame : Option Frame → Thing → Type 0
InFrame None x = ⊥
InFrame (Some frame) x = Names frame.registers x

-- the values of a thing's row
unfoldable pub row_values : (Thing → Option Row) → Thing → List Value
row_values all x = unwrap_or (all x) []

-- what a path through the rows leads to from a root
abbrev pub ReachesThrough : (Thing → Option Row) → (Thing → Type 0) → Thing → Type 0
ReachesThrough all roots x = ReachesFrom (row_values all) roots x

-- where an actor's walks begin: its fields, its registers, and what it holds
pub data StartsWalks (c : Cell) : Thing → Type 0 where
  in_fields : {x : Thing} → Names c.fields.values x → StartsWalks c x
  in_frame : {x : Thing} → InFrame c.frame x → StartsWalks c x
  in_table : {x : Thing} → 0 < held_in c.holdings x → StartsWalks c x

-- an actor knows a thing: its own, which is there, or another's, on which it holds a count
abbrev pub IsKnown : ℕ → Holdings → Thing → Type 0
IsKnown me h x = ((owner_of x ≡ me) × (has_own h x ≡ true)) ⊎ ((owner_of x ≢ me) × (0 < held_in h x))

-- the row that an actor has of a thing
abbrev pub row_at : ℕ → Holdings → Thing → Option Row
row_at me h = thing_row (row_of me h)

-- it knows all that it reaches through the rows ever made
abbrev pub IsClosedAt : (Thing → Option Row) → ℕ → Cell → Type 0
IsClosedAt all me c = (x : Thing) → ReachesThrough all (StartsWalks c) x → IsKnown me c.holdings x

-- the rows that it has are those that were made
abbrev pub RowsAreAt : (Thing → Option Row) → ℕ → Holdings → Type 0
RowsAreAt all me h = (x : Thing) → IsKnown me h x → row_at me h x ≡ all x

-- each row of a load is the one that was made
abbrev pub RowsAreIn : (Thing → Option Row) → List Loaded → Type 0
RowsAreIn all [] = ⊤
RowsAreIn all (e ∷ load) = (e.1 ≡ all e.0) × RowsAreIn all load

-- a load is exactly what its letter's arguments reach: each thing once, in the order of things
pub record IsLoadOf (all : Thing → Option Row) (args : List Value) (load : List Loaded) : Type 0 where
  pub once : (x : Thing) → times_loaded x load ≤ 1
  pub rising : IsStrictlySortedBy thing_cmp (map (λ e. e.0) load)
  pub reached : (x : Thing) → 0 < times_loaded x load → ReachesThrough all (Names args) x
  pub whole : (x : Thing) → ReachesThrough all (Names args) x → 0 < times_loaded x load
  pub rows : RowsAreIn all load

abbrev pub IsExactLetter : (Thing → Option Row) → Letter → Type 0
IsExactLetter all (App behaviour args load rows) = IsLoadOf all args load
IsExactLetter all (Inc things) = ⊤
IsExactLetter all (Dec things) = ⊤
IsExactLetter all (Confirm token) = ⊤

abbrev pub AreExactLetters : (Thing → Option Row) → List Letter → Type 0
AreExactLetters all [] = ⊤
AreExactLetters all (letter ∷ mail) = IsExactLetter all letter × AreExactLetters all mail

-- of an actor that is present: it knows what it reaches, with the rows, and its letters' loads are
-- exact
pub record IsSoundAt (all : Thing → Option Row) (a : ℕ) (c : Cell) (mail : List Letter) : Type 0 where
  pub closed : IsClosedAt all a c
  pub rows : RowsAreAt all a c.holdings
  pub loads : AreExactLetters all mail
