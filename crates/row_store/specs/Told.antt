-- What is told of rows, and which rows these are where they lie in blocks.
use Rattle.std.specs.Prelude.{ℕ, ◌≡◌, List, Option, None, Some, map}
use Rattle.std.specs.List.{All}
use Rattle.orca_names.specs.declared.names.ObjName.{ObjName}
use Rattle.orca_names.specs.declared.names.Thing.{Thing}
use Rattle.orca_names.specs.declared.names.Thing.TheVariants.{Actor, Obj}
use Rattle.orca_names.specs.declared.names.Value.{Value}
use Rattle.row_store.specs.declared.told.Told.{Told}
use Rattle.row_store.specs.declared.told.Told.TheVariants.{Nothing, Here, In}

-- the row of a thing, of these by the names of objects: an actor has none
abbrev pub thing_row : (ObjName → Option (List Value)) → Thing → Option (List Value)
thing_row rows (Actor a) = None
thing_row rows (Obj n) = rows n

-- the row that is at hand
abbrev pub row_here : Told → Option (List Value)
row_here Nothing = None
row_here (Here row) = Some row
row_here (In block) = None

-- the block in which the row lies, if it does
abbrev pub told_block : Told → Option ℕ
told_block Nothing = None
told_block (Here row) = None
told_block (In block) = Some block

-- the row that is told of a thing: one in a block is that of these
abbrev pub told_row : (ObjName → Option (List Value)) → Thing → Told → Option (List Value)
told_row rows x Nothing = None
told_row rows x (Here row) = Some row
told_row rows x (In block) = thing_row rows x

-- what tells a row that lies in this block, if it lies in one
abbrev pub told_of : List Value → Option ℕ → Told
told_of row None = Here row
told_of row (Some block) = In block

-- the blocks of things, by the names of objects: an actor has none
abbrev pub thing_block : (ObjName → Option ℕ) → Thing → Option ℕ
thing_block blocks (Actor a) = None
thing_block blocks (Obj n) = blocks n

-- how the row of a thing lies: the row, and the block in which it lies, if it does
pub record Lying : Type 0 where
  pub row : Option (List Value)
  pub block : Option ℕ

-- a thing with how its row lies, as it is told
abbrev pub lies_as : (ObjName → Option (List Value)) → Thing × Told → Thing × Lying
lies_as rows e = (e.0, record { row = told_row rows e.0 e.1; block = told_block e.1 })

-- things with how their rows lie
abbrev pub lie_as : (ObjName → Option (List Value)) → List (Thing × Told) → List (Thing × Lying)
lie_as rows items = map (lies_as rows) items

-- how the row of a thing lies among these
abbrev pub thing_lies : (ObjName → Option (List Value)) → (ObjName → Option ℕ) → Thing → Lying
thing_lies rows blocks x = record { row = thing_row rows x; block = thing_block blocks x }

-- no row lies in a block
abbrev pub AreHere : List (Thing × Lying) → Type 0
AreHere load = All (λ e. e.1.block ≡ None) load
