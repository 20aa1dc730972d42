-- What is told of rows that lie in blocks.
use Rattle.std.specs.Prelude.{ℕ, suc, ◌⊎◌, ◌++◌, ◌∷◌, List, [], Some, Contains, get_or}
use Rattle.orca_names.specs.declared.names.ObjName.{ObjName}
use Rattle.orca_names.specs.declared.names.Thing.{Thing}
use Rattle.orca_names.specs.declared.names.Thing.TheVariants.{Obj}
use Rattle.row_store.specs.Told.{Lying}
use Rattle.row_store.specs.Words.{HoldsRow, IsRow, Words}
use Rattle.letter_kinds.specs.Holdings.{Row}
use Rattle.letter_kinds.specs.declared.letter.Letter.{Letter}
use Rattle.letter_kinds.specs.declared.letter.Letter.TheVariants.{App, Inc, Dec, Confirm}

-- that somebody tells of an object that its row is this and lies in this block
abbrev pub Telling : Type 1
Telling = ObjName → Row → ℕ → Type 0

-- the object with this row, which lies in the block, as a letter tells it
abbrev pub in_block : ObjName → Row → ℕ → Thing × Lying
in_block n row block = (Obj n, record { row = Some row; block = Some block })

-- objects that this actor makes, from a serial on, with these rows, in these blocks, as many as there
-- are of both
unfoldable pub made_in : ℕ → ℕ → List Row → List ℕ → List (Thing × Lying)
made_in owner serial (row ∷ rows) (block ∷ blocks) =
    in_block (record { owner = owner; serial = serial }) row block
    ∷ made_in owner (suc serial) rows blocks
made_in owner serial (row ∷ rows) [] = []
made_in owner serial [] blocks = []

-- it is among these
abbrev pub Told : List (Thing × Lying) → Telling
Told load n row block = Contains load (in_block n row block)

-- what is told now was told before, or is among these
abbrev pub TellsOnly : Telling → List (Thing × Lying) → Telling → Type 0
TellsOnly old more new = (n : ObjName) (row : Row) (block : ℕ)
    → new n row block → old n row block ⊎ Told more n row block

-- nothing is told
abbrev pub TellsNothing : Telling → Type 0
TellsNothing told = (n : ObjName) (row : Row) (block : ℕ) → told n row block → ⊥

-- these words are known to hold each row that is told, in its block
abbrev pub HoldsTold : Words → Telling → Type 0
HoldsTold known told = (n : ObjName) (row : Row) (block : ℕ)
    → told n row block → IsRow row × HoldsRow block row known

-- what a letter brings: the things that it loads, and those whose rows it carries uncounted, each with
-- how its row lies
pub record Brought : Type 0 where
  pub load : List (Thing × Lying)
  pub rows : List (Thing × Lying)

-- all of these
abbrev pub all_brought : Brought → List (Thing × Lying)
all_brought b = b.load ++ b.rows

-- nothing
abbrev pub nothing_brought : Brought
nothing_brought = record { load = []; rows = [] }

-- what the letter brings; an application letter alone brings anything
abbrev pub brought_in : Letter → Brought
brought_in (App behaviour args load rows) = record { load = load; rows = rows }
brought_in (Inc things) = nothing_brought
brought_in (Dec things) = nothing_brought
brought_in (Confirm token) = nothing_brought

-- one of these letters tells so
abbrev pub ToldByOne : List Brought → Telling
ToldByOne letters n row block =
    (i : ℕ) × Told (all_brought (get_or letters i nothing_brought)) n row block
