-- What is reached from roots, along edges.
use Rattle.std.specs.Prelude.{◌↔◌, List, [], Option, Contains, unwrap_or}
use Rattle.std.specs.List.{filter_map}
use Rattle.orca_names.specs.declared.names.ObjName.{ObjName}
use Rattle.orca_names.specs.declared.names.Thing.{Thing}
use Rattle.orca_names.specs.declared.names.Thing.TheVariants as things
use Rattle.orca_names.specs.declared.names.Value.{Value}
pub use Rattle.orca_names.specs.Names.{thing_of}
pub use Rattle.row_store.specs.Told.{thing_row}

-- the things that values name, in their order
abbrev pub named_by : List Value → List Thing
named_by values = filter_map thing_of values

-- what a finite path leads to from a root: a root; what a value on an edge of a reached thing names;
-- the owner of a reached object
pub data ReachesFrom (edges : Thing → List Value) (IsRoot : Thing → Type 0) : Thing → Type 0 where
  root : {x : Thing} → IsRoot x → ReachesFrom edges IsRoot x
  step : {t x : Thing} → ReachesFrom edges IsRoot t → Contains (named_by (edges t)) x
      → ReachesFrom edges IsRoot x
  owned : {n : ObjName} → ReachesFrom edges IsRoot (things.Obj n)
      → ReachesFrom edges IsRoot (things.Actor n.owner)

-- what is reached from the things of a list
abbrev pub Reaches : (Thing → List Value) → List Thing → Thing → Type 0
Reaches edges roots x = ReachesFrom edges (Contains roots) x

-- the list has exactly these
abbrev pub AreReached : (Thing → List Value) → List Thing → List Thing → Type 0
AreReached edges roots things = (x : Thing) → Contains things x ↔ Reaches edges roots x

-- an object leads to the values of its row, an actor nowhere
abbrev pub row_edges : (ObjName → Option (List Value)) → Thing → List Value
row_edges rows x = unwrap_or (thing_row rows x) []
