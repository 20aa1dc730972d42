-- A walk by places that is under way.
use Rattle.std.specs.Prelude.{ℕ, ◌≡◌, ◌↔◌, ◌==◌, Bool, Option, None, Some, List, [], ◌∷◌, ◌++◌, Contains, map}
use Rattle.std.specs.List.{IsDistinct, flat_map}
use Rattle.std.specs.List.Sorted.{IsStrictlySortedBy}
use Rattle.orca_names.specs.Names.{owner_of, thing_cmp}
use Rattle.orca_names.specs.declared.names.ObjName.{ObjName}
use Rattle.orca_names.specs.declared.names.Thing.{Thing}
use Rattle.orca_names.specs.declared.names.Thing.TheVariants.{Actor, Obj}
use Rattle.orca_names.specs.declared.names.Value.{Value}
use Rattle.row_store.specs.Told.{Lying}
use Rattle.reach_walk.specs.Reach.{named_by, row_edges, AreReached}
use Rattle.reach_walk.specs.Walk.{AreTold, IsOn}
use Rattle.reach_walk.specs.declared.met.Met.{Met}

-- what is met with values: the things that they name, each with its owner
abbrev pub met_by : List Value → List Thing
met_by values = flat_map (λ x. x ∷ Actor (owner_of x) ∷ []) (named_by values)

-- numbers that go on into others
abbrev pub Grows : List ℕ → List ℕ → Type 0
Grows old new = (more : List ℕ) × (new ≡ old ++ more)

-- just these things were met, and the last owner among them
pub record Tells (place : Thing → Option ℕ) (count : ℕ) (met : Met) (things : List Thing) : Type 0 where
  pub told : AreTold place count met.noted things
  pub owner : (a : ℕ) → met.owner ≡ Some a → Contains things (Actor a)

-- just these things were met, with the owners of the objects among them, and the objects that have
-- places are queued by these, each once
pub record HasMet (place : Thing → Option ℕ) (count : ℕ) (met : Met) (things : List Thing) : Type 0 where
  pub tells : Tells place count met things
  pub owned : (n : ObjName) → Contains things (Obj n) → Contains things (Actor n.owner)
  pub queued : (n : ObjName) (p : ℕ) → Contains things (Obj n) → place (Obj n) ≡ Some p
      → Contains met.queue.items p
  pub only : (p : ℕ) → Contains met.queue.items p
      → (n : ObjName) × Contains things (Obj n) × (place (Obj n) ≡ Some p)
  pub once : IsDistinct ◌==◌ met.queue.items

-- what was met is all that the values reach through rows, with the owners
abbrev pub HasReached : (Thing → Option ℕ) → ℕ → (ObjName → Option (List Value)) → List Value → Met
    → Type 0
HasReached place count rows roots met =
    (things : List Thing) × HasMet place count met things
    × AreReached (row_edges rows) (named_by roots) things

-- a thing without a place is among these
abbrev pub HasUnplaced : (Thing → Option ℕ) → List Thing → Type 0
HasUnplaced place things = (x : Thing) × Contains things x × (place x ≡ None)

-- the things whose places are on, in the order of things, each with how its row lies
abbrev pub ListsRows : (Thing → Option ℕ) → (Thing → Lying) → List Bool → List (Thing × Lying)
    → Type 0
ListsRows place lies bits load =
    (things : List Thing) × (load ≡ map (λ x. (x, lies x)) things)
    × IsStrictlySortedBy thing_cmp things × ((x : Thing) → Contains things x ↔ IsOn (place x) bits)
