-- Objects that stand together.
use Rattle.std.specs.Prelude.{ℕ, ◌≡◌, ◌+◌, ◌++◌, ◌<◌, ◌^◌, true, Option, Some, List, length, slice_get}
use Rattle.orca_names.specs.Names.{owner_of}
use Rattle.orca_names.specs.declared.names.ObjName.{ObjName}
use Rattle.orca_names.specs.declared.names.Thing.{Thing}
use Rattle.orca_names.specs.declared.names.Thing.TheVariants.{Obj}
use Rattle.orca_names.specs.declared.names.Value.{Value}
use Rattle.row_store.specs.Told.{Lying, lie_as, thing_lies}
use Rattle.reach_walk.specs.declared.dense.Dense.{Dense}

-- these things stand at this place and behind it, each with how its row lies
abbrev pub StandFrom : (Thing → Option ℕ) → (Thing → Lying) → ℕ → List (Thing × Lying) → Type 0
StandFrom place lies at items =
    (i : ℕ) (e : Thing × Lying) → slice_get items i ≡ Some e
    → (place e.0 ≡ Some (at + i)) × (e.1 ≡ lies e.0)

-- so many things from this place on come behind, each with how its row lies
abbrev pub PushesFrom : (Thing → Option ℕ) → (Thing → Lying) → ℕ → ℕ → List (Thing × Lying)
    → List (Thing × Lying) → Type 0
PushesFrom place lies at count old new =
    (run : List (Thing × Lying)) × (length run ≡ count)
    × StandFrom place lies at run × (new ≡ old ++ run)

-- objects of one owner stand together, from a place on
pub record StandTogether (place : Thing → Option ℕ) (rows : ObjName → Option (List Value))
    (blocks : ObjName → Option ℕ) (dense : Dense) : Type 0 where
  pub placed : StandFrom place (thing_lies rows blocks) dense.base (lie_as rows dense.items.now)
  pub owned : (i : ℕ) (e : Thing × Lying) → slice_get (lie_as rows dense.items.now) i ≡ Some e
      → owner_of e.0 ≡ dense.owner
  -- where none is missing between, a serial tells which it is
  pub whole : dense.whole ≡ true → (i : ℕ) (e : Thing × Lying) (n : ObjName)
      → slice_get (lie_as rows dense.items.now) i ≡ Some e → n.owner ≡ dense.owner
      → n.serial ≡ dense.first + i → e.0 ≡ Obj n
  pub fits : dense.base + length dense.items.now < 2 ^ 64
