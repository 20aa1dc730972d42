-- Rows that stand in blocks.
use Rattle.std.specs.Prelude.{ℕ, ◌≡◌, List, Option, Some, IsSome}
use Rattle.std.specs.Coded.{codes, le_prop, Unit-prop, ×_prop}
use Rattle.orca_names.specs.declared.names.ObjName.{ObjName}
use Rattle.orca_names.specs.declared.names.Value.{Value}
use Rattle.orca_names.specs.declared.names.Value.TheVariants.{Null, Num, Actor, Obj}
use Rattle.row_store.specs.Words.{FitsValue, HoldsRow, IsRow, Words}

-- where an object's row lies in a block, the block's words are known and are the row's
pub record Stand (rows : ObjName → Option (List Value)) (blocks : ObjName → Option ℕ)
    (known : Words) : Type 0 where
  pub is_row : (n : ObjName) (row : List Value) (block : ℕ) → rows n ≡ Some row
      → blocks n ≡ Some block → IsRow row
  pub holds : (n : ObjName) (row : List Value) (block : ℕ) → rows n ≡ Some row
      → blocks n ≡ Some block → HoldsRow block row known

-- what lies in a block is a row, and is remembered
pub record AreRemembered (rows : ObjName → Option (List Value)) (blocks : ObjName → Option ℕ)
    (memory : ObjName → Option (List Value)) : Type 0 where
  pub there : (n : ObjName) → IsSome (blocks n) → IsSome (rows n)
  pub same : (n : ObjName) → IsSome (blocks n) → memory n ≡ rows n

-- there are not two ways for it to be so
FitsValue-prop : (v : Value) → IsProp (FitsValue v)
FitsValue-prop Null = Unit-prop
FitsValue-prop (Num n) = le_prop
FitsValue-prop (Actor a) = le_prop
FitsValue-prop (Obj n) = ×_prop le_prop le_prop

pub Stand-prop : (rows : ObjName → Option (List Value)) (blocks : ObjName → Option ℕ) (known : Words)
    → IsProp (Stand rows blocks known)
Stand-prop rows blocks known = Prim.hlevel (codes, FitsValue-prop)
