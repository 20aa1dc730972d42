-- Things that are put in order.
use Rattle.std.specs.Prelude.{◌⊎◌, ◌↔◌, List, [], ◌∷◌, Contains}
use Rattle.std.specs.FinMap.Entries.{by_order}
use Rattle.std.specs.List.Sorted.{IsStrictlySortedBy}
use Rattle.orca_names.specs.Names.{thing_cmp}
use Rattle.orca_names.specs.declared.names.Thing.{Thing}

-- a thing in its place among things in order, where it stands once
abbrev pub put_in_order : Thing → List Thing → List Thing
put_in_order x [] = x ∷ []
put_in_order x (y ∷ ys) = by_order (thing_cmp x y) (x ∷ y ∷ ys) (y ∷ ys) (y ∷ put_in_order x ys)

-- new has the things of old and of xs in order, and no others
pub record Puts (xs old new : List Thing) : Type 0 where
  pub rising : IsStrictlySortedBy thing_cmp new
  pub there : (x : Thing) → Contains new x ↔ (Contains old x ⊎ Contains xs x)
