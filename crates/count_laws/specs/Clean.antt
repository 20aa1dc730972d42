-- What a collection leaves, and what every actor that did nothing since then still has.
use Rattle.std.specs.Prelude.{ℕ, ◌<◌, ◌≡◌, ◌⊎◌, true, false, List, Option, Some, None}
use Rattle.std.specs.FinMap as m
use Rattle.orca_names.specs.Names.{owner_of}
use Rattle.orca_names.specs.declared.names.ObjName.{ObjName}
use Rattle.orca_names.specs.declared.names.Thing.{Thing}
use Rattle.orca_names.specs.declared.names.Thing.TheVariants.{Obj}
use Rattle.reach_walk.specs.Reach.{thing_row}
use Rattle.letter_kinds.specs.Letters.{Letter}
use Rattle.letter_kinds.specs.Holdings.{Row, has_own, held_in, own_in}
use Rattle.machine_rules.specs.Actors.{Actors, Every}
use Rattle.machine_rules.specs.Cell.{Cell, own_row_of}
use Rattle.count_laws.specs.Known.{Names, ReachesThrough, row_at}

-- what an actor reaches from its fields through the rows that it has
abbrev pub IsInReach : ℕ → Cell → Thing → Type 0
IsInReach a c x = ReachesThrough (row_at a c.holdings) (Names c.fields.values) x

-- nothing is left that a collection would give back or free
pub record IsSweptAt (a : ℕ) (c : Cell) : Type 0 where
  -- each thing in its table is reached
  pub foreign : (x : Thing) (e : ℕ × Option Row) → m.get c.holdings.foreign x ≡ Some e
      → IsInReach a c x
  -- each own object is reached, or counted
  pub own : (k : ℕ) → has_own c.holdings (Obj (record { owner = a; serial = k })) ≡ true
      → IsInReach a c (Obj (record { owner = a; serial = k }))
      ⊎ (0 < own_in c.holdings (Obj (record { owner = a; serial = k })))

-- an idle actor that did nothing since it collected is swept
abbrev pub IsCleanAt : ℕ → Cell → List Letter → Type 0
IsCleanAt a c mail = c.frame ≡ None → c.dirty ≡ false → IsSweptAt a c

abbrev pub CleanAreSwept : Actors → Type 0
CleanAreSwept actors = Every IsCleanAt actors

-- ---- with root-only tracing

-- where its marks begin: what its fields name, and its own objects that are counted
pub data StartsMarks (a : ℕ) (c : Cell) : Thing → Type 0 where
  of_field : {x : Thing} → Names c.fields.values x → StartsMarks a c x
  of_count : {n : ObjName} → n.owner ≡ a → 0 < own_in c.holdings (Obj n) → StartsMarks a c (Obj n)

-- what they lead to through own rows
abbrev pub IsInOwnReach : ℕ → Cell → Thing → Type 0
IsInOwnReach a c x = ReachesThrough (thing_row (own_row_of a c.holdings)) (StartsMarks a c) x

pub record IsSweptByRootsAt (a : ℕ) (c : Cell) : Type 0 where
  pub foreign : (x : Thing) (e : ℕ × Option Row) → m.get c.holdings.foreign x ≡ Some e
      → IsInOwnReach a c x
  pub own : (n : ObjName) → n.owner ≡ a → has_own c.holdings (Obj n) ≡ true → IsInOwnReach a c (Obj n)

abbrev pub IsCleanByRootsAt : ℕ → Cell → List Letter → Type 0
IsCleanByRootsAt a c mail = c.frame ≡ None → c.dirty ≡ false → IsSweptByRootsAt a c

-- ---- counts on own things

-- an actor holds no count on a thing of its own
abbrev pub HoldsNoOwnAt : ℕ → Cell → List Letter → Type 0
HoldsNoOwnAt a c mail = (x : Thing) → owner_of x ≡ a → held_in c.holdings x ≡ 0

abbrev pub NoneHoldsItsOwn : Actors → Type 0
NoneHoldsItsOwn actors = Every HoldsNoOwnAt actors
