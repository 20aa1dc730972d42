-- What an actor knows with root-only tracing, and what the letters that wait for it load.
use Rattle.std.specs.Prelude.{ℕ, ◌+◌, ◌<◌, ◌≤◌, ◌≡◌, ◌≢◌, drop, map, take, true, List, [], ◌∷◌, Option, Some, sum_by, ⊤}
use Rattle.std.specs.FinMap as m
use Rattle.std.specs.List.Sorted.{IsStrictlySortedBy}
use Rattle.orca_names.specs.Names.{owner_of, thing_cmp}
use Rattle.orca_names.specs.declared.names.ObjName.{ObjName}
use Rattle.orca_names.specs.declared.names.Thing.{Thing}
use Rattle.orca_names.specs.declared.names.Thing.TheVariants.{Actor, Obj}
use Rattle.orca_names.specs.declared.names.Value.{Value}
use Rattle.reach_walk.specs.Reach.{thing_row}
use Rattle.letter_kinds.specs.Counting.{Loaded}
use Rattle.letter_kinds.specs.Holdings.{Holdings, Row, has_own, held_in, own_in}
use Rattle.letter_kinds.specs.Sums.{dec_of, inc_of, load_count, times_loaded}
use Rattle.letter_kinds.specs.Letters.{Letter, App, Inc, Dec, Confirm}
use Rattle.machine_rules.specs.Cell.{Cell, own_row_of}
use Rattle.count_laws.specs.Known.{InFrame, IsKnown, IsLoadOf, Names, ReachesThrough}

-- its fields, its registers or the row of an own object name the thing
pub data IsNamedIn (a : ℕ) (c : Cell) : Thing → Type 0 where
  by_field : {x : Thing} → Names c.fields.values x → IsNamedIn a c x
  by_frame : {x : Thing} → InFrame c.frame x → IsNamedIn a c x
  by_row : {x : Thing} (n : ObjName) (row : Row) → own_row_of a c.holdings n ≡ Some row
      → Names row x → IsNamedIn a c x

-- it knows the thing and its owner
abbrev pub IsKnownWithOwner : ℕ → Holdings → Thing → Type 0
IsKnownWithOwner a h x = IsKnown a h x × IsKnown a h (Actor (owner_of x))

-- where its walks through the rows ever made begin: what is named so, what it holds, and its own
-- objects
pub data WalkRoots (a : ℕ) (c : Cell) : Thing → Type 0 where
  named : {x : Thing} → IsNamedIn a c x → WalkRoots a c x
  held : {x : Thing} → 0 < held_in c.holdings x → WalkRoots a c x
  mine : {x : Thing} → owner_of x ≡ a → has_own c.holdings x ≡ true → WalkRoots a c x

-- ---- letters

-- it stands in the arguments, or owns what does
pub data IsRootOf (args : List Value) : Thing → Type 0 where
  stands : {x : Thing} → Names args x → IsRootOf args x
  owns : {x : Thing} → Names args x → IsRootOf args (Actor (owner_of x))

-- the load is that, each thing once, in the order of things; and the rows are those that the
-- arguments reach
pub record IsRootLetter (all : Thing → Option Row) (args : List Value)
    (load brought : List Loaded) : Type 0 where
  pub once : (x : Thing) → times_loaded x load ≤ 1
  pub rising : IsStrictlySortedBy thing_cmp (map (λ e. e.0) load)
  pub only : (x : Thing) → 0 < times_loaded x load → IsRootOf args x
  pub whole : (x : Thing) → IsRootOf args x → 0 < times_loaded x load
  pub rows : IsLoadOf all args brought

abbrev pub AreRootLetters : (Thing → Option Row) → List Letter → Type 0
AreRootLetters all [] = ⊤
AreRootLetters all (App behaviour args load rows ∷ mail) =
    IsRootLetter all args load rows × AreRootLetters all mail
AreRootLetters all (Inc things ∷ mail) = AreRootLetters all mail
AreRootLetters all (Dec things ∷ mail) = AreRootLetters all mail
AreRootLetters all (Confirm token ∷ mail) = AreRootLetters all mail

-- ---- increments

-- after the first k letters are taken, the count of y is at least 1
abbrev pub IsCountedAfter : Cell → List Letter → ℕ → Thing → Type 0
IsCountedAfter c mail k y =
    sum_by (dec_of y) (take k mail) + sum_by (load_count y) (take k mail) < own_in c.holdings y
    + sum_by (inc_of y) (take k mail)

-- it is there, and own rows lead to it from an own object that is counted then
pub record IsLedTo (a : ℕ) (c : Cell) (mail : List Letter) (k : ℕ) (n : ObjName) : Type 0 where
  pub there : has_own c.holdings (Obj n) ≡ true
  pub from : ObjName
  pub own : from.owner ≡ a
  pub counted : IsCountedAfter c mail k (Obj from)
  pub leads : ReachesThrough (thing_row (own_row_of a c.holdings)) (λ y. y ≡ Obj from) (Obj n)

-- then it is counted; or it is an object, and led to
pub data IsBacked (a : ℕ) (c : Cell) (mail : List Letter) (k : ℕ) : Thing → Type 0 where
  by_count : {x : Thing} → IsCountedAfter c mail k x → IsBacked a c mail k x
  by_path : {n : ObjName} → IsLedTo a c mail k n → IsBacked a c mail k (Obj n)

-- ---- all of it

pub record IsRootsAt (all : Thing → Option Row) (a : ℕ) (c : Cell) (mail : List Letter) : Type 0 where
  -- fields, registers and rows of own objects name own or held things, and with an object its owner
  pub named : (x : Thing) → IsNamedIn a c x → IsKnownWithOwner a c.holdings x
  -- who holds a thing holds its owner
  pub owners : (x : Thing) → 0 < held_in c.holdings x → IsKnown a c.holdings (Actor (owner_of x))
  -- own rows, and those that letters brought, are those that were made
  pub mine : (n : ObjName) (row : Row) → own_row_of a c.holdings n ≡ Some row → all (Obj n) ≡ Some row
  pub right : (n : ObjName) (row : Row) → m.get c.known (Obj n) ≡ Some row → all (Obj n) ≡ Some row
  -- of others' objects that its walks reach it has the row
  pub brought : (n : ObjName) (row : Row) → n.owner ≢ a → ReachesThrough all (WalkRoots a c) (Obj n)
      → all (Obj n) ≡ Some row → m.get c.known (Obj n) ≡ Some row
  -- what it owns or holds leads to each object of which letters brought the row
  pub led : (n : ObjName) (row : Row) → m.get c.known (Obj n) ≡ Some row
      → ReachesThrough all (IsKnown a c.holdings) (Obj n)
  pub letters : AreRootLetters all mail
  -- where an Inc for a thing still waits behind a prefix of its letters, the thing is backed after
  -- that
  pub backed : (x : Thing) (k : ℕ) → owner_of x ≡ a → 0 < sum_by (inc_of x) (drop k mail)
      → IsBacked a c mail k x
