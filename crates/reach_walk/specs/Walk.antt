-- A walk that is under way.
use Rattle.std.specs.Prelude.{ℕ, ◌≡◌, ◌⊎◌, ◌↔◌, ◌<◌, ◌≤◌, Bool, true, false, Option, None, Some, List, [], ◌∷◌, ◌++◌, Contains, length, slice_index_or}
use Rattle.std.specs.BTreeSet.{BTreeSet}
use Rattle.std.specs.List.{IsDistinct}
use Rattle.orca_names.specs.Names.{owner_of, is_thing}
use Rattle.orca_names.specs.declared.names.Thing.{Thing}
use Rattle.orca_names.specs.declared.names.Thing.TheVariants.{Actor}
use Rattle.orca_names.specs.declared.names.Value.{Value}
use Rattle.reach_walk.specs.Reach.{named_by}
use Rattle.reach_walk.specs.declared.noted.Noted.{Noted}
use Rattle.reach_walk.specs.declared.seen.Seen.{Seen}

-- where a walk goes on from a thing: its owner, and what its edges name
abbrev pub next_of : (Thing → List Value) → Thing → List Thing
next_of edges t = Actor (owner_of t) ∷ named_by (edges t)

-- old goes on into new, which has the things of old and of xs, and no others
pub record Adds (xs old new : List Thing) : Type 0 where
  pub behind : (more : List Thing) × (new ≡ old ++ more)
  pub added : (x : Thing) → Contains xs x → Contains new x
  pub only : (x : Thing) → Contains new x → Contains old x ⊎ Contains xs x

-- the bit of a thing's place is on, where it has one
abbrev pub IsOn : Option ℕ → List Bool → Type 0
IsOn (Some p) bits = slice_index_or bits p false ≡ true
IsOn None bits = ⊥

-- just these things are told: what has a place by its bit, and what has none by the set
pub record AreTold (place : Thing → Option ℕ) (count : ℕ) (noted : Noted)
    (things : List Thing) : Type 0 where
  pub placed : (x : Thing) (p : ℕ) → place x ≡ Some p
      → Contains things x ↔ (slice_index_or noted.bits p false ≡ true)
  pub others : (x : Thing) → Contains noted.others.keys x ↔ (Contains things x × (place x ≡ None))
  pub room : count ≤ length noted.bits
  pub within : (p : ℕ) → slice_index_or noted.bits p false ≡ true → p < count

-- a thing is noted beside others, and whether it is new among them
abbrev pub Notes : (Thing → Option ℕ) → ℕ → Noted → List Thing → Thing → Bool → Type 0
Notes place count noted things x true =
    AreTold place count noted (things ++ x ∷ []) × (Contains things x → ⊥)
Notes place count noted things x false = AreTold place count noted things × Contains things x

-- these things are in the set; there is none while they are few
abbrev pub AreNoted : Option (BTreeSet Thing) → List Thing → Type 0
AreNoted (Some set) things = (x : Thing) → Contains set.keys x ↔ Contains things x
AreNoted None things = length things ≤ 8

-- each thing was seen once, and is noted
pub record IsSeen (seen : Seen) : Type 0 where
  pub once : IsDistinct is_thing seen.things
  pub noted : AreNoted seen.noted seen.things
  -- the last owner was seen
  pub owner : (a : ℕ) → seen.owner ≡ Some a → Contains seen.things (Actor a)
