-- What is reachable in the plain machine.
use Rattle.std.specs.Prelude.{ℕ, ◌+◌, ◌++◌, ◌||◌, Bool, is_some, not, if◌then◌else◌, List, [], ◌∷◌, flat_map, slice_get, unwrap_or}
use Rattle.std.specs.Option.{option_map_or}
use Rattle.orca_names.specs.declared.names.Thing.{Thing}
use Rattle.orca_names.specs.declared.names.Thing.TheVariants.{Actor, Obj}
use Rattle.orca_names.specs.declared.names.Value.{Value}
use Rattle.reach_walk.specs.Reach.{Reaches}
use Rattle.plain_rules.specs.declared.PlainActor.{PlainActor}
use Rattle.plain_list.specs.Lists.{is_empty}
use Rattle.plain_rules.specs.Machine.{PlainState, plain_row}

-- a root is pinned, has a frame or has a letter
abbrev pub is_root : PlainActor → Bool
is_root x = x.fields.pinned || is_some x.frame || not (is_empty x.letters)

-- the roots among these actors, the first of which has the number a
abbrev pub roots_from : ℕ → List PlainActor → List Thing
roots_from a [] = []
roots_from a (x ∷ xs) = if is_root x then Actor a ∷ roots_from (a + 1) xs else roots_from (a + 1) xs

-- an actor leads to each value in its fields, its registers and its letters' arguments
abbrev pub values_of : PlainActor → List Value
values_of x =
    x.fields.values
    ++ (option_map_or (λ f. f.registers) x.frame [] ++ flat_map (λ l. l.args) x.letters)

-- an object leads to each value of its row
abbrev pub plain_edges : List PlainActor → Thing → List Value
plain_edges actors (Actor a) = option_map_or values_of (slice_get actors a) []
plain_edges actors (Obj n) = unwrap_or (plain_row actors n) []

-- a finite path leads to the thing from a root; an object also leads to its owner
abbrev pub IsReachable : PlainState → Thing → Type 0
IsReachable s x = Reaches (plain_edges s.actors) (roots_from 0 s.actors) x
