-- All things of the plain machine.
use Rattle.std.specs.Prelude.{◌≡◌, ◌≢◌, ℕ, zero, suc, ◌+◌, ◌<◌, List, [], ◌∷◌, ◌++◌, length, map, Option, Some, None, slice_get, unwrap_or, Contains, refl}
use Rattle.std.specs.Option.{option_map_or}
use Rattle.std.proofs.Common.{subst, arith}
use Rattle.std.proofs.lemmas.List.Elements.{Contains-append_left, Contains-append_right}
use Rattle.std.proofs.lemmas.Option.{slice_get_within}
use Rattle.orca_names.specs.declared.names.Thing.{Thing}
use Rattle.orca_names.specs.declared.names.Thing.TheVariants.{Actor, Obj}
use Rattle.orca_names.specs.declared.names.Value.{Value}
use Rattle.reach_walk.specs.Rows.{Contains-map}
use Rattle.plain_rules.specs.declared.PlainActor.{PlainActor}
use Rattle.plain_rules.specs.Machine.{plain_row}
use Rattle.plain_rules.specs.Reach.{plain_edges, values_of}
use Rattle.plain_machine.specs.Objects.{all_objects, in_tail, row_is_listed}

-- the actors, the first of which has the number a
abbrev pub actors_from : ℕ → List PlainActor → List Thing
actors_from a [] = []
actors_from a (x ∷ xs) = Actor a ∷ actors_from (a + 1) xs

-- the actors and the objects
abbrev pub all_things : List PlainActor → List Thing
all_things actors = actors_from 0 actors ++ map Obj (all_objects 0 actors)

actor_is_among : (a k : ℕ) (xs : List PlainActor) → k < length xs
    → Contains (actors_from a xs) (Actor (a + k))
actor_is_among a k [] h = absurd (omega arith)
actor_is_among a zero (x ∷ xs) h =
    let e : a ≡ a + 0 = omega arith in
    subst (λ m. Contains (actors_from a (x ∷ xs)) (Actor m)) e (0, omega arith, refl)
actor_is_among a (suc k) (x ∷ xs) h =
    let e : a + 1 + k ≡ a + suc k = omega arith in
    subst (λ m. Contains (actors_from a (x ∷ xs)) (Actor m)) e
    (in_tail (Actor a) (actors_from (a + 1) xs) (Actor (a + 1 + k))
    (actor_is_among (a + 1) k xs (omega arith)))

-- what leads on is among all things
pub edges_are_listed : (actors : List PlainActor) (t : Thing) → plain_edges actors t ≢ []
    → Contains (all_things actors) t
edges_are_listed actors (Actor a) leads = cases (slice_get actors a) refl leads
  where
    cases : (found : Option PlainActor) → slice_get actors a ≡ found
        → option_map_or values_of found [] ≢ [] → Contains (all_things actors) (Actor a)
    cases None e h = absurd (h refl)
    cases (Some x) e h =
        let z : 0 + a ≡ a = omega arith in
        Contains-append_left (actors_from 0 actors) (map Obj (all_objects 0 actors)) (Actor a)
        (subst (λ m. Contains (actors_from 0 actors) (Actor m)) z
        (actor_is_among 0 a actors (slice_get_within actors a x e)))
edges_are_listed actors (Obj n) leads = cases (plain_row actors n) refl leads
  where
    cases : (found : Option (List Value)) → plain_row actors n ≡ found → unwrap_or found [] ≢ []
        → Contains (all_things actors) (Obj n)
    cases None e h = absurd (h refl)
    cases (Some row) e h =
        Contains-append_right (actors_from 0 actors) (map Obj (all_objects 0 actors)) (Obj n)
        (Contains-map Obj (all_objects 0 actors) n (row_is_listed actors n row e))
