-- Things with their owners.
use Rattle.std.proofs.Common.{inl, inr, List, map, Contains, sym, subst}
use Rattle.std.proofs.lemmas.List.Elements.{Contains-append_left, Contains-append_right, Contains-append_cases}
use Rattle.orca_names.specs.Names.{owner_of}
use Rattle.orca_names.specs.declared.names.Thing.{Thing}
use Rattle.orca_names.specs.declared.names.Thing.TheVariants.{Actor, Obj}
use Rattle.orca_names.specs.declared.names.Value.{Value}
use Rattle.reach_walk.specs.Marks.{with_owners}
use Rattle.reach_walk.specs.Reach.{Reaches, owned}
use Rattle.reach_walk.specs.Rows.{Contains-map}
use Rattle.reach_walk.proofs.Elements.{Contains-from_map}

abbrev pub owners : List Thing → List Thing
owners things = map (λ x. Actor (owner_of x)) things

pub with_owners-keeps : (things : List Thing) (x : Thing) → Contains things x → Contains (with_owners things) x
with_owners-keeps things x c = Contains-append_left things (owners things) x c

-- what has all of the things has their owners
pub with_owners-more : (things more : List Thing) → ((x : Thing) → Contains things x → Contains more x) → (x : Thing) → Contains (with_owners things) x → Contains (with_owners more) x
with_owners-more things more has x c = elim (Contains-append_cases things (owners things) x c) as (λ _. Contains (with_owners more) x) [
  | inl d ↦ Contains-append_left more (owners more) x (has x d)
  | inr d ↦
      let from = Contains-from_map (λ y. Actor (owner_of y)) things x d in
      subst (Contains (with_owners more)) from.2 (Contains-append_right more (owners more) (Actor (owner_of from.0)) (Contains-map (λ y. Actor (owner_of y)) more from.0 (has from.0 from.1)))
]

-- they have the owner of each
pub with_owners-owner : (things : List Thing) (x : Thing) → Contains (with_owners things) x → Contains (with_owners things) (Actor (owner_of x))
with_owners-owner things x c = elim (Contains-append_cases things (owners things) x c) as (λ _. Contains (with_owners things) (Actor (owner_of x))) [
  | inl d ↦ Contains-append_right things (owners things) (Actor (owner_of x)) (Contains-map (λ y. Actor (owner_of y)) things x d)
  | inr d ↦
      let from = Contains-from_map (λ y. Actor (owner_of y)) things x d in
      subst (λ y. Contains (with_owners things) (Actor (owner_of y))) from.2 (subst (Contains (with_owners things)) (sym from.2) c)
]

module _ (edges : Thing → List Value) (roots : List Thing) where
  -- the owner of a reached thing is reached
  pub owner_reached : (x : Thing) → Reaches edges roots x → Reaches edges roots (Actor (owner_of x))
  owner_reached (Actor a) r = r
  owner_reached (Obj n) r = owned r

  pub with_owners-reached : (things : List Thing) → ((x : Thing) → Contains things x → Reaches edges roots x) → (x : Thing) → Contains (with_owners things) x → Reaches edges roots x
  with_owners-reached things reached x c = elim (Contains-append_cases things (owners things) x c) as (λ _. Reaches edges roots x) [
    | inl d ↦ reached x d
    | inr d ↦
        let from = Contains-from_map (λ y. Actor (owner_of y)) things x d in
        subst (Reaches edges roots) from.2 (owner_reached from.0 (reached from.0 from.1))
  ]
