-- A finite list that has all that is reached.
use Rattle.std.proofs.Common.{◌≢◌, List, [], ◌++◌, Contains, subst}
use Rattle.std.specs.List.{flat_map}
use Rattle.std.proofs.lemmas.List.Elements.{Contains-append_left, Contains-append_right}
use Rattle.orca_names.specs.declared.names.Thing.{Thing}
use Rattle.orca_names.specs.declared.names.Thing.TheVariants.{Obj}
use Rattle.orca_names.specs.declared.names.Value.{Value}
use Rattle.reach_walk.specs.Marks.{with_owners}
use Rattle.reach_walk.specs.Reach.{named_by, Reaches, root, step, owned}
use Rattle.reach_walk.proofs.Elements.{Contains-flat_map, none_in_nil}
use Rattle.reach_walk.proofs.Owners.{with_owners-keeps, with_owners-owner}

-- the roots and what values name on the edges of all things
abbrev named : (Thing → List Value) → List Thing → List Thing → List Thing
named edges all roots = roots ++ flat_map (λ t. named_by (edges t)) all

-- these, and their owners
abbrev pub cover_of : (Thing → List Value) → List Thing → List Thing → List Thing
cover_of edges all roots = with_owners (named edges all roots)

module _ (edges : Thing → List Value) (all roots : List Thing) where
  pub covers : ((t : Thing) → edges t ≢ [] → Contains all t) → (x : Thing) → Reaches edges roots x → Contains (cover_of edges all roots) x
  covers within x (root c) = with_owners-keeps (named edges all roots) x (Contains-append_left roots (flat_map (λ t. named_by (edges t)) all) x c)
  covers within x (step {t} r c) =
      let leads : edges t ≢ [] = λ e. none_in_nil x ⊥ (subst (λ vs. Contains (named_by vs) x) e c) in
      with_owners-keeps (named edges all roots) x (Contains-append_right roots (flat_map (λ u. named_by (edges u)) all) x
      (Contains-flat_map (λ u. named_by (edges u)) all t x (within t leads) c))
  covers within _ (owned {n} r) = with_owners-owner (named edges all roots) (Obj n) (covers within (Obj n) r)
