-- Paths through rows: going along a row, and what holds of all that is reached.
use Rattle.std.proofs.Common.{◌≡◌, [], Option, Some, None, refl, sym, subst}
use Rattle.std.specs.Prelude.{unwrap_or, Contains}
use Rattle.orca_names.specs.declared.names.ObjName.{ObjName}
use Rattle.orca_names.specs.declared.names.Thing.{Thing}
use Rattle.orca_names.specs.declared.names.Thing.TheVariants.{Actor, Obj}
use Rattle.reach_walk.specs.Reach.{root, step, owned, named_by}
use Rattle.reach_walk.proofs.Elements.{none_in_nil}
use Rattle.letter_kinds.specs.Holdings.{Row}
use Rattle.count_laws.specs.Known.{Names, ReachesThrough, row_values}

-- what a thing with a row leads to, and back
leads : (all : Thing → Option Row) (x y : Thing) (r : Row) → all x ≡ Some r → Names r y → Contains (named_by (row_values all x)) y
unfolding row_values
leads all x y r e n = subst (λ o. Contains (named_by (unwrap_or o [])) y) (sym e) n

led : (all : Thing → Option Row) (x y : Thing) (o : Option Row) → all x ≡ o → Contains (named_by (row_values all x)) y → (r : Row) × (all x ≡ Some r) × Names r y
unfolding row_values
led all x y None e n = none_in_nil y _ (subst (λ o. Contains (named_by (unwrap_or o [])) y) e n)
led all x y (Some r) e n = (r, e, subst (λ o. Contains (named_by (unwrap_or o [])) y) e n)

pub along_row : (all : Thing → Option Row) {roots : Thing → Type 0} {x y : Thing} {r : Row} → ReachesThrough all roots x → all x ≡ Some r → Names r y → ReachesThrough all roots y
along_row all {x = x} {y = y} {r = r} path e n = step path (leads all x y r e n)

-- what holds of the roots, goes along rows and to the owner, holds of all that is reached
pub reach_into : (all : Thing → Option Row) {roots : Thing → Type 0} (P : Thing → Type 0)
    → ((x : Thing) → roots x → P x)
    → ((x y : Thing) (r : Row) → P x → all x ≡ Some r → Names r y → P y)
    → ((n : ObjName) → P (Obj n) → P (Actor n.owner))
    → {x : Thing} → ReachesThrough all roots x → P x
reach_into all P at go up (root h) = at _ h
reach_into all P at go up (step {t = t} {x = y} h n) = let z = led all t y (all t) refl n in go t y z.0 (reach_into all P at go up h) z.1 z.2
reach_into all P at go up (owned h) = up _ (reach_into all P at go up h)

pub reach_more : (all : Thing → Option Row) {roots roots' : Thing → Type 0} → ((x : Thing) → roots x → ReachesThrough all roots' x) → {x : Thing} → ReachesThrough all roots x → ReachesThrough all roots' x
reach_more all {roots' = roots'} f h = reach_into all (ReachesThrough all roots') f (λ x y r p e n. along_row all p e n) (λ n p. owned p) h
