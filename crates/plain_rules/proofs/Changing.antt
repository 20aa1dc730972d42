-- One actor is changed.
use Rattle.std.proofs.Common.{◌≡◌, ℕ, suc, ◌+◌, ◌≤◌, List, ◌∷◌, length, None, Some, set, slice_get, Option, refl, ap, arith}
use Rattle.std.specs.Option.{option_map_or}
use Rattle.std.proofs.lemmas.List.{length-set}
use Rattle.std.proofs.lemmas.List.Sums.{sum_by-set}
use Rattle.std.proofs.lemmas.Option.{get_or_from_slice_get, slice_get_within}
use Rattle.plain_rules.specs.declared.PlainActor.{PlainActor}
use Rattle.plain_rules.specs.Machine.{objects_made, with_changed}

pub with_changed-cons : (x : PlainActor) (xs : List PlainActor) (a : ℕ) (change : PlainActor → PlainActor) → with_changed (x ∷ xs) (suc a) change ≡ x ∷ with_changed xs a change
with_changed-cons x xs a change =
    elim (slice_get xs a) as (λ o. option_map_or (λ y. x ∷ set xs a (change y)) o (x ∷ xs) ≡ x ∷ option_map_or (λ y. set xs a (change y)) o xs) [ None ↦ refl | Some y ↦ refl ]

pub length-with_changed : (xs : List PlainActor) (a : ℕ) (change : PlainActor → PlainActor) → length (with_changed xs a change) ≡ length xs
length-with_changed xs a change =
    elim (slice_get xs a) as (λ o. length (option_map_or (λ y. set xs a (change y)) o xs) ≡ length xs) [ None ↦ refl | Some y ↦ length-set xs a (change y) ]

-- where an actor gets at most so many rows more, so do all together
pub changing_makes : (bound : ℕ) (xs : List PlainActor) (a : ℕ) (change : PlainActor → PlainActor) → ((x : PlainActor) → length (change x).rows ≤ length x.rows + bound) →
    objects_made (with_changed xs a change) ≤ objects_made xs + bound
changing_makes bound xs a change h = cases (slice_get xs a) refl
  where
    cases : (found : Option PlainActor) → slice_get xs a ≡ found → objects_made (option_map_or (λ x. set xs a (change x)) found xs) ≤ objects_made xs + bound
    cases None e = omega arith
    cases (Some x) e =
        omega (
          arith,
          h x,
          sum_by-set (λ y. length y.rows) xs a (change x) x (slice_get_within xs a x e),
          ap (λ y. length y.rows) (get_or_from_slice_get xs a x x e),
        )
