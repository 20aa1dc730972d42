-- Things whose places are on, listed by rising places.
use Rattle.std.proofs.Common.{◌≡◌, ℕ, ◌+◌, ◌<◌, ◌≤◌, ◌↔◌, inl, inr, Bool, true, false, Option, None, Some, List, [], ◌∷◌, ◌++◌, length, get_or, Contains, refl, sym, ap, subst, ◌∙◌, arith}
use Rattle.std.specs.Ordering.{nat_cmp}
use Rattle.std.specs.declared.cmp.Ordering.TheVariants.{Less}
use Rattle.std.specs.List.Sorted.{IsStrictlySortedBy}
use Rattle.std.specs.Cmp.{nat_cmp_is, nat_cmp_total}
use Rattle.std.proofs.lemmas.Bool.{cases_lt, cases_eq, true≢false}
use Rattle.std.proofs.lemmas.Cmp.{tied_itself}
use Rattle.std.proofs.lemmas.Map.Keys.{sorted_tail}
use Rattle.std.proofs.lemmas.List.{get_or_past}
use Rattle.std.proofs.lemmas.List.Elements.{Contains-push, Contains-push_cases, Contains-append_left}
use Rattle.orca_names.specs.Names.{thing_cmp}
use Rattle.orca_names.specs.declared.names.Thing.{Thing}
use Rattle.orca_names.proofs.ThingOrder.{thing_exact}
use Rattle.ready_set.specs.Next.{AreOff, IsNext}
use Rattle.reach_walk.specs.Walk.{IsOn}
use Rattle.reach_walk.proofs.Elements.{Contains-head, Contains-later, none_in_nil}
use Rattle.reach_walk.proofs.InOrder.{first_less, sorted_nil, sorted_cons}

-- the things of the places below one that are on, in order
pub record ListsBelow (place : Thing → Option ℕ) (bits : List Bool) (end : ℕ) (things : List Thing) : Type 0 where
  pub rising : IsStrictlySortedBy thing_cmp things
  pub on : (x : Thing) → Contains things x → (p : ℕ) × (place x ≡ Some p) × (p < end) × (get_or bits p false ≡ true)
  pub all : (x : Thing) (p : ℕ) → place x ≡ Some p → p < end → get_or bits p false ≡ true → Contains things x

-- a thing behind all others
pub sorted-push : (xs : List Thing) (x : Thing) → IsStrictlySortedBy thing_cmp xs → ((y : Thing) → Contains xs y → thing_cmp y x ≡ Less) → IsStrictlySortedBy thing_cmp (xs ++ x ∷ [])
sorted-push [] x sorted less = sorted_cons x [] (λ z c. none_in_nil z _ c) sorted_nil
sorted-push (y ∷ ys) x sorted less =
    sorted_cons y (ys ++ x ∷ []) (λ z c. elim (Contains-push_cases ys x z c) as (λ _. thing_cmp y z ≡ Less) [
      | inl d ↦ first_less y ys sorted z d
      | inr e ↦ subst (λ w. thing_cmp y w ≡ Less) e (less y (Contains-head y ys))
    ]) (sorted-push ys x (sorted_tail thing_cmp y ys sorted) (λ z c. less z (Contains-later y ys z c)))

-- past the last place none is on
pub off_beyond : (bits : List Bool) (from end : ℕ) → AreOff bits from (length bits) → AreOff bits from end
off_beyond bits from end off k after before = elim (cases_lt k (length bits)) as (λ _. get_or bits k false ≡ false) [
  | inl h ↦ off k after h
  | inr h ↦ get_or_past bits k false h
]

module _ (place : Thing → Option ℕ) (bits : List Bool) where
  pub lists-none : (things : List Thing) → things ≡ [] → ListsBelow place bits 0 things
  lists-none things none = subst (ListsBelow place bits 0) (sym none) (record {
    rising = sorted_nil;
    on = λ x c. none_in_nil x _ c;
    all = λ x p e l on. absurd (omega arith);
  })

  -- no place up to another one is on
  pub lists-past : (things : List Thing) (from end : ℕ) → ListsBelow place bits from things → AreOff bits from end → from ≤ end → ListsBelow place bits end things
  lists-past things from end lists off after = record {
    rising = lists.rising;
    on = λ x c. let at = lists.on x c in (at.0, at.1, omega (arith, at.2), at.3);
    all = λ x p e l on. elim (cases_lt p from) as (λ _. Contains things x) [
      | inl below ↦ lists.all x p e below on
      | inr above ↦ absurd (true≢false (sym on ∙ off p above l))
    ];
  }

  module _ (in_order : (x y : Thing) (p q : ℕ) → place x ≡ Some p → place y ≡ Some q → thing_cmp x y ≡ nat_cmp p q) where
    -- the thing at the next place that is on
    pub lists-next : (things : List Thing) (from at : ℕ) (t : Thing) → ListsBelow place bits from things → IsNext bits from (Some at) → place t ≡ Some at → ListsBelow place bits (at + 1) (things ++ t ∷ [])
    lists-next things from at t lists next here =
        let past = lists-past things from at lists next.2 next.0 in
        record {
          rising = sorted-push things t lists.rising (λ y c. let was = past.on y c in in_order y t was.0 at was.1 here ∙ sym (nat_cmp_is was.0 at Less was.2));
          on = λ x c. elim (Contains-push_cases things t x c) as (λ _. (p : ℕ) × (place x ≡ Some p) × (p < at + 1) × (get_or bits p false ≡ true)) [
            | inl d ↦ let was = past.on x d in (was.0, was.1, omega (arith, was.2), was.3)
            | inr e ↦ (at, subst (λ y. place y ≡ Some at) e here, omega arith, next.1)
          ];
          all = λ x p e l on. elim (cases_eq p at) as (λ _. Contains (things ++ t ∷ []) x) [
            | inl same ↦ subst (Contains (things ++ t ∷ [])) (thing_exact t x (in_order t x at at here (e ∙ ap Some same) ∙ tied_itself nat_cmp_total at)) (Contains-push things t)
            | inr other ↦ Contains-append_left things (t ∷ []) x (past.all x p e (omega arith) on)
          ];
        }

  -- all of them
  pub lists-all : (things : List Thing) (end : ℕ) → ((p : ℕ) → get_or bits p false ≡ true → p < end) → ListsBelow place bits end things → (x : Thing) → Contains things x ↔ IsOn (place x) bits
  lists-all things end within lists x = (
    λ c. let at = lists.on x c in subst (λ o. IsOn o bits) (sym at.1) at.3,
    λ on. elim (place x) as (λ o. place x ≡ o → IsOn o bits → Contains things x) [
      | None ↦ λ e h. absurd h
      | Some p ↦ λ e h. lists.all x p e (within p h) h
    ] refl on,
  )
