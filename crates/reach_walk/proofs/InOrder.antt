-- Things in order: putting them there keeps the same things, and two lists in order that have the same things are one.
use Rattle.std.proofs.Common.{◌≡◌, inl, inr, List, [], ◌∷◌, Contains, refl, sym, subst, ◌∙◌}
use Rattle.std.specs.List.Sorted.{IsStrictlySortedBy}
use Rattle.std.proofs.lemmas.Map.Keys.{sorted_tail}
use Rattle.orca_names.specs.Names.{thing_cmp}
use Rattle.orca_names.specs.declared.names.Thing.{Thing}
use Rattle.orca_names.proofs.ThingOrder.{thing_total}
use Rattle.reach_walk.specs.Marks.{in_order, put_in_order}
use Rattle.thing_list.proofs.InOrder.{not_less_itself, put-keeps, put-only, put-sorted, put-there}
use Rattle.reach_walk.proofs.Elements.{Contains-head, Contains-later, Contains-cons_cases, none_in_nil}
pub use Rattle.thing_list.proofs.InOrder.{first_less, first_absent, sorted_cons, sorted_nil}

-- ---- all of them

pub in_order-has : (xs : List Thing) (x : Thing) → Contains xs x → Contains (in_order xs) x
in_order-has [] x c = c
in_order-has (y ∷ ys) x c = elim (Contains-cons_cases y ys x c) as (λ _. Contains (put_in_order y (in_order ys)) x) [
  | inl e ↦ subst (Contains (put_in_order y (in_order ys))) e (put-there y (in_order ys))
  | inr d ↦ put-keeps y (in_order ys) x (in_order-has ys x d)
]

pub in_order-only : (xs : List Thing) (x : Thing) → Contains (in_order xs) x → Contains xs x
in_order-only [] x c = c
in_order-only (y ∷ ys) x c = elim (put-only y (in_order ys) x c) as (λ _. Contains (y ∷ ys) x) [
  | inl e ↦ subst (Contains (y ∷ ys)) e (Contains-head y ys)
  | inr d ↦ Contains-later y ys x (in_order-only ys x d)
]

pub in_order-sorted : (xs : List Thing) → IsStrictlySortedBy thing_cmp (in_order xs)
in_order-sorted [] = sorted_nil
in_order-sorted (x ∷ xs) = put-sorted x (in_order xs) (in_order-sorted xs)

-- ---- one list

-- the first thing is the same, where each is in the other list
same_first : (x y : Thing) (xs ys : List Thing) → IsStrictlySortedBy thing_cmp (x ∷ xs) → IsStrictlySortedBy thing_cmp (y ∷ ys) → Contains (y ∷ ys) x → Contains (x ∷ xs) y → x ≡ y
same_first x y xs ys s t c d = elim (Contains-cons_cases x xs y d) as (λ _. x ≡ y) [
  | inl e ↦ e
  | inr later ↦ elim (Contains-cons_cases y ys x c) as (λ _. x ≡ y) [
    | inl e ↦ sym e
    | inr there ↦ absurd (not_less_itself x (thing_total.trans x y x (first_less x xs s y later) (first_less y ys t x there)))
  ]
]

-- what is behind the first of one list is behind the first of the other
behind : (x y : Thing) (xs ys : List Thing) → IsStrictlySortedBy thing_cmp (x ∷ xs) → x ≡ y → (z : Thing) → Contains xs z → Contains (y ∷ ys) z → Contains ys z
behind x y xs ys s same z c d = elim (Contains-cons_cases y ys z d) as (λ _. Contains ys z) [
  | inl e ↦ absurd (first_absent x xs s (subst (Contains xs) (sym (same ∙ e)) c))
  | inr there ↦ there
]

pub same_in_order : (xs ys : List Thing) → IsStrictlySortedBy thing_cmp xs → IsStrictlySortedBy thing_cmp ys → ((x : Thing) → Contains xs x → Contains ys x) → ((x : Thing) → Contains ys x → Contains xs x) → xs ≡ ys
same_in_order [] [] s t f g = refl
same_in_order [] (y ∷ ys) s t f g = none_in_nil y _ (g y (Contains-head y ys))
same_in_order (x ∷ xs) [] s t f g = none_in_nil x _ (f x (Contains-head x xs))
same_in_order (x ∷ xs) (y ∷ ys) s t f g =
    let same : x ≡ y = same_first x y xs ys s t (f x (Contains-head x xs)) (g y (Contains-head y ys)) in
    let rest : xs ≡ ys = same_in_order xs ys (sorted_tail thing_cmp x xs s) (sorted_tail thing_cmp y ys t)
    (λ z c. behind x y xs ys s same z c (f z (Contains-later x xs z c)))
    (λ z c. behind y x ys xs t (sym same) z c (g z (Contains-later y ys z c)))
    in
    λ i. same i ∷ rest i
