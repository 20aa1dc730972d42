-- Things in order: putting one there keeps the others.
use Rattle.std.proofs.Common.{◌≡◌, ◌≢◌, ◌⊎◌, inl, inr, false, List, [], ◌∷◌, Contains, refl, sym, ap, subst, ◌∙◌}
use Rattle.std.specs.FinMap.Entries.{by_order}
use Rattle.std.specs.List.Sorted.{IsStrictlySortedBy}
use Rattle.std.specs.Ordering.{is_lt, ordering_reverse}
use Rattle.std.specs.declared.cmp.Ordering.{Ordering}
use Rattle.std.specs.declared.cmp.Ordering.TheVariants.{Less, Equal, Greater}
use Rattle.std.proofs.lemmas.Cmp.{tied_itself}
use Rattle.std.proofs.lemmas.List.Elements.{All-from_recursion, recursion_from_All, All-weaker, All-contains, All-contains_itself}
use Rattle.std.proofs.lemmas.Map.Keys.{sorted_head, sorted_tail}
use Rattle.orca_names.specs.Names.{thing_cmp}
use Rattle.orca_names.specs.declared.names.Thing.{Thing}
use Rattle.orca_names.proofs.ThingOrder.{thing_total, thing_exact}
use Rattle.thing_list.specs.Putting.{put_in_order}
use Rattle.thing_list.proofs.Elements.{Contains-head, Contains-later, Contains-cons_cases, none_in_nil}

-- ---- the first thing, and the others

-- the first comes before each of the others
pub first_less : (x : Thing) (xs : List Thing) → IsStrictlySortedBy thing_cmp (x ∷ xs) → (y : Thing) → Contains xs y → thing_cmp x y ≡ Less
first_less x xs sorted y c = All-contains (λ z. thing_cmp x z ≡ Less) xs y (All-from_recursion (λ z. thing_cmp x z ≡ Less) xs (sorted_head thing_cmp x xs sorted)) c

pub sorted_nil : IsStrictlySortedBy thing_cmp []
unfolding IsStrictlySortedBy
sorted_nil = tt

pub sorted_cons : (x : Thing) (xs : List Thing) → ((y : Thing) → Contains xs y → thing_cmp x y ≡ Less) → IsStrictlySortedBy thing_cmp xs → IsStrictlySortedBy thing_cmp (x ∷ xs)
unfolding IsStrictlySortedBy
sorted_cons x xs less sorted = (recursion_from_All (λ y. thing_cmp x y ≡ Less) xs (All-weaker (Contains xs) (λ y. thing_cmp x y ≡ Less) less xs (All-contains_itself xs)), sorted)

-- nothing comes before itself
pub not_less_itself : (x : Thing) → thing_cmp x x ≡ Less → ⊥
not_less_itself x e = let tied = tied_itself thing_total x in cc

-- the first is not among the others
pub first_absent : (x : Thing) (xs : List Thing) → IsStrictlySortedBy thing_cmp (x ∷ xs) → Contains xs x → ⊥
first_absent x xs sorted c = not_less_itself x (first_less x xs sorted x c)

-- neither behind the other nor the other
pub less_of : (x y : Thing) → is_lt (thing_cmp y x) ≡ false → x ≢ y → thing_cmp x y ≡ Less
less_of x y behind other = cases (thing_cmp x y) refl
  where
    cases : (o : Ordering) → thing_cmp x y ≡ o → o ≡ Less
    cases Less e = refl
    cases Equal e = absurd (other (thing_exact x y e))
    cases Greater e = let flipped = thing_total.antisymm y x ∙ ap ordering_reverse e in let not_less = sym (ap is_lt flipped) ∙ behind in cc

-- ---- one thing put in order

pub put-there : (x : Thing) (ys : List Thing) → Contains (put_in_order x ys) x
put-there x [] = Contains-head x []
put-there x (y ∷ ys) = elim (thing_cmp x y) as (λ o. thing_cmp x y ≡ o → Contains (by_order o (x ∷ y ∷ ys) (y ∷ ys) (y ∷ put_in_order x ys)) x) [
  | Less ↦ λ e. Contains-head x (y ∷ ys)
  | Equal ↦ λ e. subst (Contains (y ∷ ys)) (sym (thing_exact x y e)) (Contains-head y ys)
  | Greater ↦ λ e. Contains-later y (put_in_order x ys) x (put-there x ys)
] refl

pub put-keeps : (x : Thing) (ys : List Thing) (z : Thing) → Contains ys z → Contains (put_in_order x ys) z
put-keeps x [] z c = none_in_nil z _ c
put-keeps x (y ∷ ys) z c = elim (thing_cmp x y) as (λ o. Contains (by_order o (x ∷ y ∷ ys) (y ∷ ys) (y ∷ put_in_order x ys)) z) [
  | Less ↦ Contains-later x (y ∷ ys) z c
  | Equal ↦ c
  | Greater ↦ elim (Contains-cons_cases y ys z c) as (λ _. Contains (y ∷ put_in_order x ys) z) [
    | inl e ↦ subst (Contains (y ∷ put_in_order x ys)) e (Contains-head y (put_in_order x ys))
    | inr d ↦ Contains-later y (put_in_order x ys) z (put-keeps x ys z d)
  ]
]

pub put-only : (x : Thing) (ys : List Thing) (z : Thing) → Contains (put_in_order x ys) z → (x ≡ z) ⊎ Contains ys z
put-only x [] z c = Contains-cons_cases x [] z c
put-only x (y ∷ ys) z c = elim (thing_cmp x y) as (λ o. Contains (by_order o (x ∷ y ∷ ys) (y ∷ ys) (y ∷ put_in_order x ys)) z → (x ≡ z) ⊎ Contains (y ∷ ys) z) [
  | Less ↦ λ d. Contains-cons_cases x (y ∷ ys) z d
  | Equal ↦ λ d. inr d
  | Greater ↦ λ d. elim (Contains-cons_cases y (put_in_order x ys) z d) as (λ _. (x ≡ z) ⊎ Contains (y ∷ ys) z) [
    | inl e ↦ inr (subst (Contains (y ∷ ys)) e (Contains-head y ys))
    | inr later ↦ elim (put-only x ys z later) as (λ _. (x ≡ z) ⊎ Contains (y ∷ ys) z) [ inl e ↦ inl e | inr there ↦ inr (Contains-later y ys z there) ]
  ]
] c

pub put-sorted : (x : Thing) (ys : List Thing) → IsStrictlySortedBy thing_cmp ys → IsStrictlySortedBy thing_cmp (put_in_order x ys)
put-sorted x [] sorted = sorted_cons x [] (λ z c. none_in_nil z _ c) sorted
put-sorted x (y ∷ ys) sorted = elim (thing_cmp x y) as (λ o. thing_cmp x y ≡ o → IsStrictlySortedBy thing_cmp (by_order o (x ∷ y ∷ ys) (y ∷ ys) (y ∷ put_in_order x ys))) [
  | Less ↦ λ e. sorted_cons x (y ∷ ys) (λ z c. elim (Contains-cons_cases y ys z c) as (λ _. thing_cmp x z ≡ Less) [
    | inl same ↦ subst (λ w. thing_cmp x w ≡ Less) same e
    | inr d ↦ thing_total.trans x y z e (first_less y ys sorted z d)
  ]) sorted
  | Equal ↦ λ e. sorted
  | Greater ↦ λ e.
      let less : thing_cmp y x ≡ Less = thing_total.antisymm y x ∙ ap ordering_reverse e in
      sorted_cons y (put_in_order x ys) (λ z c. elim (put-only x ys z c) as (λ _. thing_cmp y z ≡ Less) [
        | inl same ↦ subst (λ w. thing_cmp y w ≡ Less) same less
        | inr d ↦ first_less y ys sorted z d
      ]) (put-sorted x ys (sorted_tail thing_cmp y ys sorted))
] refl
