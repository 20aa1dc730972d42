-- Things in order of which none stands twice.
use Rattle.std.proofs.Common.{◌≡◌, ◌↔◌, suc, ◌+◌, inl, inr, Bool, false, List, [], ◌∷◌, get_or, Contains, OnOk, subst, arith}
use Rattle.std.specs.List.{IsDistinct}
use Rattle.std.specs.Cmp.{eq_by_cmp_equiv}
use Rattle.std.specs.List.Sorted.{IsPermutation, IsSorted, IsSortedBy, IsStrictlySortedBy}
use Rattle.std.specs.Ordering.{is_lt}
use Rattle.std.specs.declared.cmp.Ordering.TheVariants.{Less}
use Rattle.std.proofs.lemmas.List.Elements.{All-from_recursion, All-contains}
use Rattle.std.proofs.lemmas.List.Sorted.{Contains-permutation, IsPermutation-sym}
use Rattle.std.proofs.lemmas.Map.Keys.{IsDistinct-head, IsDistinct-tail, IsDistinct-IsPermutation}
use Rattle.std.proofs.lemmas.Result.{on_ok_weaker}
use Rattle.std.specs.declared.result.Result.{Result}
use Rattle.std.specs.declared.result.Result.TheVariants.{Ok, Err}
use Rattle.orca_names.specs.Names.{is_thing, thing_cmp}
use Rattle.orca_names.specs.declared.names.Thing.{Thing}
use Rattle.orca_names.proofs.ThingOrder.{thing_total, is_eq_true}
use Rattle.reach_walk.proofs.Elements.{Contains-head, Contains-cons_cases, none_in_nil}
use Rattle.reach_walk.proofs.InOrder.{first_less, sorted_nil, sorted_cons}
use Rattle.thing_list.proofs.InOrder.{less_of}

sorted_later : (lt : Thing → Thing → Bool) (x : Thing) (xs : List Thing) → IsSortedBy lt (x ∷ xs) → IsSortedBy lt xs
sorted_later lt x xs sorted = λ k d low high.
    let next : suc k + 1 ≡ suc (k + 1) = omega arith in
    subst (λ n. lt (get_or (x ∷ xs) n d) (get_or xs k d) ≡ false) next (sorted (suc k) d (omega arith) (omega (arith, high)))

pub strictly : (xs : List Thing) → IsSorted thing_cmp xs → IsDistinct is_thing xs → IsStrictlySortedBy thing_cmp xs
strictly [] sorted once = sorted_nil
strictly (x ∷ []) sorted once = sorted_cons x [] (λ z c. none_in_nil z _ c) sorted_nil
strictly (x ∷ y ∷ ys) sorted once =
    let rest : IsStrictlySortedBy thing_cmp (y ∷ ys) = strictly (y ∷ ys) (sorted_later (λ a b. is_lt (thing_cmp a b)) x (y ∷ ys) sorted) (IsDistinct-tail is_thing x (y ∷ ys) once) in
    let apart = All-contains (λ z. is_thing x z ≡ false) (y ∷ ys) y (All-from_recursion _ (y ∷ ys) (IsDistinct-head is_thing x (y ∷ ys) once)) (Contains-head y ys) in
    let less : thing_cmp x y ≡ Less = less_of x y (sorted 0 x (omega arith) (omega arith)) (λ same. let it = is_eq_true x y same in cc) in
    sorted_cons x (y ∷ ys) (λ z c. elim (Contains-cons_cases y ys z c) as (λ _. thing_cmp x z ≡ Less) [
      | inl e ↦ subst (λ w. thing_cmp x w ≡ Less) e less
      | inr d ↦ thing_total.trans x y z less (first_less y ys rest z d)
    ]) rest

-- ---- what a sort does that may fail

module _ {T E : Type 0} (result : Result T E) (old new : List Thing) where
  pub sorts_same : OnOk result (IsPermutation old new) → OnOk result ((x : Thing) → Contains new x ↔ Contains old x)
  sorts_same = on_ok_weaker result (λ same x. (Contains-permutation new old x (IsPermutation-sym old new same), Contains-permutation old new x same))

  pub sorts_strictly : IsDistinct is_thing old → OnOk result (IsPermutation old new) → OnOk result (IsSorted thing_cmp new) → OnOk result (IsStrictlySortedBy thing_cmp new)
  sorts_strictly once same sorted = elim result as (λ r. OnOk r (IsPermutation old new) → OnOk r (IsSorted thing_cmp new) → OnOk r (IsStrictlySortedBy thing_cmp new)) [
    | Ok t ↦ λ same sorted. strictly new sorted (IsDistinct-IsPermutation is_thing (eq_by_cmp_equiv thing_total).symm old new same once)
    | Err e ↦ λ same sorted. tt
  ] same sorted
