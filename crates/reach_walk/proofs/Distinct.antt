-- Things that stand in a list once.
use Rattle.std.proofs.Common.{◌≡◌, ◌≢◌, ◌≤◌, List, [], ◌∷◌, ◌++◌, length, false, Contains, subst, arith}
use Rattle.std.specs.List.{IsDistinct}
use Rattle.std.specs.Cmp.{eq_by_cmp_equiv}
use Rattle.std.specs.List.Sorted.{IsStrictlySortedBy}
use Rattle.std.proofs.lemmas.List.Elements.{All-from_recursion, recursion_from_All, All-nil, All-push}
use Rattle.std.proofs.lemmas.Map.Keys.{IsDistinct-cons, IsDistinct-head, IsDistinct-tail, IsDistinct-from_sorted}
use Rattle.std.proofs.lemmas.Map.Made.{length-le_from_is_member}
use Rattle.std.proofs.lemmas.Map.Views.{Contains-from_any, list_any-from_Contains}
use Rattle.orca_names.specs.Names.{is_thing, thing_cmp}
use Rattle.orca_names.specs.declared.names.Thing.{Thing}
use Rattle.orca_names.proofs.ThingOrder.{thing_total, is_same, is_ne_false}
use Rattle.reach_walk.proofs.Elements.{Contains-head, Contains-later}

pub IsDistinct-nil : IsDistinct is_thing []
unfolding IsDistinct
IsDistinct-nil = tt

-- a thing that was not there comes last
pub IsDistinct-push : (xs : List Thing) (x : Thing) → IsDistinct is_thing xs → (Contains xs x → ⊥) → IsDistinct is_thing (xs ++ x ∷ [])
IsDistinct-push [] x once fresh = IsDistinct-cons is_thing x [] (recursion_from_All _ [] (All-nil (λ y. is_thing x y ≡ false))) IsDistinct-nil
IsDistinct-push (y ∷ ys) x once fresh =
    let other : y ≢ x = λ e. fresh (subst (Contains (y ∷ ys)) e (Contains-head y ys)) in
    let apart = All-push (λ z. is_thing y z ≡ false) ys x (All-from_recursion _ ys (IsDistinct-head is_thing y ys once)) (is_ne_false y x other) in
    IsDistinct-cons is_thing y (ys ++ x ∷ []) (recursion_from_All _ (ys ++ x ∷ []) apart)
    (IsDistinct-push ys x (IsDistinct-tail is_thing y ys once) (λ c. fresh (Contains-later y ys x c)))

-- no list that has all of them is shorter
pub length-le_cover : (things cover : List Thing) → IsDistinct is_thing things → ((x : Thing) → Contains things x → Contains cover x) → length things ≤ length cover
length-le_cover things cover once covers =
    let equiv = eq_by_cmp_equiv thing_total in
    length-le_from_is_member equiv things cover once (λ x m. list_any-from_Contains equiv x cover (covers x (Contains-from_any is_same x things m)))

-- in order they are as many
pub length-in_order : (things sorted : List Thing) → IsDistinct is_thing things → IsStrictlySortedBy thing_cmp sorted → ((x : Thing) → Contains things x → Contains sorted x) → ((x : Thing) → Contains sorted x → Contains things x) → length sorted ≡ length things
length-in_order things sorted once rising has only =
    let most = length-le_cover sorted things (IsDistinct-from_sorted thing_cmp sorted rising) only in
    let least = length-le_cover things sorted once has in
    omega (arith, most, least)
