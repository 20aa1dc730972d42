-- Things in a set in order.
use Rattle.std.proofs.Common.{◌≡◌, ◌⊎◌, ◌↔◌, inl, inr, cond, Bool, true, false, not, Contains, refl, sym, ap, subst, ◌∙◌}
use Rattle.std.specs.Ordering.{eq_by_cmp}
use Rattle.std.specs.Cmp.{eq_by_cmp_equiv}
use Rattle.std.specs.BTreeSet.{BTreeSet, contains, Updates}
use Rattle.std.proofs.lemmas.Map.Views.{btree_set_contains_iff}
use Rattle.orca_names.specs.Names.{thing_cmp}
use Rattle.orca_names.specs.declared.names.Thing.{Thing}
use Rattle.orca_names.proofs.ThingOrder.{thing_total, thing_exact, is_same}

-- what a set has after a thing was put into it
pub inserted : (set more : BTreeSet Thing) (t : Thing) → Updates thing_cmp set more t true → (x : Thing) → Contains more.keys x ↔ (Contains set.keys x ⊎ (t ≡ x))
inserted set more t updates x =
    let in_more = btree_set_contains_iff thing_total thing_exact more x in
    let in_set = btree_set_contains_iff thing_total thing_exact set x in
    let same = updates.0 x in (
      λ c. elim (either (eq_by_cmp thing_cmp t x) (contains thing_cmp set x) (sym same ∙ in_more.1 c)) as (λ _. Contains set.keys x ⊎ (t ≡ x)) [
        | inl e ↦ inr (is_same t x e)
        | inr e ↦ inl (in_set.0 e)
      ],
      λ h. in_more.0 (same ∙ elim h as (λ _. cond (eq_by_cmp thing_cmp t x) true (contains thing_cmp set x) ≡ true) [
        | inl c ↦ or_last (eq_by_cmp thing_cmp t x) _ (in_set.1 c)
        | inr e ↦ subst (λ y. cond (eq_by_cmp thing_cmp t y) true (contains thing_cmp set y) ≡ true) e (or_first _ _ ((eq_by_cmp_equiv thing_total).refl t))
      ]),
    )
  where
    or_last : (a b : Bool) → b ≡ true → cond a true b ≡ true
    or_last true b e = refl
    or_last false b e = e

    or_first : (a b : Bool) → a ≡ true → cond a true b ≡ true
    or_first true b e = refl
    or_first false b e = cc

    either : (a b : Bool) → cond a true b ≡ true → (a ≡ true) ⊎ (b ≡ true)
    either true b e = inl refl
    either false b e = inr e

pub flipped : (a b : Bool) → b ≡ not a → a ≡ not b
flipped true b e = ap not (sym e)
flipped false b e = ap not (sym e)
