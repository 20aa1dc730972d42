-- What seeing one thing more does.
use Rattle.std.proofs.Common.{◌≡◌, ◌⊎◌, inl, inr, Bool, true, false, not, Some, List, [], ◌∷◌, ◌++◌, Contains, sym, ap, subst, ◌∙◌}
use Rattle.std.specs.BTreeSet.{BTreeSet, contains, Updates}
use Rattle.std.specs.List.{IsDistinct}
use Rattle.std.proofs.lemmas.Bool.{true≢false}
use Rattle.std.proofs.lemmas.List.Elements.{Contains-append_left, Contains-push, Contains-push_cases}
use Rattle.std.proofs.lemmas.Map.Views.{btree_set_contains_iff}
use Rattle.orca_names.specs.Names.{is_thing, thing_cmp}
use Rattle.orca_names.specs.declared.names.Thing.{Thing}
use Rattle.orca_names.specs.declared.names.Thing.TheVariants.{Actor}
use Rattle.orca_names.proofs.ThingOrder.{thing_total, thing_exact}
use Rattle.reach_walk.specs.declared.seen.Seen.{Seen}
use Rattle.reach_walk.specs.Walk.{AreNoted, IsSeen}
use Rattle.reach_walk.proofs.Distinct.{IsDistinct-push}
use Rattle.reach_walk.proofs.Sets.{inserted, flipped}

pub sees_new : (old new : Seen) (x : Thing) → IsSeen old → (Contains old.things x → ⊥) → new.things ≡ old.things ++ x ∷ [] → new.owner ≡ old.owner → AreNoted new.noted new.things → IsSeen new
sees_new old new x seen fresh last owner noted = record {
  once = subst (IsDistinct is_thing) (sym last) (IsDistinct-push old.things x seen.once fresh);
  noted = noted;
  owner = λ a e. subst (λ ts. Contains ts (Actor a)) (sym last) (Contains-append_left old.things (x ∷ []) (Actor a) (seen.owner a (sym owner ∙ e)));
}

-- ---- a thing that is put into the set

module _ (set more : BTreeSet Thing) (things : List Thing) (x : Thing) (noted : AreNoted (Some set) things) where
  -- it is new there just if it was not seen
  pub was_seen : (is_new : Bool) → is_new ≡ not (contains thing_cmp set x) → is_new ≡ false → Contains things x
  was_seen is_new added now = (noted x).0 ((btree_set_contains_iff thing_total thing_exact set x).0 (flipped _ _ added ∙ ap not now))

  pub was_unseen : (is_new : Bool) → is_new ≡ not (contains thing_cmp set x) → is_new ≡ true → Contains things x → ⊥
  was_unseen is_new added now there =
      let was = (btree_set_contains_iff thing_total thing_exact set x).1 ((noted x).1 there) in
      true≢false (sym was ∙ flipped _ _ added ∙ ap not now)

  module _ (updates : Updates thing_cmp set more x true) where
    pub notes_new : AreNoted (Some more) (things ++ x ∷ [])
    notes_new y =
        let now = inserted set more x updates y in (
          λ c. elim (now.0 c) as (λ _. Contains (things ++ x ∷ []) y) [
            | inl d ↦ Contains-append_left things (x ∷ []) y ((noted y).0 d)
            | inr same ↦ subst (Contains (things ++ x ∷ [])) same (Contains-push things x)
          ],
          λ c. now.1 (elim (Contains-push_cases things x y c) as (λ _. Contains set.keys y ⊎ (x ≡ y)) [ inl d ↦ inl ((noted y).1 d) | inr same ↦ inr same ]),
        )

    pub notes_known : Contains things x → AreNoted (Some more) things
    notes_known there y =
        let now = inserted set more x updates y in (
          λ c. elim (now.0 c) as (λ _. Contains things y) [ inl d ↦ (noted y).0 d | inr same ↦ subst (Contains things) same there ],
          λ c. now.1 (inl ((noted y).1 c)),
        )
