-- What noting one thing more does.
use Rattle.std.proofs.Common.{◌≡◌, ℕ, ◌<◌, ◌⊎◌, ◌↔◌, inl, inr, Bool, true, false, not, Option, None, Some, List, [], ◌∷◌, ◌++◌, length, get_or, set, Contains, refl, sym, ap, subst, ◌∙◌, arith}
use Rattle.std.specs.Ordering.{nat_cmp}
use Rattle.std.specs.Cmp.{nat_cmp_total}
use Rattle.std.specs.BTreeSet.{BTreeSet, contains}
use Rattle.std.proofs.lemmas.Bool.{cases_eq, true≢false}
use Rattle.std.proofs.lemmas.Cmp.{tied_itself}
use Rattle.std.proofs.lemmas.List.{get_or-set_same, get_or-set_other, length-set}
use Rattle.std.proofs.lemmas.List.Elements.{Contains-push, Contains-push_cases, Contains-append_left}
use Rattle.std.proofs.lemmas.Map.Views.{btree_set_contains_iff}
use Rattle.orca_names.specs.Names.{thing_cmp}
use Rattle.orca_names.specs.declared.names.Thing.{Thing}
use Rattle.orca_names.proofs.ThingOrder.{thing_total, thing_exact}
use Rattle.reach_walk.specs.declared.noted.Noted.{Noted}
use Rattle.reach_walk.specs.Walk.{AreTold, IsOn, Notes}

-- beside a thing that is there already it says nothing
known_more : (things : List Thing) (x : Thing) → Contains things x → (y : Thing) → Contains things y ↔ Contains (things ++ x ∷ []) y
known_more things x there y = (
  λ c. Contains-append_left things (x ∷ []) y c,
  λ c. elim (Contains-push_cases things x y c) as (λ _. Contains things y) [ inl d ↦ d | inr same ↦ subst (Contains things) same there ],
)

module _ (place : Thing → Option ℕ) (count : ℕ) where
  -- bits and set tell what was met
  pub told_apart : (noted : Noted) (things : List Thing) → AreTold place count noted things → (x : Thing) → Contains things x ↔ (Contains noted.others.keys x ⊎ IsOn (place x) noted.bits)
  told_apart noted things told x = at (place x) refl
    where
      at : (o : Option ℕ) → place x ≡ o → Contains things x ↔ (Contains noted.others.keys x ⊎ IsOn o noted.bits)
      at None e = (λ c. inl ((told.others x).1 (c, e)), λ h. elim h as (λ _. Contains things x) [ inl d ↦ ((told.others x).0 d).0 | inr on ↦ absurd on ])
      at (Some p) e = (λ c. inr ((told.placed x p e).0 c), λ h. elim h as (λ _. Contains things x) [ inl d ↦ ((told.others x).0 d).0 | inr on ↦ (told.placed x p e).1 on ])

  -- the same things in another list
  pub tells_same : (noted : Noted) (xs ys : List Thing) → ((x : Thing) → Contains xs x ↔ Contains ys x) → AreTold place count noted xs → AreTold place count noted ys
  tells_same noted xs ys same told = record {
    placed = λ x p e. (λ c. (told.placed x p e).0 ((same x).1 c), λ on. (same x).0 ((told.placed x p e).1 on));
    others = λ x. (λ c. let was = (told.others x).0 c in ((same x).0 was.0, was.1), λ h. (told.others x).1 ((same x).1 h.0, h.1));
    room = told.room;
    within = told.within;
  }

  -- a thing that is noted is told
  pub tells_more : (noted : Noted) (things : List Thing) (x : Thing) (is_new : Bool) → Notes place count noted things x is_new → AreTold place count noted (things ++ x ∷ [])
  tells_more noted things x true notes = notes.0
  tells_more noted things x false notes = tells_same noted things (things ++ x ∷ []) (known_more things x notes.1) notes.0

  -- where it was told before just if it was met, it is noted
  notes_told : (noted : Noted) (things : List Thing) (x : Thing) (was is_new : Bool) → AreTold place count noted (things ++ x ∷ []) → (Contains things x ↔ (was ≡ true)) → was ≡ not is_new → Notes place count noted things x is_new
  notes_told noted things x was true told met now = (told, λ c. true≢false (sym (met.0 c) ∙ now))
  notes_told noted things x was false told met now =
      let there = met.1 now in
      (tells_same noted (things ++ x ∷ []) things (λ y. let same = known_more things x there y in (same.1, same.0)) told, there)

  -- beside a thing without a place, what has one was there before
  placed_before : (things : List Thing) (x y : Thing) (p : ℕ) → place x ≡ None → place y ≡ Some p → Contains (things ++ x ∷ []) y → Contains things y
  placed_before things x y p at e c = elim (Contains-push_cases things x y c) as (λ _. Contains things y) [
    | inl d ↦ d
    | inr same ↦ let some : None ≡ Some p = sym at ∙ ap place same ∙ e in cc
  ]

  -- beside a thing with a place, what has none was there before
  other_before : (things : List Thing) (x y : Thing) (p : ℕ) → place x ≡ Some p → place y ≡ None → Contains (things ++ x ∷ []) y → Contains things y
  other_before things x y p at e c = elim (Contains-push_cases things x y c) as (λ _. Contains things y) [
    | inl d ↦ d
    | inr same ↦ let some : Some p ≡ None = sym at ∙ ap place same ∙ e in cc
  ]

  module _ (old : Noted) (things : List Thing) (told : AreTold place count old things) (x : Thing) where
    -- a thing without a place, in the set
    pub notes_other : place x ≡ None → (more : BTreeSet Thing) → ((y : Thing) → Contains more.keys y ↔ (Contains old.others.keys y ⊎ (x ≡ y))) → (is_new : Bool) → contains thing_cmp old.others x ≡ not is_new → Notes place count (record { bits = old.bits; others = more }) things x is_new
    notes_other at more in_more is_new now =
        let in_set = btree_set_contains_iff thing_total thing_exact old.others x in
        notes_told (record { bits = old.bits; others = more }) things x (contains thing_cmp old.others x) is_new (record {
          placed = λ y p e. (λ c. (told.placed y p e).0 (placed_before things x y p at e c), λ on. Contains-append_left things (x ∷ []) y ((told.placed y p e).1 on));
          others = λ y. (
            λ c. elim ((in_more y).0 c) as (λ _. Contains (things ++ x ∷ []) y × (place y ≡ None)) [
              | inl d ↦ let was = (told.others y).0 d in (Contains-append_left things (x ∷ []) y was.0, was.1)
              | inr e ↦ (subst (Contains (things ++ x ∷ [])) e (Contains-push things x), ap place (sym e) ∙ at)
            ],
            λ h. (in_more y).1 (elim (Contains-push_cases things x y h.0) as (λ _. Contains old.others.keys y ⊎ (x ≡ y)) [ inl d ↦ inl ((told.others y).1 (d, h.1)) | inr same ↦ inr same ]),
          );
          room = told.room;
          within = told.within;
        }) (λ c. in_set.1 ((told.others x).1 (c, at)), λ there. ((told.others x).0 (in_set.0 there)).0) now

    module _ (below : (x : Thing) (p : ℕ) → place x ≡ Some p → p < count) (in_order : (x y : Thing) (p q : ℕ) → place x ≡ Some p → place y ≡ Some q → thing_cmp x y ≡ nat_cmp p q) where
      -- a place has one thing
      one_thing : (y : Thing) (p : ℕ) → place x ≡ Some p → place y ≡ Some p → x ≡ y
      one_thing y p e f = thing_exact x y (in_order x y p p e f ∙ tied_itself nat_cmp_total p)

      -- a thing with a place, by its bit
      pub notes_placed : (p : ℕ) (bits : List Bool) → place x ≡ Some p → bits ≡ set old.bits p true → (is_new : Bool) → get_or old.bits p false ≡ not is_new → Notes place count (record { bits = bits; others = old.others }) things x is_new
      notes_placed p bits at now is_new off = notes_told (record { bits = bits; others = old.others }) things x (get_or old.bits p false) is_new (record {
        placed = λ y q e. elim (cases_eq q p) as (λ _. Contains (things ++ x ∷ []) y ↔ (get_or bits q false ≡ true)) [
          | inl same ↦ (
            λ c. ap (λ ons. get_or ons q false) now ∙ ap (λ k. get_or (set old.bits p true) k false) same ∙ get_or-set_same old.bits p true false within,
            λ on. subst (Contains (things ++ x ∷ [])) (one_thing y p at (e ∙ ap Some same)) (Contains-push things x),
          )
          | inr other ↦
              let before : get_or bits q false ≡ get_or old.bits q false = ap (λ ons. get_or ons q false) now ∙ get_or-set_other old.bits p q true false other in (
                λ c. elim (Contains-push_cases things x y c) as (λ _. get_or bits q false ≡ true) [
                  | inl d ↦ before ∙ (told.placed y q e).0 d
                  | inr same ↦ let places : Some p ≡ Some q = sym at ∙ ap place same ∙ e in absurd (other (cc))
                ],
                λ on. Contains-append_left things (x ∷ []) y ((told.placed y q e).1 (sym before ∙ on)),
              )
        ];
        others = λ y. (
          λ c. let was = (told.others y).0 c in (Contains-append_left things (x ∷ []) y was.0, was.1),
          λ h. (told.others y).1 (other_before things x y p at h.1 h.0, h.1),
        );
        room = omega (arith, told.room, ap length now, length-set old.bits p true);
        within = λ q on. elim (cases_eq q p) as (λ _. q < count) [
          | inl same ↦ subst (λ k. k < count) (sym same) (below x p at)
          | inr other ↦ told.within q (sym (get_or-set_other old.bits p q true false other) ∙ ap (λ ons. get_or ons q false) (sym now) ∙ on)
        ];
      }) (told.placed x p at) off
        where
          within : p < length old.bits
          within = omega (arith, below x p at, told.room)
