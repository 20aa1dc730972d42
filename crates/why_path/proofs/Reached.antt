-- What one edge does to lines and to what comes next.
use Rattle.std.proofs.Common.{◌≡◌, ◌≢◌, inl, inr, ℕ, ◌<◌, true, false, cond, List, [], ◌∷◌, ◌++◌, length, map, get_or, set, Option, Some, None, Contains, refl, sym, ap, subst, ◌∙◌, arith}
use Rattle.std.specs.Prelude.{option_map, IsSomeAnd}
use Rattle.std.proofs.lemmas.List.{length-map}
use Rattle.std.proofs.lemmas.List.Elements.{Contains-append_left, Contains-push, Contains-push_cases}
use Rattle.orca_names.specs.Names.{thing_cmp}
use Rattle.orca_names.specs.declared.names.Thing.{Thing}
use Rattle.orca_names.specs.declared.reason.Edge.{Edge}
use Rattle.orca_names.specs.declared.reason.Reason.{Reason}
use Rattle.orca_names.specs.declared.reason.Why.TheVariants.{By}
use Rattle.orca_names.proofs.ThingOrder.{cases_thing, is_eq_true, is_ne_false}
use Rattle.plain_list.specs.Rising.{IsAt}
use Rattle.why_path.specs.Checks.{is_loose, line_of}
use Rattle.why_path.specs.Edges.{Lead, first_to}
use Rattle.why_path.specs.Lines.{Rise, key_of}
use Rattle.why_path.specs.Walk.{AreAt, StandsAt, reached}
use Rattle.why_path.proofs.Finding.{at_others, found_line, line_found, line_map}
use Rattle.why_path.proofs.Walking.{map_kept, map_one, reached_kept, reached_loose, reached_none, reached_thing}

-- ---- what stands at a level

module _ (rs : List Reason) (level : ℕ) (y : Thing) where
  pub stands_with : (r : Reason) → line_of rs y ≡ Some r → is_loose r.why ≡ false → r.level ≡ level
      → StandsAt rs level y
  stands_with r e kept at =
      subst (λ o. IsSomeAnd o (λ (q : Reason). (is_loose q.why ≡ false) × (q.level ≡ level))) (sym e) (kept, at)

  pub stands_line : StandsAt rs level y
      → (r : Reason) × (line_of rs y ≡ Some r) × (is_loose r.why ≡ false) × (r.level ≡ level)
  stands_line h = by (line_of rs y) refl h
    where
      by : (o : Option Reason) → line_of rs y ≡ o
          → IsSomeAnd o (λ (q : Reason). (is_loose q.why ≡ false) × (q.level ≡ level))
          → (r : Reason) × (line_of rs y ≡ Some r) × (is_loose r.why ≡ false) × (r.level ≡ level)
      by None e h = absurd h
      by (Some r) e h = (r, e, h.0, h.1)

-- ---- one edge

module _ (parent : Thing) (level : ℕ) (e : Edge) (x : Thing) where
  -- along this edge
  abbrev along : Reason → Reason
  along = reached parent level ((e, x) ∷ [])

  keeps_thing : (r : Reason) → (along r).thing ≡ r.thing
  keeps_thing = reached_thing parent level ((e, x) ∷ [])

  -- another thing's line stays
  other_stays : (r : Reason) → r.thing ≢ x → along r ≡ r
  other_stays r other = reached_none parent level ((e, x) ∷ []) r none
    where
      none : first_to r.thing ((e, x) ∷ []) ≡ None
      none = ap (λ b. option_map (λ (k : Lead). k.0) (cond b (Some (e, x)) None)) (is_ne_false x r.thing (λ same. other (sym same)))

  -- a loose line of the thing is reached
  own_reached : (r : Reason) → r.thing ≡ x → is_loose r.why ≡ true
      → along r ≡ record r { level = level; why = By parent e }
  own_reached r same loose = reached_loose parent level ((e, x) ∷ []) r e loose first
    where
      first : first_to r.thing ((e, x) ∷ []) ≡ Some e
      first = ap (λ b. option_map (λ (k : Lead). k.0) (cond b (Some (e, x)) None)) (is_eq_true x r.thing (sym same))

  -- where the thing has no line, all stay
  pub none_reached : (rs : List Reason) → Rise rs → line_of rs x ≡ None → map along rs ≡ rs
  none_reached rs rise none = map_kept along rs (λ r c. elim (cases_thing r.thing x) as (λ _. along r ≡ r) [
    | inl same ↦
        let found = sym none ∙ ap (line_of rs) (sym same) ∙ line_found rs rise r c in cc
    | inr other ↦ other_stays r other
  ])

  -- where its line is not loose, too
  pub kept_stay : (rs : List Reason) → Rise rs → (r : Reason) → line_of rs x ≡ Some r → is_loose r.why ≡ false
      → map along rs ≡ rs
  kept_stay rs rise r is kept = map_kept along rs (λ s c. elim (cases_thing s.thing x) as (λ _. along s ≡ s) [
    | inl same ↦
        let found = sym (line_found rs rise s c) ∙ ap (line_of rs) same ∙ is in
        let one : s ≡ r = cc in
        reached_kept parent level ((e, x) ∷ []) s (ap (λ (q : Reason). is_loose q.why) one ∙ kept)
    | inr other ↦ other_stays s other
  ])

  -- a loose line is written at its place
  pub loose_reached : (rs : List Reason) (i : ℕ) (d : Reason) → IsAt thing_cmp (map key_of rs) x i
      → (get_or rs i d).thing ≡ x → is_loose (get_or rs i d).why ≡ true
      → set rs i (record { thing = x; level = level; why = By parent e }) ≡ map along rs
  loose_reached rs i d at same loose =
      let l : i < length rs = omega (arith, at.in_range, length-map rs key_of) in
      ap (λ y. set rs i (record { thing = y; level = level; why = By parent e })) (sym same)
      ∙ ap (set rs i) (sym (own_reached (get_or rs i d) same loose))
      ∙ sym (map_one along rs i d l (λ j s other m. other_stays (get_or rs j s) (at_others x rs i at j s other m)))

  -- then it comes next
  pub at_more : (rs : List Reason) (next : List Thing) (r : Reason) → line_of rs x ≡ Some r
      → is_loose r.why ≡ true → AreAt rs level next → AreAt (map along rs) level (next ++ x ∷ [])
  at_more rs next r is loose at y = (to, from)
    where
      moved : line_of (map along rs) y ≡ option_map along (line_of rs y)
      moved = line_map y along keeps_thing rs

      own : x ≡ y → StandsAt (map along rs) level y
      own same =
          let found = found_line x rs r is in
          let mine : line_of rs y ≡ Some r = ap (line_of rs) (sym same) ∙ is in
          let now = moved ∙ ap (option_map along) mine ∙ ap Some (own_reached r found.1 loose) in
          stands_with (map along rs) level y (record r { level = level; why = By parent e }) now refl refl

      to : Contains (next ++ x ∷ []) y → StandsAt (map along rs) level y
      to c = elim (Contains-push_cases next x y c) as (λ _. StandsAt (map along rs) level y) [
        | inl before ↦
            let s = stands_line rs level y ((at y).0 before) in
            let now = moved ∙ ap (option_map along) s.1
            ∙ ap Some (reached_kept parent level ((e, x) ∷ []) s.0 s.2) in
            stands_with (map along rs) level y s.0 now s.2 s.3
        | inr same ↦ own same
      ]

      from : StandsAt (map along rs) level y → Contains (next ++ x ∷ []) y
      from h = elim (cases_thing x y) as (λ _. Contains (next ++ x ∷ []) y) [
        | inl same ↦ subst (Contains (next ++ x ∷ [])) same (Contains-push next x)
        | inr other ↦
            let s = stands_line (map along rs) level y h in
            Contains-append_left next (x ∷ []) y
            ((at y).1 (before s.0 other (line_of rs y) refl (sym moved ∙ s.1) s.2 s.3))
      ]
        where
          before : (s : Reason) → x ≢ y → (o : Option Reason) → line_of rs y ≡ o
              → option_map along (line_of rs y) ≡ Some s → is_loose s.why ≡ false → s.level ≡ level
              → StandsAt rs level y
          before s other None e m kept here = let none = sym (ap (option_map along) e) ∙ m in cc
          before s other (Some q) e m kept here =
              let found = found_line y rs q e in
              let stays = other_stays q (λ same. other (sym same ∙ found.1)) in
              let pair : Some q ≡ Some s = ap Some (sym stays) ∙ sym (ap (option_map along) e) ∙ m in
              let one : q ≡ s = cc in
              stands_with rs level y q e (ap (λ (r : Reason). is_loose r.why) one ∙ kept)
              (ap (λ (r : Reason). r.level) one ∙ here)
