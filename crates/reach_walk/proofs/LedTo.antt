-- What things lead to through rows: all that they reach, but for owners.
use Rattle.std.proofs.Common.{◌≡◌, ℕ, zero, suc, ◌≤◌, ◌⊎◌, inl, inr, List, [], ◌∷◌, ◌++◌, length, map, Option, Contains, refl, sym, ap, subst, ◌∙◌, arith}
use Rattle.std.specs.List.{flat_map, list_any}
use Rattle.std.proofs.lemmas.Bool.{cases_Bool, true≢false}
use Rattle.std.proofs.lemmas.Cmp.{eq_by_cmp_equiv}
use Rattle.std.proofs.lemmas.List.{length-map}
use Rattle.std.proofs.lemmas.List.Elements.{Contains-append_left, Contains-append_right, Contains-append_cases}
use Rattle.std.proofs.lemmas.Map.Views.{Contains-from_any, list_any-from_Contains}
use Rattle.orca_names.specs.Names.{owner_of, is_thing}
use Rattle.orca_names.specs.declared.names.ObjName.{ObjName}
use Rattle.orca_names.specs.declared.names.Thing.{Thing}
use Rattle.orca_names.specs.declared.names.Thing.TheVariants.{Actor, Obj}
use Rattle.orca_names.specs.declared.names.Value.{Value}
use Rattle.orca_names.proofs.ThingOrder.{thing_total, is_same}
use Rattle.reach_walk.specs.Marks.{Covers, led_over, led_to, with_next, with_owners}
use Rattle.reach_walk.specs.Reach.{named_by, row_edges, Reaches, root, step, owned}
use Rattle.reach_walk.proofs.Elements.{Contains-cons_cases, Contains-flat_map, Contains-from_flat_map, Contains-from_map, Contains-head, Contains-later, none_in_nil}
use Rattle.reach_walk.proofs.InOrder.{in_order-has, in_order-only}
use Rattle.reach_walk.proofs.Owners.{owners, with_owners-keeps, with_owners-more, with_owners-owner}
use Rattle.reach_walk.specs.Rows.{row_edges-within}

-- what other roots reach that reach the roots
pub Reaches-from : (edges : Thing → List Value) (roots others : List Thing) → ((x : Thing) → Contains roots x → Reaches edges others x) → (x : Thing) → Reaches edges roots x → Reaches edges others x
Reaches-from edges roots others first x (root c) = first x c
Reaches-from edges roots others first x (step {t} r c) = step (Reaches-from edges roots others first t r) c
Reaches-from edges roots others first _ (owned {n} r) = owned (Reaches-from edges roots others first (Obj n) r)

-- one of the listed is among the things, and these are the others that are listed
record Met (listed things : List Thing) : Type 0 where
  one : Thing
  there : Contains things one
  rest : List Thing
  fewer : length listed ≡ suc (length rest)
  others : (t : Thing) → Contains listed t → (one ≡ t) ⊎ Contains rest t

-- that, or none of the listed is among them
met : (listed things : List Thing) → Met listed things ⊎ ((t : Thing) → Contains listed t → Contains things t → ⊥)
met [] things = inr (λ t c _. none_in_nil t ⊥ c)
met (y ∷ ys) things = elim (cases_Bool (list_any (is_thing y) things)) as (λ _. Met (y ∷ ys) things ⊎ ((t : Thing) → Contains (y ∷ ys) t → Contains things t → ⊥)) [
  | inl e ↦ inl (record { one = y; there = Contains-from_any is_same y things e; rest = ys; fewer = refl; others = Contains-cons_cases y ys })
  | inr e ↦ elim (met ys things) as (λ _. Met (y ∷ ys) things ⊎ ((t : Thing) → Contains (y ∷ ys) t → Contains things t → ⊥)) [
    | inl m ↦ inl (record {
      one = m.one;
      there = m.there;
      rest = y ∷ m.rest;
      fewer = ap suc m.fewer;
      others = λ t c. elim (Contains-cons_cases y ys t c) as (λ _. (m.one ≡ t) ⊎ Contains (y ∷ m.rest) t) [
        | inl same ↦ inr (subst (Contains (y ∷ m.rest)) same (Contains-head y m.rest))
        | inr later ↦ elim (m.others t later) as (λ _. (m.one ≡ t) ⊎ Contains (y ∷ m.rest) t) [ inl it ↦ inl it | inr d ↦ inr (Contains-later y m.rest t d) ]
      ];
    })
    | inr none ↦ inr (λ t c d. elim (Contains-cons_cases y ys t c) as (λ _. ⊥) [
      | inl same ↦ true≢false (sym (list_any-from_Contains (eq_by_cmp_equiv thing_total) y things (subst (Contains things) (sym same) d)) ∙ e)
      | inr later ↦ none t later d
    ])
  ]
]

module _ (rows : ObjName → Option (List Value)) where
  abbrev named : Thing → List Thing
  named t = named_by (row_edges rows t)

  -- ---- one row further

  next-keeps : (things : List Thing) (x : Thing) → Contains things x → Contains (with_next rows things) x
  next-keeps things x c = in_order-has (things ++ flat_map named things) x (Contains-append_left things (flat_map named things) x c)

  next-named : (things : List Thing) (t x : Thing) → Contains things t → Contains (named t) x → Contains (with_next rows things) x
  next-named things t x c leads = in_order-has (things ++ flat_map named things) x (Contains-append_right things (flat_map named things) x (Contains-flat_map named things t x c leads))

  next-reached : (things : List Thing) (x : Thing) → Contains (with_next rows things) x → Reaches (row_edges rows) things x
  next-reached things x c = elim (Contains-append_cases things (flat_map named things) x (in_order-only (things ++ flat_map named things) x c)) as (λ _. Reaches (row_edges rows) things x) [
    | inl d ↦ root d
    | inr d ↦ let from = Contains-from_flat_map named things x d in step (root from.1) from.2
  ]

  -- ---- over so many rows

  over-keeps : (n : ℕ) (things : List Thing) (x : Thing) → Contains things x → Contains (led_over rows n things) x
  over-keeps zero things x c = c
  over-keeps (suc n) things x c = over-keeps n (with_next rows things) x (next-keeps things x c)

  over-reached : (n : ℕ) (things : List Thing) (x : Thing) → Contains (led_over rows n things) x → Reaches (row_edges rows) things x
  over-reached zero things x c = root c
  over-reached (suc n) things x c = Reaches-from (row_edges rows) (with_next rows things) things (next-reached things) x (over-reached n (with_next rows things) x c)

  -- where the things have all that they name, they have all that they reach, but for owners
  closed : (things : List Thing) → ((t x : Thing) → Contains things t → Contains (named t) x → Contains things x) → (x : Thing) → Reaches (row_edges rows) things x → Contains (with_owners things) x
  closed things all x (root c) = with_owners-keeps things x c
  closed things all x (step {t} r leads) = elim (Contains-append_cases things (owners things) t (closed things all t r)) as (λ _. Contains (with_owners things) x) [
    | inl there ↦ with_owners-keeps things x (all t x there leads)
    | inr d ↦
        let from = Contains-from_map (λ y. Actor (owner_of y)) things t d in
        none_in_nil x _ (subst (λ u. Contains (named u) x) (sym from.2) leads)
  ]
  closed things all _ (owned {n} r) = with_owners-owner things (Obj n) (closed things all (Obj n) r)

  -- as many rows are enough as there are listed things whose rows may name more than the things
  enough : (n : ℕ) (listed things : List Thing) → length listed ≤ n → ((t x : Thing) → Contains (named t) x → Contains listed t ⊎ Contains things x)
      → (x : Thing) → Reaches (row_edges rows) things x → Contains (with_owners (led_over rows n things)) x
  enough zero [] things few left x r = closed things (λ t y there leads. elim (left t y leads) as (λ _. Contains things y) [ inl c ↦ none_in_nil t _ c | inr d ↦ d ]) x r
  enough zero (y ∷ ys) things few left x r = absurd (omega arith)
  enough (suc n) listed things few left x r = elim (met listed things) as (λ _. Contains (with_owners (led_over rows (suc n) things)) x) [
    | inl m ↦ enough n m.rest (with_next rows things) (omega (arith, m.fewer))
        (λ t y leads. elim (left t y leads) as (λ _. Contains m.rest t ⊎ Contains (with_next rows things) y) [
          | inl c ↦ elim (m.others t c) as (λ _. Contains m.rest t ⊎ Contains (with_next rows things) y) [
            | inl same ↦ inr (next-named things t y (subst (Contains things) same m.there) leads)
            | inr d ↦ inl d
          ]
          | inr d ↦ inr (next-keeps things y d)
        ])
        x (Reaches-from (row_edges rows) things (with_next rows things) (λ y c. root (next-keeps things y c)) x r)
    | inr none ↦
        with_owners-more things (led_over rows (suc n) things) (over-keeps (suc n) things) x
        (closed things (λ t y there leads. elim (left t y leads) as (λ _. Contains things y) [ inl c ↦ absurd (none t c there) | inr d ↦ d ]) x r)
  ]

  -- ---- over all rows

  -- all of it is reached
  pub led_to-reached : (all : List ObjName) (things : List Thing) (x : Thing) → Contains (led_to rows all things) x → Reaches (row_edges rows) things x
  unfolding led_to
  led_to-reached all things x c = over-reached (length all) things x c

  -- with owners it has all that is reached, where all that has a row is listed
  pub reached-led_to : (all : List ObjName) (things : List Thing) → Covers all rows → (x : Thing) → Reaches (row_edges rows) things x → Contains (with_owners (led_to rows all things)) x
  unfolding led_to
  reached-led_to all things covers x r =
      let few : length (map Obj all) ≤ length all = omega (arith, length-map all Obj) in
      enough (length all) (map Obj all) things few
      (λ t y leads. inl (row_edges-within rows all covers t (λ e. none_in_nil y ⊥ (subst (λ vs. Contains (named_by vs) y) e leads)))) x r
