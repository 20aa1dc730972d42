-- A load has each thing that is reached once, no other, and each with its row.
use Rattle.std.proofs.Common.{◌≡◌, ◌≢◌, ◌+◌, inl, inr, List, [], ◌∷◌, Option, All, Contains, map, refl, sym, ap, subst, ◌∙◌, zero-add}
use Rattle.std.specs.Prelude.{if◌then◌else◌}
use Rattle.std.specs.List.Sorted.{IsStrictlySortedBy}
use Rattle.std.proofs.lemmas.List.Elements.{All-map, All-weaker, All-contains_itself}
use Rattle.std.proofs.lemmas.List.Sums.{sum_by-cons}
use Rattle.std.proofs.lemmas.Map.Keys.{sorted_tail}
use Rattle.orca_names.specs.Names.{thing_cmp, is_thing, times_among}
use Rattle.orca_names.specs.declared.names.ObjName.{ObjName}
use Rattle.orca_names.specs.declared.names.Thing.{Thing}
use Rattle.orca_names.specs.declared.names.Value.{Value}
use Rattle.orca_names.proofs.ThingOrder.{is_eq_true, is_ne_false}
use Rattle.reach_walk.specs.MarkLaws.{IsExactLoad}
use Rattle.reach_walk.specs.Reach.{thing_row}
use Rattle.reach_walk.specs.Marks.{Covers, marks_of, load_of}
use Rattle.reach_walk.proofs.Elements.{Contains-head, Contains-later, Contains-cons_cases, none_in_nil}
use Rattle.reach_walk.proofs.InOrder.{first_absent}
use Rattle.reach_walk.proofs.MarkLaws.{marks-sorted, marks-reached, reached-marks}

-- ---- one entry more

abbrev pub Entry : Type 0
Entry = Thing × Option (List Value)

pub times_among-same : (x : Thing) (e : Entry) (load : List Entry) → x ≡ e.0 → times_among x (e ∷ load) ≡ 1 + times_among x load
times_among-same x e load same = sum_by-cons (λ f. if is_thing x f.0 then 1 else 0) e load ∙ ap (λ b. (if b then 1 else 0) + times_among x load) (is_eq_true x e.0 same)

pub times_among-other : (x : Thing) (e : Entry) (load : List Entry) → x ≢ e.0 → times_among x (e ∷ load) ≡ times_among x load
times_among-other x e load other = sum_by-cons (λ f. if is_thing x f.0 then 1 else 0) e load ∙ ap (λ b. (if b then 1 else 0) + times_among x load) (is_ne_false x e.0 other) ∙ zero-add (times_among x load)

-- ---- things with their rows

module _ (rows : ObjName → Option (List Value)) where
  abbrev entries : List Thing → List Entry
  entries things = map (λ x. (x, thing_row rows x)) things

  absent-not_loaded : (x : Thing) (things : List Thing) → (Contains things x → ⊥) → times_among x (entries things) ≡ 0
  absent-not_loaded x [] absent = refl
  absent-not_loaded x (y ∷ ys) absent =
      times_among-other x (y, thing_row rows y) (entries ys) (λ same. absent (subst (Contains (y ∷ ys)) (sym same) (Contains-head y ys)))
      ∙ absent-not_loaded x ys (λ c. absent (Contains-later y ys x c))

  loaded_once : (x : Thing) (things : List Thing) → IsStrictlySortedBy thing_cmp things → Contains things x → times_among x (entries things) ≡ 1
  loaded_once x [] sorted c = none_in_nil x _ c
  loaded_once x (y ∷ ys) sorted c = elim (Contains-cons_cases y ys x c) as (λ _. times_among x (entries (y ∷ ys)) ≡ 1) [
    | inl e ↦ times_among-same x (y, thing_row rows y) (entries ys) (sym e)
        ∙ ap (λ n. 1 + n) (absent-not_loaded x ys (λ d. first_absent y ys sorted (subst (Contains ys) (sym e) d)))
    | inr d ↦ times_among-other x (y, thing_row rows y) (entries ys) (λ same. first_absent y ys sorted (subst (Contains ys) same d))
        ∙ loaded_once x ys (sorted_tail thing_cmp y ys sorted) d
  ]

  entries-with_rows : (things : List Thing) → All (λ e. e.1 ≡ thing_row rows e.0) (entries things)
  entries-with_rows things = All-map (λ e. e.1 ≡ thing_row rows e.0) (λ x. (x, thing_row rows x)) things
      (All-weaker (Contains things) (λ x. thing_row rows x ≡ thing_row rows x) (λ x c. refl) things (All-contains_itself things))

  pub loads-exact : (all : List ObjName) (args : List Value) → Covers all rows → IsExactLoad rows args (load_of rows all args)
  loads-exact all args covers = record {
    once = λ x r. loaded_once x (marks_of rows all args) (marks-sorted rows all args) (reached-marks rows all args covers x r);
    no_other = λ x apart. absent-not_loaded x (marks_of rows all args) (λ c. apart (marks-reached rows all args x c));
    with_rows = entries-with_rows (marks_of rows all args);
  }
