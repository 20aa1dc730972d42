-- Marks are exactly what is reached, in order, and no other list is.
use Rattle.std.proofs.Common.{◌≡◌, ◌⊎◌, inl, inr, List, Option, Contains, sym, ◌∙◌}
use Rattle.std.specs.List.{list_any}
use Rattle.std.specs.List.Sorted.{IsStrictlySortedBy}
use Rattle.std.proofs.lemmas.Bool.{cases_Bool, true≢false}
use Rattle.std.proofs.lemmas.Cmp.{eq_by_cmp_equiv}
use Rattle.std.proofs.lemmas.Map.Views.{Contains-from_any, list_any-from_Contains}
use Rattle.orca_names.specs.Names.{thing_cmp, is_thing}
use Rattle.orca_names.specs.declared.names.ObjName.{ObjName}
use Rattle.orca_names.specs.declared.names.Thing.{Thing}
use Rattle.orca_names.specs.declared.names.Value.{Value}
use Rattle.orca_names.proofs.ThingOrder.{thing_total, is_same}
use Rattle.reach_walk.specs.MarkLaws.{AreMarks}
use Rattle.reach_walk.specs.Marks.{Covers, led_to, with_owners, marks_of}
use Rattle.reach_walk.specs.Reach.{named_by, row_edges, Reaches}
use Rattle.reach_walk.proofs.InOrder.{in_order-has, in_order-only, in_order-sorted, same_in_order}
use Rattle.reach_walk.proofs.LedTo.{led_to-reached, reached-led_to}
use Rattle.reach_walk.proofs.Owners.{with_owners-reached}

-- two lists that are marks of the same values are one
pub same_marks : (rows : ObjName → Option (List Value)) (roots : List Value) (xs ys : List Thing) → AreMarks rows roots xs → AreMarks rows roots ys → xs ≡ ys
same_marks rows roots xs ys f g = same_in_order xs ys f.rising g.rising (λ x c. (g.exact x).1 ((f.exact x).0 c)) (λ x c. (f.exact x).1 ((g.exact x).0 c))

module _ (rows : ObjName → Option (List Value)) (all : List ObjName) (roots : List Value) where
  pub marks-sorted : IsStrictlySortedBy thing_cmp (marks_of rows all roots)
  unfolding marks_of
  marks-sorted = in_order-sorted (with_owners (led_to rows all (named_by roots)))

  pub marks-reached : (x : Thing) → Contains (marks_of rows all roots) x → Reaches (row_edges rows) (named_by roots) x
  unfolding marks_of
  marks-reached x c =
      let things = led_to rows all (named_by roots) in
      with_owners-reached (row_edges rows) (named_by roots) things (led_to-reached rows all (named_by roots)) x (in_order-only (with_owners things) x c)

  pub reached-marks : Covers all rows → (x : Thing) → Reaches (row_edges rows) (named_by roots) x → Contains (marks_of rows all roots) x
  unfolding marks_of
  reached-marks covers x r = in_order-has (with_owners (led_to rows all (named_by roots))) x (reached-led_to rows all (named_by roots) covers x r)

  pub marks-exact : Covers all rows → AreMarks rows roots (marks_of rows all roots)
  marks-exact covers = record { exact = λ x. (marks-reached x, reached-marks covers x); rising = marks-sorted }

  pub marks-unique : (things : List Thing) → Covers all rows → AreMarks rows roots things → things ≡ marks_of rows all roots
  marks-unique things covers marks = same_marks rows roots things (marks_of rows all roots) marks (marks-exact covers)

  -- a thing is reached or not
  pub cases_reached : Covers all rows → (x : Thing) → Reaches (row_edges rows) (named_by roots) x ⊎ (Reaches (row_edges rows) (named_by roots) x → ⊥)
  cases_reached covers x =
      let marks = marks_of rows all roots in
      elim (cases_Bool (list_any (is_thing x) marks)) as (λ _. Reaches (row_edges rows) (named_by roots) x ⊎ (Reaches (row_edges rows) (named_by roots) x → ⊥)) [
        | inl e ↦ inl (marks-reached x (Contains-from_any is_same x marks e))
        | inr e ↦ inr (λ r. true≢false (sym (list_any-from_Contains (eq_by_cmp_equiv thing_total) x marks (reached-marks covers x r)) ∙ e))
      ]
