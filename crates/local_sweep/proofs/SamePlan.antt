-- A plan goes by what is marked of the actor's own objects and of what it holds.
use Rattle.std.proofs.Common.{◌≡◌, ◌≢◌, inl, inr, ℕ, suc, Bool, true, false, cond, not, ◌||◌, ◌==◌, List, [], ◌∷◌, map, slice_get, ◌+◌, ◌-◌, Option, Some, None, refl, sym, ap, ◌∙◌}
use Rattle.std.specs.Prelude.{is_some, option_map, slice_index_or}
use Rattle.std.specs.List.{filter, list_any}
use Rattle.std.specs.Option.{option_map_or}
use Rattle.std.specs.FinMap as m
use Rattle.std.proofs.lemmas.Bool.{cases_lt}
use Rattle.std.proofs.lemmas.Option.{slice_get-map}
use Rattle.plain_list.proofs.Rising.{value_at_place}
use Rattle.orca_names.specs.Names.{is_thing, owner_of}
use Rattle.orca_names.specs.declared.names.Thing.{Thing}
use Rattle.orca_names.specs.declared.names.Thing.TheVariants.{Obj}
use Rattle.orca_names.proofs.ThingOrder.{thing_total}
use Rattle.reach_walk.specs.Marks.{TellMarks}
use Rattle.letter_kinds.specs.Counting.{by_owner, given_back}
use Rattle.letter_kinds.specs.Holdings.{Row}
use Rattle.object_heap.specs.Heap.{Heap}
use Rattle.foreign_table.specs.Span.{IsSpan}
use Rattle.foreign_table.specs.Table.{Table}
use Rattle.known_rows.specs.Places.{HoldsOthersOnly, place_in}
use Rattle.known_rows.proofs.Placed.{place_above, place_below, place_own, stands_behind}
use Rattle.local_sweep.specs.Marked.{is_marked}
use Rattle.local_sweep.specs.Plan.{is_freed, object_named, plan_of}

same_filter : {A : Type 0} (p q : A → Bool) (xs : List A) → ((i : ℕ) (x : A) → slice_get xs i ≡ Some x → p x ≡ q x) → filter p xs ≡ filter q xs
same_filter p q [] h = refl
same_filter p q (x ∷ xs) h =
    ap (λ b. cond b (x ∷ filter p xs) (filter p xs)) (h 0 x refl)
    ∙ ap (λ ys. cond (q x) (x ∷ ys) ys) (same_filter p q xs (λ i y e. h (suc i) y e))

key_at : {K X : Type 0} (es : List (K × X)) (i : ℕ) (e : K × X) → slice_get es i ≡ Some e → slice_get (map (λ x. x.0) es) i ≡ Some e.0
key_at es i e is = slice_get-map (λ x. x.0) es i ∙ ap (option_map (λ x. x.0)) is

module _ (p q : Thing → Bool) (heap : Heap) (foreign : Table) where
  pub same_plan : ((i serial : ℕ) → slice_get (m.keys heap.rows) i ≡ Some serial → p (Obj (object_named heap.owner serial)) ≡ q (Obj (object_named heap.owner serial)))
      → ((j : ℕ) (x : Thing) → slice_get (m.keys foreign.entries) j ≡ Some x → p x ≡ q x) → plan_of p heap foreign ≡ plan_of q heap foreign
  unfolding given_back
  same_plan own held =
      let free = same_filter (is_freed p heap.owner) (is_freed q heap.owner) (m.entries heap.rows) (λ i e is. ap (λ b. not (b || not (e.1.1 == 0))) (own i e.0 (key_at (m.entries heap.rows) i e is))) in
      let back = same_filter (λ e. not (p e.0)) (λ e. not (q e.0)) (m.entries foreign.entries) (λ j e is. ap not (held j e.0 (key_at (m.entries foreign.entries) j e is))) in
      λ t. record { free = map (λ e. object_named heap.owner e.0) (free t); back = by_owner (map (λ e. (e.0, e.1.0)) (back t)) }

module _ (bits : List Bool) (marks : List Thing) (heap : Heap) (foreign : Table) (first end : ℕ) (span : IsSpan heap.owner (m.keys foreign.entries) first end) (others : HoldsOthersOnly heap foreign) (tells : TellMarks (place_in heap foreign) bits marks) where
  told : (x : Thing) (p : ℕ) → place_in heap foreign x ≡ Some p → is_marked bits heap foreign x ≡ list_any (is_thing x) marks
  told x p e = ap (λ o. option_map_or (λ n. slice_index_or bits n false) o false) e ∙ tells x p e

  anothers : (j : ℕ) (x : Thing) → slice_get (m.keys foreign.entries) j ≡ Some x → owner_of x ≢ heap.owner
  anothers j x e = others x (there (slice_get (m.entries foreign.entries) j) refl (sym (slice_get-map (λ y. y.0) (m.entries foreign.entries) j) ∙ e))
    where
      there : (o : Option (Thing × (ℕ × Option Row))) → slice_get (m.entries foreign.entries) j ≡ o → option_map (λ y. y.0) o ≡ Some x → m.contains_key foreign.entries x ≡ true
      there None f g = cc
      there (Some y) f g = let key : y.0 ≡ x = cc in ap is_some (ap (m.get foreign.entries) (sym key) ∙ value_at_place thing_total foreign.entries j y f)

  -- the plan by the bits is the plan by the marks
  pub plan_by_bits : plan_of (is_marked bits heap foreign) heap foreign ≡ plan_of (λ x. list_any (is_thing x) marks) heap foreign
  plan_by_bits = same_plan (is_marked bits heap foreign) (λ x. list_any (is_thing x) marks) heap foreign
      (λ i serial e. told (Obj (object_named heap.owner serial)) (first + 1 + i) (place_own heap foreign first end span i serial e))
      (λ j x e. elim (cases_lt j first) as (λ _. is_marked bits heap foreign x ≡ list_any (is_thing x) marks) [
        | inl l ↦ told x j (place_below heap foreign first end span j x e l)
        | inr l ↦ told x (first + 1 + m.len heap.rows + (j - end)) (place_above heap foreign first end span j x e (stands_behind heap foreign first end span j x e (anothers j x e) l))
      ])
