-- The counts that a sweep gives back.
use Rattle.std.proofs.Common.{◌≡◌, ℕ, Bool, true, false, cond, not, List, [], ◌∷◌, map, Option, Some, None, refl, sym, ap, ◌∙◌}
use Rattle.std.specs.Prelude.{T, is_some}
use Rattle.std.specs.List.{filter, list_any}
use Rattle.std.specs.Ordering.{eq_by_cmp}
use Rattle.std.specs.declared.cmp.Ordering.TheVariants.{Equal}
use Rattle.std.specs.FinMap as m
use Rattle.std.specs.FinMap.Entries.{is_sorted, is_sorted-where_key, is_some-find, find-where_key}
use Rattle.plain_list.proofs.Rising.{same_rise}
use Rattle.orca_names.specs.Names.{thing_cmp}
use Rattle.orca_names.specs.declared.names.Thing.{Thing}
use Rattle.orca_names.proofs.ThingOrder.{thing_exact, thing_total}
use Rattle.letter_kinds.specs.Counting.{Amount, by_owner, given_back}
use Rattle.letter_kinds.specs.Holdings.{Holdings, Row}
use Rattle.foreign_table.specs.Back.{BackRises, goes_back}
use Rattle.local_sweep.proofs.Groups.{goes-by_owner, groups_rise}

abbrev Entry : Type 0
Entry = Thing × (ℕ × Option Row)

abbrev amount_of : Entry → Amount
amount_of e = (e.0, e.1.0)

same_keys : (es : List Entry) → map (λ (e : Entry). e.0) es ≡ map (λ (e : Amount). e.0) (map amount_of es)
same_keys [] = refl
same_keys (e ∷ es) = ap (λ ks. e.0 ∷ ks) (same_keys es)

module _ (marked : Thing → Bool) (h : Holdings) where
  abbrev left_out : List Entry
  left_out = filter (λ e. not (marked e.0)) (m.entries h.foreign)

  given_rise : T (is_sorted thing_cmp (map amount_of left_out))
  given_rise = same_rise thing_cmp left_out (map amount_of left_out) (same_keys left_out) (is_sorted-where_key thing_cmp (λ x. not (marked x)) (m.entries h.foreign) (m.entries_sorted h.foreign))

  pub back_rises : BackRises (by_owner (given_back marked h))
  unfolding given_back
  back_rises = groups_rise (map amount_of left_out) given_rise

  alike : (p : Thing → Bool) (q x : Thing) → thing_cmp q x ≡ Equal → p x ≡ p q
  alike p q x e = ap p (sym (thing_exact q x e))

  -- an entry goes back where it is not marked
  goes : (x : Thing) (v : ℕ × Option Row) → m.get h.foreign x ≡ Some v → goes_back (by_owner (given_back marked h)) x ≡ not (marked x)
  unfolding given_back
  goes x v g =
      goes-by_owner (map amount_of left_out) x given_rise
      ∙ is_some-find thing_cmp x (map amount_of left_out) ∙ ap (list_any (eq_by_cmp thing_cmp x)) (sym (same_keys left_out)) ∙ sym (is_some-find thing_cmp x left_out)
      ∙ ap is_some (find-where_key thing_cmp (λ y. not (marked y)) x (alike (λ y. not (marked y)) x) (m.entries h.foreign))
      ∙ ap (λ o. is_some (cond (not (marked x)) o None)) (sym (m.get-entries h.foreign x) ∙ g) ∙ passed (not (marked x))
    where
      passed : (b : Bool) → is_some (cond b (Some v) None) ≡ b
      passed true = refl
      passed false = refl

  kept_at : (x : Thing) (o : Option (ℕ × Option Row)) → m.get h.foreign x ≡ o → cond (not (goes_back (by_owner (given_back marked h)) x)) o None ≡ cond (marked x) o None
  kept_at x None g = none (not (goes_back (by_owner (given_back marked h)) x)) ∙ sym (none (marked x))
    where
      none : (b : Bool) → cond {A = Option (ℕ × Option Row)} b None None ≡ None
      none true = refl
      none false = refl
  kept_at x (Some v) g = ap (λ b. cond (not b) (Some v) None) (goes x v g) ∙ ap (λ b. cond b (Some v) None) (twice (marked x))
    where
      twice : (b : Bool) → not (not b) ≡ b
      twice true = refl
      twice false = refl

  -- the entries that stay are the marked ones
  pub kept_entries : m.retain_keys h.foreign (λ x. not (goes_back (by_owner (given_back marked h)) x)) ≡ m.retain_keys h.foreign marked
  kept_entries = m.same_map thing_total thing_exact _ _ (λ q.
      m.get-retain_keys h.foreign (λ x. not (goes_back (by_owner (given_back marked h)) x)) q (alike (λ x. not (goes_back (by_owner (given_back marked h)) x)) q)
      ∙ kept_at q (m.get h.foreign q) refl ∙ sym (m.get-retain_keys h.foreign marked q (alike marked q)))
