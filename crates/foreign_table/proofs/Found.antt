-- What a search among entries says of their keys.
use Rattle.std.proofs.Common.{◌≡◌, ◌≢◌, ℕ, ◌-◌, ◌<◌, ◌≤◌, List, length, get_or, map, Ordering, ap, ◌∙◌, arith}
use Rattle.std.specs.Ordering.{ordering_reverse}
use Rattle.std.specs.declared.cmp.Ordering.TheVariants.{Less, Equal, Greater}
use Rattle.std.proofs.lemmas.List.{get_or-map, length-map}
use Rattle.plain_list.specs.Rising.{IsAt, IsGap}
use Rattle.plain_list.proofs.Rising.{at_place}
use Rattle.orca_names.specs.Names.{thing_cmp}
use Rattle.orca_names.specs.declared.names.Thing.{Thing}
use Rattle.orca_names.proofs.ThingOrder.{thing_exact, thing_total}
use Rattle.foreign_table.specs.declared.search.Entry.{Entry}
use Rattle.foreign_table.specs.declared.search.Place.TheVariants.{Here}
use Rattle.foreign_table.specs.Entry.{amount_of}
use Rattle.foreign_table.specs.Table.{DoRise}
use Rattle.foreign_table.proofs.Near.{gap_between}

module _ (es : List Entry) (sorted : DoRise es) (x : Thing) (i : ℕ) where
  thing_at : (k : ℕ) (d : Thing × ℕ) → k < length es → (get_or (map amount_of es) k d).0 ≡ (get_or es k (record { thing = d.0; count = d.1; first = 0; place = Here 0 })).thing
  thing_at k d l = ap (λ e. e.0) (get_or-map amount_of es k (record { thing = d.0; count = d.1; first = 0; place = Here 0 }) d l)

  -- the thing of an entry stands at its place
  pub entry_at : i < length es → ((d : Entry) → (get_or es i d).thing ≡ x) → IsAt thing_cmp (map amount_of es) x i
  entry_at l here = at_place thing_total (map amount_of es) sorted x i (omega (arith, length-map es amount_of)) (λ d. thing_at i d l ∙ here (record { thing = d.0; count = d.1; first = 0; place = Here 0 }))

  comes_before : (o : Ordering) (y : Thing) → thing_cmp y x ≡ o → o ≢ Less → y ≢ x → thing_cmp x y ≡ Less
  comes_before Less y e n m = absurd (n (λ j. Less))
  comes_before Equal y e n m = absurd (m (thing_exact y x e))
  comes_before Greater y e n m = thing_total.antisymm x y ∙ ap ordering_reverse e

  -- where it is not the first that is not below, it stands nowhere
  pub no_entry : i ≤ length es → (0 < i → (d : Entry) → thing_cmp (get_or es (i - 1) d).thing x ≡ Less) → (i < length es → (d : Entry) → thing_cmp (get_or es i d).thing x ≢ Less)
      → (i < length es → (d : Entry) → (get_or es i d).thing ≢ x) → IsGap thing_cmp (map amount_of es) x i
  no_entry within below not_below other = gap_between thing_total (map amount_of es) sorted x i (omega (arith, length-map es amount_of))
      (λ l d. ap (λ y. thing_cmp y x) (thing_at (i - 1) d (omega arith)) ∙ below l (record { thing = d.0; count = d.1; first = 0; place = Here 0 }))
      (λ l d.
      let inside : i < length es = omega (arith, length-map es amount_of) in
      let e : Entry = record { thing = d.0; count = d.1; first = 0; place = Here 0 } in
      ap (thing_cmp x) (thing_at i d inside) ∙ comes_before (thing_cmp (get_or es i e).thing x) (get_or es i e).thing (λ j. thing_cmp (get_or es i e).thing x) (not_below inside e) (other inside e))
