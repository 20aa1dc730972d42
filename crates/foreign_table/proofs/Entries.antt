-- The entries of a table, read and written.
use Rattle.std.proofs.Common.{◌≡◌, ℕ, ◌+◌, ◌<◌, ◌≤◌, Bool, true, List, [], ◌∷◌, length, get_or, map, set, take, drop, slice_get, Some, None, refl, sym, ap, subst, ◌∙◌, arith}
use Rattle.std.specs.Prelude.{T, filter, is_some, option_map}
use Rattle.std.specs.List.{insert, remove}
use Rattle.std.specs.FinMap as m
use Rattle.std.specs.FinMap.Entries.{is_sorted}
use Rattle.std.specs.declared.cmp.Ordering.TheVariants.{Less, Greater}
use Rattle.std.proofs.lemmas.List.{length-map, length-drop, length-take-le, map-id, get_or_default}
use Rattle.std.proofs.lemmas.Option.{slice_get-map}
use Rattle.row_store.specs.Told.{Lying}
use Rattle.orca_names.specs.Names.{thing_cmp}
use Rattle.orca_names.specs.declared.names.Thing.{Thing}
use Rattle.orca_names.specs.declared.names.Value.{Value}
use Rattle.plain_list.specs.Rising.{IsAt, IsGap}
use Rattle.plain_list.proofs.Rising.{at_place, item_at, item_entry, item_filter, item_get, item_key, item_len, item_set, get_gap, key_at_place, map_at, map_gap, map_remove, mapped_at, same_rise, sorted_at, sorted_gap, sorted_remove}
use Rattle.orca_names.proofs.ThingOrder.{thing_total, thing_exact}
use Rattle.foreign_table.specs.declared.search.Entry.{Entry}
use Rattle.foreign_table.specs.declared.search.Place.TheVariants.{Here}
use Rattle.foreign_table.specs.Entry.{amount_of, as_row, len_of, lies_in, pair_of}
use Rattle.foreign_table.specs.Table.{DoRise, kept_in, on_actor, on_actors, row_length}

things_of : (vs : List Value) (es : List Entry) → map (λ (e : Thing × (ℕ × Lying)). e.0) (map (pair_of vs) es) ≡ map (λ (e : Entry). e.thing) es
things_of vs [] = refl
things_of vs (e ∷ es) = ap (λ xs. e.thing ∷ xs) (things_of vs es)

amount_things : (es : List Entry) → map (λ (e : Thing × ℕ). e.0) (map amount_of es) ≡ map (λ (e : Entry). e.thing) es
amount_things [] = refl
amount_things (e ∷ es) = ap (λ xs. e.thing ∷ xs) (amount_things es)

pub place_within : (es : List Entry) (x : Thing) (i : ℕ) → IsAt thing_cmp (map amount_of es) x i → i < length es
place_within es x i p = omega (arith, p.in_range, length-map es amount_of)

-- rows do not matter to where a thing stands
pub pairs_rise : (vs : List Value) (es : List Entry) → DoRise es → T (is_sorted thing_cmp (map (pair_of vs) es))
pairs_rise vs es h = same_rise thing_cmp (map amount_of es) (map (pair_of vs) es) (amount_things es ∙ sym (things_of vs es)) h

pub amounts_rise : (vs : List Value) (es : List Entry) → T (is_sorted thing_cmp (map (pair_of vs) es)) → DoRise es
amounts_rise vs es h = same_rise thing_cmp (map (pair_of vs) es) (map amount_of es) (things_of vs es ∙ sym (amount_things es)) h

module _ (vs : List Value) (es : List Entry) (h : DoRise es) (x : Thing) (i : ℕ) where
  pub at_pairs : IsAt thing_cmp (map amount_of es) x i → IsAt thing_cmp (map (pair_of vs) es) x i
  at_pairs p =
      let l = place_within es x i p in
      at_place thing_total (map (pair_of vs) es) (pairs_rise vs es h) x i (omega (arith, l, length-map es (pair_of vs)))
      (λ d. mapped_at thing_total thing_exact (pair_of vs) (λ y. y.0 ≡ x) es i d l (λ e. item_at thing_total thing_exact amount_of (λ y. y.0 ≡ x) es i e l p.has_key))

  pub gap_pairs : IsGap thing_cmp (map amount_of es) x i → IsGap thing_cmp (map (pair_of vs) es) x i
  gap_pairs p =
      let amounts = length-map es amount_of in
      let pairs = length-map es (pair_of vs) in
      record {
        in_range = omega (arith, p.in_range, amounts, pairs);
        before = λ j d l.
            let n : j < length es = omega (arith, l, p.in_range, amounts) in
            mapped_at thing_total thing_exact (pair_of vs) (λ y. thing_cmp x y.0 ≡ Greater) es j d n (λ e. item_at thing_total thing_exact amount_of (λ y. thing_cmp x y.0 ≡ Greater) es j e n (λ b. p.before j b l));
        after = λ j d l k.
            let n : j < length es = omega (arith, k, pairs) in
            mapped_at thing_total thing_exact (pair_of vs) (λ y. thing_cmp x y.0 ≡ Less) es j d n
            (λ e. item_at thing_total thing_exact amount_of (λ y. thing_cmp x y.0 ≡ Less) es j e n (λ b. p.after j b l (omega (arith, n, amounts))));
      }

module _ (vs : List Value) (es : List Entry) (h : DoRise es) where
  pub value_at : (x : Thing) (i : ℕ) (e : Entry) → IsAt thing_cmp (map amount_of es) x i → e ≡ get_or es i e → m.get (kept_in vs es) x ≡ Some (e.count, lies_in vs e)
  value_at x i e p is = item_get thing_total thing_exact (pair_of vs) es (pairs_rise vs es h) x i e (at_pairs vs es h x i p) is

  pub key_of : (x : Thing) (i : ℕ) (e : Entry) → IsAt thing_cmp (map amount_of es) x i → e ≡ get_or es i e → e.thing ≡ x
  key_of x i e p is = item_key thing_total thing_exact (pair_of vs) es x i e (at_pairs vs es h x i p) is

  pub is_there : (x : Thing) (i : ℕ) → IsAt thing_cmp (map amount_of es) x i → is_some (m.get (kept_in vs es) x) ≡ true
  is_there x i p =
      let e : Entry = record { thing = x; count = 0; first = 0; place = Here 0 } in
      ap is_some (value_at x i (get_or es i e) p (get_or_default es i e (get_or es i e) (place_within es x i p)))

  pub none_at : (x : Thing) (i : ℕ) → IsGap thing_cmp (map amount_of es) x i → m.get (kept_in vs es) x ≡ None
  none_at x i p = get_gap thing_total thing_exact (map (pair_of vs) es) (pairs_rise vs es h) x i (gap_pairs vs es h x i p)

  pub key_here : (x : Thing) (i : ℕ) → IsAt thing_cmp (map amount_of es) x i → slice_get (m.keys (kept_in vs es)) i ≡ Some x
  key_here x i p = key_at_place (map (pair_of vs) es) (pairs_rise vs es h) x i (at_pairs vs es h x i p)

  pub len_here : m.len (kept_in vs es) ≡ length es
  len_here = item_len thing_total thing_exact (pair_of vs) es (pairs_rise vs es h)

  pub entry_here : (i : ℕ) (e : Entry) → i < length es → e ≡ get_or es i e → slice_get (m.entries (kept_in vs es)) i ≡ Some (pair_of vs e)
  entry_here i e l is = item_entry thing_total thing_exact (pair_of vs) es (pairs_rise vs es h) i e l is

  pub key_there : (i : ℕ) (e : Entry) → i < length es → e ≡ get_or es i e → slice_get (m.keys (kept_in vs es)) i ≡ Some e.thing
  key_there i e l is = slice_get-map (λ x. x.0) (m.entries (kept_in vs es)) i ∙ ap (option_map (λ x. x.0)) (entry_here i e l is)

  pub all_entries : m.entries (kept_in vs es) ≡ map (pair_of vs) es
  all_entries = m.entries-from_sorted thing_cmp (map (pair_of vs) es) (pairs_rise vs es h)

  pub keys_here : m.keys (kept_in vs es) ≡ map (λ (e : Entry). e.thing) es
  keys_here = ap (map (λ e. e.0)) all_entries ∙ things_of vs es

abbrev pub blank : Thing → Entry
blank x = record { thing = x; count = 0; first = 0; place = Here 0 }

-- the entry of a thing that is held
module _ (vs : List Value) (es : List Entry) (h : DoRise es) (x : Thing) (i : ℕ) (p : IsAt thing_cmp (map amount_of es) x i) (d : Entry) where
  pub itself : get_or es i d ≡ get_or es i (get_or es i d)
  itself = get_or_default es i d (get_or es i d) (place_within es x i p)

  pub found : m.get (kept_in vs es) x ≡ Some ((get_or es i d).count, lies_in vs (get_or es i d))
  found = value_at vs es h x i (get_or es i d) p itself

  pub key_found : (get_or es i d).thing ≡ x
  key_found = key_of vs es h x i (get_or es i d) p itself

-- the count of an entry is changed
module _ (vs : List Value) (es : List Entry) (x : Thing) (i : ℕ) (e y : Entry) (h : DoRise es) (p : IsAt thing_cmp (map amount_of es) x i) (is : e ≡ get_or es i e) (same : y.thing ≡ e.thing) where
  both_set : T (is_sorted thing_cmp (map (pair_of vs) (set es i y))) × (kept_in vs (set es i y) ≡ m.insert (kept_in vs es) x (y.count, lies_in vs y))
  both_set = item_set thing_total thing_exact (pair_of vs) es (pairs_rise vs es h) x i y (at_pairs vs es h x i p) (same ∙ key_of vs es h x i e p is)

  pub written_held : DoRise (set es i y)
  written_held = amounts_rise vs (set es i y) both_set.0

  pub written_kept : kept_in vs (set es i y) ≡ m.insert (kept_in vs es) x (y.count, lies_in vs y)
  written_kept = both_set.1

-- what is written over these entries, and over their values
module _ (vs ws : List Value) (es fs : List Entry) (h : DoRise es) (x : Thing) (i : ℕ) where
  pub set_entries : (v : ℕ × Lying) → IsAt thing_cmp (map amount_of es) x i → map (pair_of ws) fs ≡ set (map (pair_of vs) es) i (x, v) → DoRise fs × (kept_in ws fs ≡ m.insert (kept_in vs es) x v)
  set_entries v p pairs =
      let q = at_pairs vs es h x i p in (
        amounts_rise ws fs (subst (λ ps. T (is_sorted thing_cmp ps)) (sym pairs) (sorted_at thing_total thing_exact (map (pair_of vs) es) (pairs_rise vs es h) x v i q)),
        ap m.from_sorted pairs ∙ map_at thing_total thing_exact (map (pair_of vs) es) (pairs_rise vs es h) x v i q,
      )

  pub new_entries : (v : ℕ × Lying) → IsGap thing_cmp (map amount_of es) x i → map (pair_of ws) fs ≡ insert (map (pair_of vs) es) i (x, v) → DoRise fs × (kept_in ws fs ≡ m.insert (kept_in vs es) x v)
  new_entries v p pairs =
      let q = gap_pairs vs es h x i p in (
        amounts_rise ws fs (subst (λ ps. T (is_sorted thing_cmp ps)) (sym pairs) (sorted_gap thing_total thing_exact (map (pair_of vs) es) (pairs_rise vs es h) x v i q)),
        ap m.from_sorted pairs ∙ map_gap thing_total thing_exact (map (pair_of vs) es) (pairs_rise vs es h) x v i q,
      )

  pub less_entries : IsAt thing_cmp (map amount_of es) x i → map (pair_of ws) fs ≡ remove (map (pair_of vs) es) i → DoRise fs × (kept_in ws fs ≡ m.remove (kept_in vs es) x)
  less_entries p pairs =
      let q = at_pairs vs es h x i p in (
        amounts_rise ws fs (subst (λ ps. T (is_sorted thing_cmp ps)) (sym pairs) (sorted_remove thing_total thing_exact (map (pair_of vs) es) (pairs_rise vs es h) x i q)),
        ap m.from_sorted pairs ∙ map_remove thing_total thing_exact (map (pair_of vs) es) (pairs_rise vs es h) x i q,
      )

-- some entries stay
pub stay_entries : (vs ws : List Value) (es fs : List Entry) (stays : Thing → Bool) → DoRise es → map (pair_of ws) fs ≡ filter (λ e. stays e.0) (map (pair_of vs) es)
    → DoRise fs × (kept_in ws fs ≡ m.retain_keys (kept_in vs es) stays)
stay_entries vs ws es fs stays h pairs =
    let ps = map (pair_of vs) es in
    let left = filter (λ (e : Thing × (ℕ × Lying)). stays e.0) ps in
    let both = item_filter thing_total thing_exact (λ (e : Thing × (ℕ × Lying)). e) ps (subst (λ qs. T (is_sorted thing_cmp qs)) (sym (map-id ps)) (pairs_rise vs es h)) stays in (
      amounts_rise ws fs (subst (λ qs. T (is_sorted thing_cmp qs)) (map-id left ∙ sym pairs) both.0),
      ap m.from_sorted (pairs ∙ sym (map-id left)) ∙ both.1 ∙ ap (λ qs. m.retain_keys (m.from_sorted qs) stays) (map-id ps),
    )

pub no_entries : (vs : List Value) (es : List Entry) → es ≡ [] → kept_in vs es ≡ m.empty
no_entries vs es e = ap (kept_in vs) e ∙ m.empty_of_len (kept_in vs []) (item_len thing_total thing_exact (pair_of vs) [] tt)

pub none_held : (es : List Entry) → es ≡ [] → DoRise es
none_held es e = subst DoRise (sym e) tt

-- ---- how long rows are

pub as_row_length : (xs : List Value) → row_length (as_row xs) ≡ length xs
as_row_length [] = refl
as_row_length (x ∷ xs) = refl

pub lies_length : (vs : List Value) (e : Entry) → e.first + len_of e ≤ length vs → row_length (lies_in vs e).row ≡ len_of e
lies_length vs e l = as_row_length (take (len_of e) (drop e.first vs)) ∙ length-take-le (len_of e) (drop e.first vs) (omega (arith, l, length-drop e.first vs))

-- rows do not matter to counts on actors
pub same_actors : (vs ws : List Value) (es : List Entry) → on_actors (map (pair_of vs) es) ≡ on_actors (map (pair_of ws) es)
same_actors vs ws [] = refl
same_actors vs ws (e ∷ es) = ap (on_actor e.thing e.count) (same_actors vs ws es)
