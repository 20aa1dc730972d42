-- The things that have places are in order.
use Rattle.std.specs.Prelude.{ℕ, zero, suc, ◌≡◌, ◌<◌, ◌≤◌, ◌-◌, Bool, true, false, cond, nat_lt, T, List, [], ◌∷◌, ◌++◌, Option, Some, None, length, filter, map, refl}
use Rattle.std.proofs.Common.{inl, inr, sym, ap, subst, ◌∙◌, get_or, arith, length-append}
use Rattle.std.specs.Option.{option_cmp}
use Rattle.std.specs.Ordering.{nat_cmp, ordering_then}
use Rattle.std.specs.Cmp.{nat_cmp_total, tied_itself}
use Rattle.std.specs.declared.cmp.Ordering.TheVariants.{Less}
use Rattle.std.specs.FinMap as m
use Rattle.std.specs.FinMap.Entries.{is_sorted, is_sorted-where_key, where_key}
use Rattle.std.proofs.lemmas.Bool.{cases_lt, ltb-true}
use Rattle.std.proofs.lemmas.List.{get_or-append_right, get_or-map, get_or_append_left, length-map}
use Rattle.std.proofs.lemmas.List.Elements.{filter_passes}
use Rattle.plain_list.proofs.Rising.{rises}
use Rattle.orca_names.specs.Names.{owner_of, serial_of, thing_cmp}
use Rattle.orca_names.specs.declared.names.Thing.{Thing}
use Rattle.orca_names.specs.declared.names.Thing.TheVariants.{Actor, Obj}
use Rattle.orca_names.proofs.ThingOrder.{thing_total}
use Rattle.letter_kinds.specs.Holdings.{Row}
use Rattle.object_heap.specs.Heap.{Heap}
use Rattle.foreign_table.specs.Table.{Table}
use Rattle.known_rows.specs.InOrder.{AreInOrder, append_in_order, less, order_of_places, thing_at_place}
use Rattle.known_rows.specs.Places.{held_above, held_below, own_things, place_in, placed_things}

-- ---- the keys that pass

filter-keys : {X : Type 0} (p : Thing → Bool) (es : List (Thing × X))
    → filter p (map (λ e. e.0) es) ≡ map (λ e. e.0) (where_key thing_cmp p es)
filter-keys p [] = refl
filter-keys p (e ∷ es) =
    elim (p e.0) as (λ b.
    cond b (e.0 ∷ filter p (map (λ x. x.0) es)) (filter p (map (λ x. x.0) es))
    ≡ map (λ x. x.0) (cond b (e ∷ where_key thing_cmp p es) (where_key thing_cmp p es))) [
      | true ↦ ap (λ xs. e.0 ∷ xs) (filter-keys p es)
      | false ↦ filter-keys p es
    ]

keys_in_order : {X : Type 0} (x : X) (es : List (Thing × X)) → T (is_sorted thing_cmp es)
    → AreInOrder (map (λ e. e.0) es)
keys_in_order x es h i j d l n =
    let m : j < length es = omega (arith, length-map es (λ e. e.0)) in
    (λ k. thing_cmp (get_or-map (λ e. e.0) es i (d, x) d (omega arith) k)
    (get_or-map (λ e. e.0) es j (d, x) d m k))
    ∙ rises thing_total es h i j (d, x) l m

passed_in_order : (p : Thing → Bool) (foreign : Table)
    → AreInOrder (filter p (m.keys foreign.entries))
passed_in_order p foreign =
    let es = m.entries foreign.entries in
    let none : ℕ × Option Row = (0, None) in
    subst AreInOrder (sym (filter-keys p es))
    (keys_in_order none (where_key thing_cmp p es)
    (is_sorted-where_key thing_cmp p es (m.entries_sorted foreign.entries)))

-- ---- by owner

lower_owner : (x y : Thing) → owner_of x < owner_of y → thing_cmp x y ≡ Less
lower_owner x y l =
    ap (λ o. ordering_then o (option_cmp nat_cmp (serial_of x) (serial_of y)))
    (less (owner_of x) (owner_of y) l)

module _ (heap : Heap) (foreign : Table) where
  below_owner : (i : ℕ) (d : Thing) → i < length (held_below heap foreign)
      → owner_of (get_or (held_below heap foreign) i d) < heap.owner
  below_owner i d l =
      ltb-true _ heap.owner (filter_passes (λ x. nat_lt (owner_of x) heap.owner)
      (m.keys foreign.entries) i d l)

  above_owner : (i : ℕ) (d : Thing) → i < length (held_above heap foreign)
      → heap.owner < owner_of (get_or (held_above heap foreign) i d)
  above_owner i d l =
      ltb-true heap.owner _ (filter_passes (λ x. nat_lt heap.owner (owner_of x))
      (m.keys foreign.entries) i d l)

  abbrev own : List Thing
  own = Actor heap.owner ∷ own_things heap

  abbrev object : ℕ → Thing
  object serial = Obj (record { owner = heap.owner; serial = serial })

  object_at : (i : ℕ) (d : Thing) → i < length (own_things heap)
      → get_or (own_things heap) i d ≡ object (get_or (m.keys heap.rows) i 0)
  object_at i d l =
      get_or-map object (m.keys heap.rows) i 0 d
      (omega (arith, length-map (m.keys heap.rows) object))

  own_owner : (i : ℕ) (d : Thing) → i < length own → owner_of (get_or own i d) ≡ heap.owner
  own_owner zero d l = refl
  own_owner (suc i) d l = ap owner_of (object_at i d (omega arith))

  objects_in_order : AreInOrder (own_things heap)
  objects_in_order i j d l n =
      let none : Row × ℕ = ([], 0) in
      let es = m.entries heap.rows in
      let keys : ℕ × (Row × ℕ) → ℕ = λ e. e.0 in
      let k : j < length es =
      omega (arith, length-map (m.keys heap.rows) object, length-map es keys) in
      let serials : nat_cmp (get_or (m.keys heap.rows) i 0) (get_or (m.keys heap.rows) j 0) ≡ Less =
      (λ t. nat_cmp (get_or-map keys es i (0, none) 0 (omega arith) t)
      (get_or-map keys es j (0, none) 0 k t))
      ∙ rises nat_cmp_total es (m.entries_sorted heap.rows) i j (0, none) l k in
      (λ t. thing_cmp (object_at i d (omega arith) t) (object_at j d n t))
      ∙ ap (λ o. ordering_then o (nat_cmp (get_or (m.keys heap.rows) i 0)
      (get_or (m.keys heap.rows) j 0))) (tied_itself nat_cmp_total heap.owner) ∙ serials

  own_in_order : AreInOrder own
  own_in_order i zero d l n = absurd (omega arith)
  own_in_order zero (suc j) d l n =
      ap (thing_cmp (Actor heap.owner)) (object_at j d (omega arith))
      ∙ ap (λ o. ordering_then o Less) (tied_itself nat_cmp_total heap.owner)
  own_in_order (suc i) (suc j) d l n = objects_in_order i j d (omega arith) (omega arith)

  -- no owner up to here is above the actor
  up_to_owner : (i : ℕ) (d : Thing) → i < length (held_below heap foreign ++ own)
      → owner_of (get_or (held_below heap foreign ++ own) i d) ≤ heap.owner
  up_to_owner i d l =
      elim (cases_lt i (length (held_below heap foreign))) as (λ _.
      owner_of (get_or (held_below heap foreign ++ own) i d) ≤ heap.owner) [
        | inl n ↦
            let below = below_owner i d n in
            let same = ap owner_of (get_or_append_left (held_below heap foreign) own d i n) in
            omega arith
        | inr n ↦
            let here = own_owner (i - length (held_below heap foreign)) d
            (omega (arith, length-append (held_below heap foreign) own)) in
            let same = ap owner_of (get_or-append_right (held_below heap foreign) own
            (length (held_below heap foreign)) i d refl n) in
            omega arith
      ]

  below_then_own : (i j : ℕ) (d : Thing) → i < length (held_below heap foreign) → j < length own
      → thing_cmp (get_or (held_below heap foreign) i d) (get_or own j d) ≡ Less
  below_then_own i j d l n =
      let low = below_owner i d l in
      let here = own_owner j d n in
      lower_owner (get_or (held_below heap foreign) i d) (get_or own j d) (omega arith)

  own_then_above : (i j : ℕ) (d : Thing) → i < length (held_below heap foreign ++ own)
      → j < length (held_above heap foreign)
      → thing_cmp (get_or (held_below heap foreign ++ own) i d)
      (get_or (held_above heap foreign) j d) ≡ Less
  own_then_above i j d l n =
      let low = up_to_owner i d l in
      let high = above_owner j d n in
      lower_owner (get_or (held_below heap foreign ++ own) i d)
      (get_or (held_above heap foreign) j d) (omega arith)

  -- the things that have places are in order
  pub placed_in_order : AreInOrder (placed_things heap foreign)
  placed_in_order =
      let lower_part = passed_in_order (λ x. nat_lt (owner_of x) heap.owner) foreign in
      let upper_part = passed_in_order (λ x. nat_lt heap.owner (owner_of x)) foreign in
      append_in_order (held_below heap foreign ++ own) (held_above heap foreign)
      (append_in_order (held_below heap foreign) own lower_part own_in_order below_then_own)
      upper_part own_then_above

  -- places are below their number
  pub places_below : (x : Thing) (p : ℕ) → place_in heap foreign x ≡ Some p
      → p < length (placed_things heap foreign)
  places_below x p e = (thing_at_place (placed_things heap foreign) x p e).0

  -- and go in the order of things
  pub places_in_order : (x y : Thing) (p q : ℕ) → place_in heap foreign x ≡ Some p
      → place_in heap foreign y ≡ Some q → thing_cmp x y ≡ nat_cmp p q
  places_in_order x y p q e f = order_of_places (placed_things heap foreign) placed_in_order x y p q
      (thing_at_place (placed_things heap foreign) x p e).1
      (thing_at_place (placed_things heap foreign) y q f).1
