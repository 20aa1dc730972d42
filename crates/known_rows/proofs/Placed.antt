-- Where the things that an actor knows have their places.
use Rattle.std.proofs.Common.{◌≡◌, ◌≢◌, inl, inr, ℕ, zero, suc, ◌+◌, ◌-◌, ◌<◌, ◌≤◌, Bool, true, false, cond, ◌||◌, List, [], ◌∷◌, ◌++◌, length, get_or, take, drop, slice_get, Option, Some, None, refl, sym, ap, ◌∙◌, arith, length-append}
use Rattle.std.specs.Prelude.{option_map, nat_lt, position}
use Rattle.std.specs.List.{filter, list_any}
use Rattle.std.specs.Ordering.{nat_cmp, eq_by_cmp, is_eq}
use Rattle.std.specs.Cmp.{nat_cmp_total, tied_itself}
use Rattle.std.specs.FinMap as m
use Rattle.std.proofs.lemmas.Bool.{cases_lt, eq-eqb, false≢true, le-ltb, lt-ltb, ne_eqb, or_right}
use Rattle.std.proofs.lemmas.List.{get_or-append_right, get_or-drop, get_or-map, get_or-take, get_or_append_left, length-map, get_or_default, length-take-le, length-drop}
use Rattle.std.proofs.lemmas.List.Sums.{position_or_len_is}
use Rattle.std.proofs.lemmas.Option.{get_or_from_slice_get, slice_get_within}
use Rattle.std.proofs.lemmas.Map.Views.{Contains-from_any}
use Rattle.plain_list.proofs.Rising.{value_at_place}
use Rattle.orca_names.specs.Names.{is_thing, owner_of, thing_cmp}
use Rattle.orca_names.specs.declared.names.ObjName.{ObjName}
use Rattle.orca_names.specs.declared.names.Thing.{Thing}
use Rattle.orca_names.specs.declared.names.Thing.TheVariants.{Actor, Obj}
use Rattle.orca_names.proofs.ThingOrder.{is_eq_true, is_ne_false, is_same, thing_total}
use Rattle.letter_kinds.specs.Holdings.{Row, entry_row}
use Rattle.object_heap.specs.Heap.{Has, Heap, block_at, own_block, own_row}
use Rattle.foreign_table.specs.Span.{IsSpan}
use Rattle.foreign_table.specs.Table.{Table, known_block, known_row}
use Rattle.foreign_table.specs.Table as tables
use Rattle.row_store.specs.Told.{Lying, thing_block, thing_lies, thing_row}
use Rattle.known_rows.specs.InOrder.{place_there}
use Rattle.known_rows.specs.Known.{block_known, row_known}
use Rattle.known_rows.specs.PlaceLaws.{placed_in_order}
use Rattle.known_rows.specs.Places.{HoldsOthersOnly, held_above, held_below, own_things, place_in, placed_things}

-- ---- places in a list

-- one that stands nowhere has none
no_place : (xs : List Thing) (x : Thing) → ((k : ℕ) → k < length xs → x ≢ get_or xs k x) → position (is_thing x) xs ≡ None
no_place xs x h =
    let last = position_or_len_is (is_thing x) xs (length xs) x (omega arith) (λ k l. is_ne_false x (get_or xs k x) (h k l)) (λ l. absurd (omega arith)) in
    ap (λ p. cond (nat_lt p (length xs)) (Some p) None) last ∙ ap (λ b. cond b (Some (length xs)) None) (le-ltb (length xs) (length xs) (omega arith))

-- what passes at the front, and not behind it
passes_in_front : (p : Thing → Bool) (xs : List Thing) (n : ℕ) → n ≤ length xs → ((k : ℕ) (d : Thing) → k < n → p (get_or xs k d) ≡ true)
    → ((k : ℕ) (d : Thing) → n ≤ k → k < length xs → p (get_or xs k d) ≡ false) → filter p xs ≡ take n xs
passes_in_front p [] zero l pass fail = refl
passes_in_front p [] (suc n) l pass fail = absurd (omega arith)
passes_in_front p (x ∷ xs) zero l pass fail = ap (λ b. cond b (x ∷ filter p xs) (filter p xs)) (fail 0 x (omega arith) (omega arith)) ∙ passes_in_front p xs 0 (omega arith) (λ k d m. absurd (omega arith)) (λ k d m n. fail (suc k) d (omega arith) (omega arith))
passes_in_front p (x ∷ xs) (suc n) l pass fail = ap (λ b. cond b (x ∷ filter p xs) (filter p xs)) (pass 0 x (omega arith)) ∙ ap (λ ys. x ∷ ys) (passes_in_front p xs n (omega arith) (λ k d m. pass (suc k) d (omega arith)) (λ k d m q. fail (suc k) d (omega arith) (omega arith)))

-- and the other way round
passes_behind : (p : Thing → Bool) (xs : List Thing) (n : ℕ) → n ≤ length xs → ((k : ℕ) (d : Thing) → k < n → p (get_or xs k d) ≡ false)
    → ((k : ℕ) (d : Thing) → n ≤ k → k < length xs → p (get_or xs k d) ≡ true) → filter p xs ≡ drop n xs
passes_behind p [] zero l fail pass = refl
passes_behind p [] (suc n) l fail pass = absurd (omega arith)
passes_behind p (x ∷ xs) zero l fail pass = ap (λ b. cond b (x ∷ filter p xs) (filter p xs)) (pass 0 x (omega arith) (omega arith)) ∙ ap (λ ys. x ∷ ys) (passes_behind p xs 0 (omega arith) (λ k d m. absurd (omega arith)) (λ k d m n. pass (suc k) d (omega arith) (omega arith)))
passes_behind p (x ∷ xs) (suc n) l fail pass = ap (λ b. cond b (x ∷ filter p xs) (filter p xs)) (fail 0 x (omega arith)) ∙ passes_behind p xs n (omega arith) (λ k d m. fail (suc k) d (omega arith)) (λ k d m q. pass (suc k) d (omega arith) (omega arith))

found : {K : Type 0} (eq : K → K → Bool) (x : K) (xs : List K) (k : ℕ) → k < length xs → eq x (get_or xs k x) ≡ true → list_any (eq x) xs ≡ true
found eq x [] k l e = absurd (omega arith)
found eq x (y ∷ xs) zero l e = ap (λ b. b || list_any (eq x) xs) e
found eq x (y ∷ xs) (suc k) l e = or_right (eq x y) _ (found eq x xs k (omega arith) e)

same_serial : (n o : ObjName) → Obj n ≡ Obj o → n.serial ≡ o.serial
same_serial n o e = let same : n ≡ o = cc in ap (λ x. x.serial) same

-- ---- the places of an actor

pub keys_count : (foreign : Table) → length (m.keys foreign.entries) ≡ m.len foreign.entries
keys_count foreign = length-map (m.entries foreign.entries) (λ e. e.0) ∙ sym (m.len-entries foreign.entries)

pub serials_count : (heap : Heap) → length (m.keys heap.rows) ≡ m.len heap.rows
serials_count heap = length-map (m.entries heap.rows) (λ e. e.0) ∙ sym (m.len-entries heap.rows)

-- an object of the actor's that is not there is not in its map
pub absent_own : (heap : Heap) (n : ObjName) → n.owner ≡ heap.owner → (Has heap n → ⊥) → m.contains_key heap.rows n.serial ≡ false
absent_own heap n owner none = elim (m.contains_key heap.rows n.serial) as (λ b. m.contains_key heap.rows n.serial ≡ b → b ≡ false) [
  | true ↦ λ e. absurd (none (record { owner = owner; there = e }))
  | false ↦ λ _. refl
] refl

module _ (heap : Heap) (foreign : Table) (first end : ℕ) (span : IsSpan heap.owner (m.keys foreign.entries) first end) where
  abbrev keys : List Thing
  keys = m.keys foreign.entries

  abbrev own : List Thing
  own = Actor heap.owner ∷ own_things heap

  abbrev lower : List Thing
  lower = held_below heap foreign ++ own

  first_within : first ≤ length keys
  first_within = omega (arith, span.first_within, span.end_within)

  not_lower : (k : ℕ) (d : Thing) → first ≤ k → k < length keys → heap.owner ≤ owner_of (get_or keys k d)
  not_lower k d l n = elim (cases_lt k end) as (λ _. heap.owner ≤ owner_of (get_or keys k d)) [
    | inl q ↦ let same = span.own k d l q in omega arith
    | inr q ↦ let up = span.above k d q n in omega arith
  ]

  not_higher : (k : ℕ) (d : Thing) → k < end → owner_of (get_or keys k d) ≤ heap.owner
  not_higher k d l = elim (cases_lt k first) as (λ _. owner_of (get_or keys k d) ≤ heap.owner) [
    | inl q ↦ let low = span.below k d q in omega arith
    | inr q ↦ let same = span.own k d q l in omega arith
  ]

  below_is : held_below heap foreign ≡ take first keys
  below_is = passes_in_front (λ x. nat_lt (owner_of x) heap.owner) keys first first_within
      (λ k d l. lt-ltb (owner_of (get_or keys k d)) heap.owner (span.below k d l)) (λ k d l n. le-ltb (owner_of (get_or keys k d)) heap.owner (not_lower k d l n))

  above_is : held_above heap foreign ≡ drop end keys
  above_is = passes_behind (λ x. nat_lt heap.owner (owner_of x)) keys end span.end_within
      (λ k d l. le-ltb heap.owner (owner_of (get_or keys k d)) (not_higher k d l)) (λ k d l n. lt-ltb heap.owner (owner_of (get_or keys k d)) (span.above k d l n))

  below_count : length (held_below heap foreign) ≡ first
  below_count = ap length below_is ∙ length-take-le first keys first_within

  own_count : length own ≡ 1 + m.len heap.rows
  own_count = omega (arith, length-map (m.keys heap.rows) (λ (s : ℕ). Obj (record { owner = heap.owner; serial = s })), serials_count heap)

  above_count : length (held_above heap foreign) ≡ m.len foreign.entries - end
  above_count = ap length above_is ∙ length-drop end keys ∙ ap (λ n. n - end) (keys_count foreign)

  -- how many places there are before what is held of actors with higher numbers
  pub lower_count : length lower ≡ first + 1 + m.len heap.rows
  lower_count = omega (arith, length-append (held_below heap foreign) own, below_count, own_count)

  -- how many places there are
  pub count_is : length (placed_things heap foreign) ≡ first + 1 + m.len heap.rows + (m.len foreign.entries - end)
  count_is = omega (arith, length-append lower (held_above heap foreign), length-append (held_below heap foreign) own, below_count, own_count, above_count)

  in_lower : (i : ℕ) (d : Thing) → i < first → get_or (placed_things heap foreign) i d ≡ get_or keys i d
  in_lower i d l =
      get_or_append_left lower (held_above heap foreign) d i (omega (arith, length-append (held_below heap foreign) own, below_count))
      ∙ get_or_append_left (held_below heap foreign) own d i (omega (arith, below_count))
      ∙ ap (λ xs. get_or xs i d) below_is ∙ get_or-take first keys i d l

  in_own : (i : ℕ) (d : Thing) → i < 1 + m.len heap.rows → get_or (placed_things heap foreign) (first + i) d ≡ get_or own i d
  in_own i d l =
      let back : first + i - first ≡ i = omega arith in
      get_or_append_left lower (held_above heap foreign) d (first + i) (omega (arith, length-append (held_below heap foreign) own, below_count, own_count))
      ∙ get_or-append_right (held_below heap foreign) own first (first + i) d below_count (omega arith) ∙ ap (λ k. get_or own k d) back

  in_above : (i : ℕ) (d : Thing) → get_or (placed_things heap foreign) (first + 1 + m.len heap.rows + i) d ≡ get_or keys (end + i) d
  in_above i d =
      let n = first + 1 + m.len heap.rows in
      let back : n + i - n ≡ i = omega arith in
      get_or-append_right lower (held_above heap foreign) n (n + i) d (omega (arith, length-append (held_below heap foreign) own, below_count, own_count)) (omega arith)
      ∙ ap (λ k. get_or (held_above heap foreign) k d) back ∙ ap (λ xs. get_or xs i d) above_is ∙ get_or-drop end keys i d

  -- ---- what stands where

  pub place_below : (j : ℕ) (x : Thing) → slice_get keys j ≡ Some x → j < first → place_in heap foreign x ≡ Some j
  place_below j x e l = place_there (placed_things heap foreign) x j (placed_in_order heap foreign) (omega (arith, count_is)) (in_lower j x l ∙ get_or_from_slice_get keys j x x e)

  pub place_of_owner : place_in heap foreign (Actor heap.owner) ≡ Some first
  place_of_owner =
      let start : first + 0 ≡ first = omega arith in
      place_there (placed_things heap foreign) (Actor heap.owner) first (placed_in_order heap foreign) (omega (arith, count_is))
      (ap (λ k. get_or (placed_things heap foreign) k (Actor heap.owner)) (sym start) ∙ in_own 0 (Actor heap.owner) (omega arith))

  own_at : (i : ℕ) (serial : ℕ) (d : Thing) → slice_get (m.keys heap.rows) i ≡ Some serial → get_or own (suc i) d ≡ Obj (record { owner = heap.owner; serial = serial })
  own_at i serial d e =
      let object : ℕ → Thing = λ s. Obj (record { owner = heap.owner; serial = s }) in
      get_or-map object (m.keys heap.rows) i serial d (slice_get_within (m.keys heap.rows) i serial e) ∙ ap object (get_or_from_slice_get (m.keys heap.rows) i serial serial e)

  pub place_own : (i : ℕ) (serial : ℕ) → slice_get (m.keys heap.rows) i ≡ Some serial → place_in heap foreign (Obj (record { owner = heap.owner; serial = serial })) ≡ Some (first + 1 + i)
  place_own i serial e =
      let x : Thing = Obj (record { owner = heap.owner; serial = serial }) in
      let inside : i < m.len heap.rows = omega (arith, slice_get_within (m.keys heap.rows) i serial e, serials_count heap) in
      let sum : first + 1 + i ≡ first + suc i = omega arith in
      place_there (placed_things heap foreign) x (first + 1 + i) (placed_in_order heap foreign) (omega (arith, count_is))
      (ap (λ k. get_or (placed_things heap foreign) k x) sum ∙ in_own (suc i) x (omega arith) ∙ own_at i serial x e)

  pub place_above : (j : ℕ) (x : Thing) → slice_get keys j ≡ Some x → end ≤ j → place_in heap foreign x ≡ Some (first + 1 + m.len heap.rows + (j - end))
  place_above j x e l =
      let inside = slice_get_within keys j x e in
      let sum : end + (j - end) ≡ j = omega arith in
      place_there (placed_things heap foreign) x (first + 1 + m.len heap.rows + (j - end)) (placed_in_order heap foreign) (omega (arith, count_is, keys_count foreign))
      (in_above (j - end) x ∙ ap (λ k. get_or keys k x) sum ∙ get_or_from_slice_get keys j x x e)

  -- an entry of another's that is not before the actor's own is behind them
  pub stands_behind : (j : ℕ) (x : Thing) → slice_get keys j ≡ Some x → owner_of x ≢ heap.owner → first ≤ j → end ≤ j
  stands_behind j x e other l = elim (cases_lt j end) as (λ _. end ≤ j) [
    | inl n ↦ absurd (other (ap owner_of (sym (get_or_from_slice_get keys j x x e)) ∙ span.own j x l n))
    | inr n ↦ n
  ]

  -- ---- what has no place

  -- a thing that is not among these has none
  elsewhere : (x : Thing) → ((k : ℕ) → k < length keys → owner_of (get_or keys k x) ≢ heap.owner → x ≢ get_or keys k x) → ((k : ℕ) → k < length own → x ≢ get_or own k x) → place_in heap foreign x ≡ None
  elsewhere x held mine = no_place (placed_things heap foreign) x stands
    where
      stands : (k : ℕ) → k < length (placed_things heap foreign) → x ≢ get_or (placed_things heap foreign) k x
      stands k l e = elim (cases_lt k first) as (λ _. ⊥) [
        | inl n ↦ held k (omega (arith, first_within)) (λ same. let low = span.below k x n in omega arith) (e ∙ in_lower k x n)
        | inr n ↦ elim (cases_lt k (first + 1 + m.len heap.rows)) as (λ _. ⊥) [
          | inl q ↦
              let i = k - first in
              let sum : k ≡ first + (k - first) = omega arith in
              mine i (omega (arith, own_count)) (e ∙ ap (λ j. get_or (placed_things heap foreign) j x) sum ∙ in_own i x (omega arith))
          | inr q ↦
              let i = k - (first + 1 + m.len heap.rows) in
              let sum : k ≡ first + 1 + m.len heap.rows + (k - (first + 1 + m.len heap.rows)) = omega arith in
              let inside : end + i < length keys = omega (arith, count_is, keys_count foreign) in
              held (end + i) inside (λ same. let high = span.above (end + i) x (omega arith) inside in omega arith) (e ∙ ap (λ j. get_or (placed_things heap foreign) j x) sum ∙ in_above i x)
        ]
      ]

  own_owner : (k : ℕ) (d : Thing) → k < length own → owner_of (get_or own k d) ≡ heap.owner
  own_owner zero d l = refl
  own_owner (suc i) d l =
      let object : ℕ → Thing = λ s. Obj (record { owner = heap.owner; serial = s }) in
      ap owner_of (get_or-map object (m.keys heap.rows) i 0 d (omega (arith, length-map (m.keys heap.rows) object)))

  pub no_place_other : (x : Thing) → owner_of x ≢ heap.owner → m.contains_key foreign.entries x ≡ false → place_in heap foreign x ≡ None
  no_place_other x other absent = elsewhere x
      (λ k l _ e. false≢true (sym absent ∙ m.contains_key-keys foreign.entries x ∙ found (eq_by_cmp thing_cmp) x keys k l (is_eq_true x (get_or keys k x) e)))
      (λ k l e. other (ap owner_of e ∙ own_owner k x l))

  pub no_place_own : (n : ObjName) → n.owner ≡ heap.owner → m.contains_key heap.rows n.serial ≡ false → place_in heap foreign (Obj n) ≡ None
  no_place_own n owner absent = elsewhere (Obj n) (λ k l other e. other (ap owner_of (sym e) ∙ owner)) mine
    where
      mine : (k : ℕ) → k < length own → Obj n ≢ get_or own k (Obj n)
      mine zero l e = cc
      mine (suc i) l e =
          let object : ℕ → Thing = λ s. Obj (record { owner = heap.owner; serial = s }) in
          let inside : i < length (m.keys heap.rows) = omega (arith, length-map (m.keys heap.rows) object) in
          let there : Obj n ≡ object (get_or (m.keys heap.rows) i n.serial) = e ∙ get_or-map object (m.keys heap.rows) i n.serial (Obj n) inside in
          let same = same_serial n (record { owner = heap.owner; serial = get_or (m.keys heap.rows) i n.serial }) there in
          false≢true (sym absent ∙ m.contains_key-keys heap.rows n.serial
          ∙ found (eq_by_cmp nat_cmp) n.serial (m.keys heap.rows) i inside (ap is_eq (ap (nat_cmp n.serial) (sym same) ∙ tied_itself nat_cmp_total n.serial)))

  -- ---- whether something of the actor's own is held

  pub others_only : first ≡ end → HoldsOthersOnly heap foreign
  others_only same x there own =
      let key = Contains-from_any {eq = is_thing} is_same x keys (sym (m.contains_key-keys foreign.entries x) ∙ there) in
      elim (cases_lt key.0 first) as (λ _. ⊥) [
        | inl l ↦ let low = span.below key.0 x l in let at = ap owner_of key.2 in omega arith
        | inr l ↦ let high = span.above key.0 x (omega arith) key.1 in let at = ap owner_of key.2 in omega arith
      ]

  pub not_others_only : first ≢ end → HoldsOthersOnly heap foreign → ⊥
  not_others_only unequal others =
      let l : first < end = omega (arith, span.first_within) in
      let inside : first < length keys = omega (arith, span.end_within) in
      let x = get_or keys first (Actor 0) in
      others x (m.contains_key-keys foreign.entries x ∙ found is_thing x keys first inside (is_eq_true x (get_or keys first x) (get_or_default keys first (Actor 0) x inside))) (span.own first (Actor 0) (omega arith) l)

  -- ---- rows by place

  -- the row that came with a held thing of another actor's lies as it is known
  held_lies : (x : Thing) → owner_of x ≢ heap.owner → thing_lies (known_row foreign) (known_block foreign) x ≡ thing_lies (row_known heap foreign) (block_known heap foreign) x
  held_lies (Actor a) other = refl
  held_lies (Obj n) other =
      ap (λ b. the_lying (cond b (own_row heap n) (known_row foreign n)) (cond b (own_block heap n) (known_block foreign n))) (sym (ne_eqb n.owner heap.owner other))
    where
      the_lying : Option Row → Option ℕ → Lying
      the_lying row block = record { row = row; block = block }

  pub lies_below : (j : ℕ) (x : Thing) → slice_get keys j ≡ Some x → j < first → thing_lies (known_row foreign) (known_block foreign) x ≡ thing_lies (row_known heap foreign) (block_known heap foreign) x
  lies_below j x e l = held_lies x (λ same. let low = span.below j x l in let at = ap owner_of (get_or_from_slice_get keys j x x e) in omega arith)

  pub lies_above : (j : ℕ) (x : Thing) → slice_get keys j ≡ Some x → end ≤ j → thing_lies (known_row foreign) (known_block foreign) x ≡ thing_lies (row_known heap foreign) (block_known heap foreign) x
  lies_above j x e l = held_lies x (λ same. let high = span.above j x l (slice_get_within keys j x e) in let at = ap owner_of (get_or_from_slice_get keys j x x e) in omega arith)

-- the row at the place of an own object
pub rowed_own : (heap : Heap) (foreign : Table) (n : ObjName) (i : ℕ) (row : Row) (count : ℕ) → n.owner ≡ heap.owner
    → slice_get (m.entries heap.rows) i ≡ Some (n.serial, (row, count)) → Some row ≡ row_known heap foreign n
rowed_own heap foreign n i row count owner e =
    sym (ap (λ b. cond b (cond b (option_map (λ x. x.0) (m.get heap.rows n.serial)) None) (known_row foreign n)) (eq-eqb n.owner heap.owner owner)
    ∙ ap (option_map (λ x. x.0)) (value_at_place nat_cmp_total heap.rows i (n.serial, (row, count)) e))

-- and its block
pub blocked_own : (heap : Heap) (foreign : Table) (n : ObjName) → n.owner ≡ heap.owner → block_at heap.blocks n.serial ≡ block_known heap foreign n
blocked_own heap foreign n owner = sym (ap (λ b. cond b (cond b (block_at heap.blocks n.serial) None) (known_block foreign n)) (eq-eqb n.owner heap.owner owner))

-- the row of an entry
pub rowed_entry : (foreign : Table) (x : Thing) (j count : ℕ) (row : Option Row) → slice_get (m.entries foreign.entries) j ≡ Some (x, (count, row))
    → thing_row (λ _. row) x ≡ thing_row (known_row foreign) x
rowed_entry foreign (Actor a) j count row e = refl
rowed_entry foreign (Obj n) j count row e = sym (ap entry_row (value_at_place thing_total foreign.entries j (Obj n, (count, row)) e))

-- and its block
pub blocked_entry : (foreign : Table) (x : Thing) → thing_block (λ _. tables.block_at foreign.blocks x) x ≡ thing_block (known_block foreign) x
blocked_entry foreign (Actor a) = refl
blocked_entry foreign (Obj n) = refl
