-- Objects as they are kept: keys apart from the things with their rows.
use Rattle.std.proofs.Common.{◌≡◌, ℕ, zero, suc, ◌<◌, ◌≤◌, true, List, [], ◌∷◌, ◌++◌, length, get_or, map, set, take, drop, Option, refl, sym, ap, subst, ◌∙◌, arith}
use Rattle.std.specs.Prelude.{T, None, Some, is_some, option_and_then, option_map, unwrap_or}
use Rattle.std.specs.List.{All, remove}
use Rattle.std.specs.declared.cmp.Ordering.TheVariants.{Less, Greater}
use Rattle.std.specs.Ordering.{nat_cmp}
use Rattle.std.specs.FinMap as m
use Rattle.std.specs.FinMap.Entries.{is_sorted}
use Rattle.std.proofs.Math.Seq.{map-set_same}
use Rattle.std.proofs.lemmas.Bool.{false≢true}
use Rattle.std.proofs.lemmas.List.Elements.{All-append, All-drop, All-head, All-set, All-tail, All-take}
use Rattle.std.proofs.lemmas.List.{length-map, map-append, map-set, take-map, drop-map, get_or-map, get_or_default}
use Rattle.letter_kinds.specs.Counting.{with_row_count}
use Rattle.letter_kinds.specs.Holdings.{Row, row_count}
use Rattle.orca_names.specs.declared.names.ObjName.{ObjName}
use Rattle.orca_names.specs.declared.names.Thing.TheVariants.{Obj}
use Rattle.plain_list.specs.Rising.{IsAt, IsGap}
use Rattle.plain_list.proofs.Rising.{same_rise}
use Rattle.row_store.specs.Told.{told_block, told_of, told_row}
use Rattle.row_store.proofs.Telling.{block_told, row_told}
use Rattle.object_heap.specs.declared.search.Key.{Key}
use Rattle.object_heap.specs.Entry.{AreKept, HasKey, IsRecalled, Item, Own, joined, key_of, key_pair, named, object_of, pair_of, serial_in}
use Rattle.object_heap.specs.Heap.{AreOwn, AreStored, Blocks, block_at, blocks_in, own_object, rows_in}
use Rattle.object_heap.proofs.Entries.{count_there, counted_own, counted_rows, less_own, less_rows, none_at, value_at}
use Rattle.object_heap.proofs.Placed.{block_here, block_there, counted_blocks, less_blocks}

joined_is : (memory : ObjName → Option Row) (owner : ℕ) (own : List Own) → All (IsRecalled memory owner) own → joined memory (map key_of own) (map (object_of owner) own) ≡ own
joined_is memory owner [] recalled = refl
joined_is memory owner (e ∷ own) recalled =
    let first = All-head (IsRecalled memory owner) e own recalled in
    let row : unwrap_or (told_row memory (Obj (named owner e)) (told_of e.row e.block)) [] ≡ e.row = ap (λ o. unwrap_or o []) (row_told memory (named owner e) e.row e.block first) in
    let others = joined_is memory owner own (All-tail (IsRecalled memory owner) e own recalled) in
    λ j. record { serial = e.serial; count = e.count; row = row j; block = block_told e.row e.block j } ∷ others j

-- the keys rise as the entries do
first_same : (own : List Own) → map (λ e. e.0) (map pair_of own) ≡ map (λ k. k.0) (map key_pair (map key_of own))
first_same [] = refl
first_same (e ∷ own) = ap (λ rest. e.serial ∷ rest) (first_same own)

objects_of : (owner : ℕ) (blocks : Blocks) (own : List Own) → ((i : ℕ) (e : Own) → i < length own → e ≡ get_or own i e → m.get blocks e.serial ≡ Some e.block) → map (object_of owner) own ≡ map (own_object owner blocks) (map pair_of own)
objects_of owner blocks [] h = refl
objects_of owner blocks (e ∷ own) h =
    let block : e.block ≡ block_at blocks e.serial = sym (ap (option_and_then (λ b. b)) (h 0 e (omega arith) refl)) in
    λ j. (Obj (record { owner = owner; serial = e.serial }), told_of e.row (block j)) ∷ objects_of owner blocks own (λ i x l is. h (suc i) x (omega arith) is) j

serials_of : (own : List Own) → map (λ e. e.0) (map pair_of own) ≡ map serial_in (map key_of own)
serials_of [] = refl
serials_of (e ∷ own) = ap (λ rest. e.serial ∷ rest) (serials_of own)

serial_same : (own : List Own) (j : ℕ) (d : ℕ × ℕ) (e : ℕ × (Row × ℕ)) → j < length own → (get_or (map key_pair (map key_of own)) j d).0 ≡ (get_or (map pair_of own) j e).0
serial_same [] j d e l = absurd (omega arith)
serial_same (x ∷ own) zero d e l = refl
serial_same (x ∷ own) (suc j) d e l = serial_same own j d e (omega arith)

long : (own : List Own) → length (map key_pair (map key_of own)) ≡ length own
long own = length-map (map key_of own) key_pair ∙ length-map own key_of

at_object : (own : List Own) (q i : ℕ) → IsAt nat_cmp (map key_pair (map key_of own)) q i → IsAt nat_cmp (map pair_of own) q i
at_object own q i p =
    let l : i < length own = omega (arith, p.in_range, long own) in
    let len = length-map own pair_of in
    record {
      in_range = omega arith;
      has_key = λ d. sym (serial_same own i (0, 0) d l) ∙ p.has_key (0, 0);
      before = λ j d m. subst (λ k. nat_cmp q k ≡ Greater) (serial_same own j (0, 0) d (omega arith)) (p.before j (0, 0) m);
      after = λ j d m n. subst (λ k. nat_cmp q k ≡ Less) (serial_same own j (0, 0) d (omega arith)) (p.after j (0, 0) m (omega (arith, long own)));
    }

gap_object : (own : List Own) (q i : ℕ) → IsGap nat_cmp (map key_pair (map key_of own)) q i → IsGap nat_cmp (map pair_of own) q i
gap_object own q i p =
    let l : i ≤ length own = omega (arith, p.in_range, long own) in
    let len = length-map own pair_of in
    record {
      in_range = omega arith;
      before = λ j d m. subst (λ k. nat_cmp q k ≡ Greater) (serial_same own j (0, 0) d (omega arith)) (p.before j (0, 0) m);
      after = λ j d m n. subst (λ k. nat_cmp q k ≡ Less) (serial_same own j (0, 0) d (omega arith)) (p.after j (0, 0) m (omega (arith, long own)));
    }

module _ (owner : ℕ) (keys : List Key) (objects : List Item) (own : List Own) (kept : AreKept owner keys objects own) where
  module _ (memory : ObjName → Option Row) (recalled : All (IsRecalled memory owner) own) where
    pub kept_joined : joined memory keys objects ≡ own
    kept_joined = (λ j. joined memory (kept.0 j) (kept.1 j)) ∙ joined_is memory owner own recalled

    -- so they are stored
    pub stored : (next : ℕ) → AreOwn next own → AreStored owner next memory keys objects
    stored next h = record {
      own = subst (AreOwn next) (sym kept_joined) h;
      kept = subst (AreKept owner keys objects) (sym kept_joined) kept;
      recalled = subst (All (IsRecalled memory owner)) (sym kept_joined) recalled;
    }

  pub keys_long : length keys ≡ length own
  keys_long = ap length kept.0 ∙ length-map own key_of

  pub objects_long : length objects ≡ length own
  objects_long = ap length kept.1 ∙ length-map own (object_of owner)

  -- what is read at a place is of one object
  abbrev pub object_at : (i : ℕ) → i < length own → (e : Own) × (e ≡ get_or own i e) × ((k : Key) → k ≡ get_or keys i k → k ≡ key_of e) × ((x : Item) → x ≡ get_or objects i x → x ≡ object_of owner e)
  object_at i l =
      let d : Own = record { serial = 0; count = 0; row = []; block = None } in
      let e : Own = get_or own i d in (
        e,
        get_or_default own i d e l,
        λ k is. is ∙ ap (λ ks. get_or ks i k) kept.0 ∙ get_or-map key_of own i d k l,
        λ x is. is ∙ ap (λ xs. get_or xs i x) kept.1 ∙ get_or-map (object_of owner) own i d x l,
      )

  pub kept_set : (i : ℕ) (y : Own) → AreKept owner (set keys i (key_of y)) (set objects i (object_of owner y)) (set own i y)
  kept_set i y = (
    ap (λ ks. set ks i (key_of y)) kept.0 ∙ sym (map-set key_of own i y),
    ap (λ xs. set xs i (object_of owner y)) kept.1 ∙ sym (map-set (object_of owner) own i y),
  )

  -- its object stays
  pub kept_count : (i : ℕ) (e y : Own) → e ≡ get_or own i e → object_of owner y ≡ object_of owner e → AreKept owner (set keys i (key_of y)) objects (set own i y)
  kept_count i e y is same = (
    ap (λ ks. set ks i (key_of y)) kept.0 ∙ sym (map-set key_of own i y),
    kept.1 ∙ sym (map-set_same (object_of owner) own i y e (same ∙ ap (object_of owner) is)),
  )

  pub kept_add : (y : Own) → AreKept owner (keys ++ key_of y ∷ []) (objects ++ object_of owner y ∷ []) (own ++ y ∷ [])
  kept_add y = (
    ap (λ ks. ks ++ key_of y ∷ []) kept.0 ∙ sym (map-append key_of own (y ∷ [])),
    ap (λ xs. xs ++ object_of owner y ∷ []) kept.1 ∙ sym (map-append (object_of owner) own (y ∷ [])),
  )

  map_less : {Y : Type 0} (f : Own → Y) (i : ℕ) → remove (map f own) i ≡ map f (remove own i)
  map_less f i = sym (map-append f (take i own) (drop (suc i) own) ∙ (λ j. sym (take-map f i own) j ++ sym (drop-map f (suc i) own) j))

  pub kept_less : (i : ℕ) → AreKept owner (remove keys i) (remove objects i) (remove own i)
  kept_less i = (
    ap (λ ks. remove ks i) kept.0 ∙ map_less key_of i,
    ap (λ xs. remove xs i) kept.1 ∙ map_less (object_of owner) i,
  )

  pub kept_take : (n : ℕ) → AreKept owner (take n keys) (take n objects) (take n own)
  kept_take n = (
    ap (take n) kept.0 ∙ take-map key_of n own,
    ap (take n) kept.1 ∙ take-map (object_of owner) n own,
  )

-- ---- of a heap

module _ (owner next : ℕ) (memory : ObjName → Option Row) (keys : List Key) (objects : List Item) (s : AreStored owner next memory keys objects) where
  pub sorted_keys : T (is_sorted nat_cmp (map key_pair keys))
  sorted_keys =
      let own = joined memory keys objects in
      same_rise nat_cmp (map pair_of own) (map key_pair keys) (first_same own ∙ ap (λ ks. map (λ k. k.0) (map key_pair ks)) (sym s.kept.0)) s.own.sorted

  pub at_own : (q i : ℕ) → IsAt nat_cmp (map key_pair keys) q i → IsAt nat_cmp (map pair_of (joined memory keys objects)) q i
  at_own q i p = at_object (joined memory keys objects) q i (subst (λ ks. IsAt nat_cmp (map key_pair ks) q i) s.kept.0 p)

  pub gap_own : (q i : ℕ) → IsGap nat_cmp (map key_pair keys) q i → IsGap nat_cmp (map pair_of (joined memory keys objects)) q i
  gap_own q i p = gap_object (joined memory keys objects) q i (subst (λ ks. IsGap nat_cmp (map key_pair ks) q i) s.kept.0 p)

  pub has_key : (q : ℕ) → is_some (m.get (rows_in (joined memory keys objects)) q) ≡ true → HasKey keys q
  has_key q there = (
    sorted_keys,
    λ i p. false≢true (ap is_some (sym (none_at next (joined memory keys objects) s.own q i (gap_own q i p))) ∙ there),
  )

  pub at_within : (q i : ℕ) → IsAt nat_cmp (map key_pair keys) q i → i < length (joined memory keys objects)
  at_within q i p = omega (arith, p.in_range, length-map keys key_pair, keys_long owner keys objects (joined memory keys objects) s.kept)

  -- the object of a key that is there
  abbrev pub object_there : (q i : ℕ) (k : Key) → IsAt nat_cmp (map key_pair keys) q i → k ≡ get_or keys i k → (e : Own) × (e ≡ get_or (joined memory keys objects) i e) × (k ≡ key_of e)
  object_there q i k p is =
      let its = object_at owner keys objects (joined memory keys objects) s.kept i (at_within q i p) in
      (its.0, its.1, its.2 k is)

  -- its row is remembered, if it lies in a block
  recalled_at : (i : ℕ) (e : Own) → i < length (joined memory keys objects) → e ≡ get_or (joined memory keys objects) i e → IsRecalled memory owner e
  recalled_at i e l is = subst (IsRecalled memory owner) (sym is) (s.recalled i e l)

  -- its count is changed
  module _ (q i n : ℕ) (k : Key) (p : IsAt nat_cmp (map key_pair keys) q i) (is : k ≡ get_or keys i k) where
    abbrev its : (e : Own) × (e ≡ get_or (joined memory keys objects) i e) × (k ≡ key_of e)
    its = object_there q i k p is

    abbrev e : Own
    e = its.0

    abbrev counted : Own
    counted = record { serial = k.serial; count = n; row = e.row; block = e.block }

    same : counted.serial ≡ e.serial
    same = ap (λ x. x.serial) its.2

    new_kept : AreKept owner (set keys i (record { serial = k.serial; count = n })) objects (set (joined memory keys objects) i counted)
    new_kept = kept_count owner keys objects (joined memory keys objects) s.kept i e counted its.1 (λ j. (Obj (record { owner = owner; serial = same j }), told_of e.row e.block))

    new_recalled : All (IsRecalled memory owner) (set (joined memory keys objects) i counted)
    new_recalled = All-set (IsRecalled memory owner) (joined memory keys objects) i counted
        (λ lies. (λ j. memory (record { owner = owner; serial = same j })) ∙ recalled_at i e (at_within q i p) its.1 lies) s.recalled

    pub counted_stored : AreStored owner next memory (set keys i (record { serial = k.serial; count = n })) objects
    counted_stored = stored owner _ objects (set (joined memory keys objects) i counted) new_kept memory new_recalled next (counted_own next (joined memory keys objects) q i e s.own (at_own q i p) its.1 counted same)

    pub counted_map : (f : ℕ → ℕ) → f k.count ≡ n → rows_in (joined memory (set keys i (record { serial = k.serial; count = n })) objects) ≡ with_row_count (rows_in (joined memory keys objects)) q f (m.get (rows_in (joined memory keys objects)) q)
    counted_map f is_new =
        ap rows_in (kept_joined owner _ objects (set (joined memory keys objects) i counted) new_kept memory new_recalled)
        ∙ counted_rows next (joined memory keys objects) q i e s.own (at_own q i p) its.1 counted same refl f (ap (λ x. f x.count) (sym its.2) ∙ is_new)

    pub counted_place : blocks_in (joined memory (set keys i (record { serial = k.serial; count = n })) objects) ≡ blocks_in (joined memory keys objects)
    counted_place =
        ap blocks_in (kept_joined owner _ objects (set (joined memory keys objects) i counted) new_kept memory new_recalled)
        ∙ counted_blocks (joined memory keys objects) i e counted its.1 same refl

  -- the count of a key is that of the entry
  pub count_is : (q i : ℕ) (k : Key) → IsAt nat_cmp (map key_pair keys) q i → k ≡ get_or keys i k → row_count (m.get (rows_in (joined memory keys objects)) q) ≡ k.count
  count_is q i k p is =
      let its = object_there q i k p is in
      count_there next (joined memory keys objects) q i its.0 s.own (at_own q i p) its.1 ∙ ap (λ x. x.count) (sym its.2)

  -- what is told at a place
  pub told_is : (q i : ℕ) (x : Item) → IsAt nat_cmp (map key_pair keys) q i → x ≡ get_or objects i x
      → (e : Own) × (x.1 ≡ told_of e.row e.block) × (option_map (λ e. e.0) (m.get (rows_in (joined memory keys objects)) q) ≡ Some e.row)
      × (block_at (blocks_in (joined memory keys objects)) q ≡ e.block)
  told_is q i x p is =
      let its = object_at owner keys objects (joined memory keys objects) s.kept i (at_within q i p) in (
        its.0,
        ap (λ y. y.1) (its.3 x is),
        ap (option_map (λ e. e.0)) (value_at next (joined memory keys objects) s.own q i its.0 (at_own q i p) its.1),
        ap (option_and_then (λ b. b)) (block_here next (joined memory keys objects) s.own q i its.0 (at_own q i p) its.1),
      )

  -- the object that goes
  module _ (q i : ℕ) (p : IsAt nat_cmp (map key_pair keys) q i) where
    less_recalled : All (IsRecalled memory owner) (remove (joined memory keys objects) i)
    less_recalled =
        let own = joined memory keys objects in
        All-append (IsRecalled memory owner) (take i own) (drop (suc i) own) (All-take (IsRecalled memory owner) i own s.recalled) (All-drop (IsRecalled memory owner) (suc i) own s.recalled)

    pub less_stored : AreStored owner next memory (remove keys i) (remove objects i)
    less_stored = stored owner _ _ (remove (joined memory keys objects) i) (kept_less owner keys objects (joined memory keys objects) s.kept i) memory less_recalled next (less_own next (joined memory keys objects) q i s.own (at_own q i p))

    pub less_map : rows_in (joined memory (remove keys i) (remove objects i)) ≡ m.remove (rows_in (joined memory keys objects)) q
    less_map = ap rows_in (kept_joined owner _ _ (remove (joined memory keys objects) i) (kept_less owner keys objects (joined memory keys objects) s.kept i) memory less_recalled)
        ∙ less_rows next (joined memory keys objects) q i s.own (at_own q i p)

    pub less_place : blocks_in (joined memory (remove keys i) (remove objects i)) ≡ m.remove (blocks_in (joined memory keys objects)) q
    less_place = ap blocks_in (kept_joined owner _ _ (remove (joined memory keys objects) i) (kept_less owner keys objects (joined memory keys objects) s.kept i) memory less_recalled)
        ∙ less_blocks next (joined memory keys objects) s.own q i (at_own q i p)

  -- where no serial has a block, none of them lies in one
  pub are_here : ((q : ℕ) → block_at (blocks_in (joined memory keys objects)) q ≡ None) → All (λ (x : Item). told_block x.1 ≡ None) objects
  are_here none = λ i d l.
      let own = joined memory keys objects in
      let its = object_at owner keys objects own s.kept i (omega (arith, objects_long owner keys objects own s.kept)) in
      ap (λ y. told_block y.1) (its.3 (get_or objects i d) (get_or_default objects i d (get_or objects i d) l))
      ∙ block_told its.0.row its.0.block
      ∙ sym (ap (option_and_then (λ b. b)) (block_there next own s.own i its.0 (omega (arith, objects_long owner keys objects own s.kept)) its.1))
      ∙ none its.0.serial

  -- what is seen of them
  pub objects_view : objects ≡ map (own_object owner (blocks_in (joined memory keys objects))) (m.entries (rows_in (joined memory keys objects)))
  objects_view =
      let own = joined memory keys objects in
      s.kept.1 ∙ objects_of owner (blocks_in own) own (block_there next own s.own)
      ∙ ap (map (own_object owner (blocks_in own))) (sym (m.entries-from_sorted nat_cmp (map pair_of own) s.own.sorted))

  pub keys_view : m.keys (rows_in (joined memory keys objects)) ≡ map serial_in keys
  keys_view =
      let own = joined memory keys objects in
      ap (map (λ e. e.0)) (m.entries-from_sorted nat_cmp (map pair_of own) s.own.sorted) ∙ serials_of own ∙ ap (map serial_in) (sym s.kept.0)
