-- What a place says of a look-up, a write, an insert and a removal.
use Rattle.std.proofs.Common.{◌≡◌, ℕ, zero, suc, ◌+◌, ◌<◌, Bool, true, false, cond, not, ◌&&◌, List, [], ◌∷◌, ◌++◌, length, get_or, map, set, take, drop, slice_get, Option, Some, None, Ordering, Result, Ok, Err, refl, sym, ap, subst, ◌∙◌, arith}
use Rattle.std.specs.Prelude.{T}
use Rattle.std.specs.declared.cmp.Ordering.TheVariants.{Less, Equal, Greater}
use Rattle.std.specs.List.{insert, remove, filter}
use Rattle.std.specs.List.Sorted.{IsSearchInRange, IsBinarySearchResult, IsNonDecreasingBy}
use Rattle.std.specs.Result.{MatchResult}
use Rattle.std.proofs.lemmas.List.{get_or_default, length-map, get_or-map, map-set, map-append, drop-map}
use Rattle.std.specs.List.{take-map}
use Rattle.std.proofs.lemmas.Option.{get_or_from_slice_get, slice_get-get_or, slice_get_within}
use Rattle.std.proofs.lemmas.List.Sorted.{searchable_from_sorted}
use Rattle.std.specs.Ordering.{is_eq, is_lt, eq_by_cmp, ordering_reverse, ordering_index}
use Rattle.std.specs.Cmp.{IsTotalOrder, tied_itself, alike_right, eq_by_cmp_equiv}
use Rattle.std.specs.FinMap.{IsAntisymmetric, get, from_sorted, entries, same_map, get-insert, get-remove, get-from_sorted, entries-from_sorted}
use Rattle.std.specs.FinMap as m
use Rattle.std.specs.FinMap.Entries.{find, put, by_order, where_key, below_all, is_sorted, is_sorted-put, is_sorted-where_key, find-put, find-where_key}
use Rattle.plain_list.specs.Rising.{IsAt, IsGap}

first : (a b : Bool) → T (a && b) → T a
first true b p = tt
first false b p = p

second : (a b : Bool) → T (a && b) → T b
second true b p = p
second false b p = absurd p

less : (o : Ordering) → T (is_lt o) → o ≡ Less
less Less p = refl
less Equal p = absurd p
less Greater p = absurd p

module _ {K : Type 0} {R : K → K → Ordering} (o : IsTotalOrder R) where
  turned : (x y : K) → R x y ≡ Less → R y x ≡ Greater
  turned x y e = o.antisymm y x ∙ ap ordering_reverse e

  turned_back : (x y : K) → R x y ≡ Greater → R y x ≡ Less
  turned_back x y e = o.antisymm y x ∙ ap ordering_reverse e

  equal_at : (q k : K) → k ≡ q → R q k ≡ Equal
  equal_at q k e = ap (R q) e ∙ tied_itself o q

abbrev others : {K : Type 0} → (K → K → Ordering) → K → K → Bool
others R q k = not (eq_by_cmp R q k)

module _ {K X : Type 0} {R : K → K → Ordering} (o : IsTotalOrder R) where
  below_at : (x : K) (es : List (K × X)) → T (below_all R x es) → (i : ℕ) (d : K × X) → i < length es → R x (get_or es i d).0 ≡ Less
  below_at x [] h i d l = absurd (omega arith)
  below_at x (e ∷ es) h zero d l = less _ (first _ _ h)
  below_at x (e ∷ es) h (suc i) d l = below_at x es (second _ _ h) i d (omega arith)

  -- the keys rise
  pub rises : (es : List (K × X)) → T (is_sorted R es) → (i j : ℕ) (d : K × X) → i < j → j < length es → R (get_or es i d).0 (get_or es j d).0 ≡ Less
  rises [] h i j d l m = absurd (omega arith)
  rises (e ∷ es) h zero zero d l m = absurd (omega arith)
  rises (e ∷ es) h zero (suc j) d l m = below_at e.0 es (first _ _ h) j d (omega arith)
  rises (e ∷ es) h (suc i) zero d l m = absurd (omega arith)
  rises (e ∷ es) h (suc i) (suc j) d l m = rises es (second _ _ h) i j d (omega arith) (omega arith)

  pub at_place : (es : List (K × X)) → T (is_sorted R es) → (q : K) (i : ℕ) → i < length es → ((d : K × X) → (get_or es i d).0 ≡ q) → IsAt R es q i
  at_place es h q i l key = record {
    in_range = l;
    has_key = key;
    before = λ j d m. subst (λ k. R k (get_or es j d).0 ≡ Greater) (key d) (turned o _ _ (rises es h j i d m l));
    after = λ j d m n. subst (λ k. R k (get_or es j d).0 ≡ Less) (key d) (rises es h i j d m n);
  }

  tail_at : (e : K × X) (es : List (K × X)) (q : K) (i : ℕ) → IsAt R (e ∷ es) q (suc i) → IsAt R es q i
  tail_at e es q i a = record {
    in_range = omega (arith, a.in_range);
    has_key = λ d. a.has_key d;
    before = λ j d l. a.before (suc j) d (omega arith);
    after = λ j d l m. a.after (suc j) d (omega arith) (omega arith);
  }

  tail_gap : (e : K × X) (es : List (K × X)) (q : K) (i : ℕ) → IsGap R (e ∷ es) q (suc i) → IsGap R es q i
  tail_gap e es q i a = record {
    in_range = omega (arith, a.in_range);
    before = λ j d l. a.before (suc j) d (omega arith);
    after = λ j d l m. a.after (suc j) d (omega arith) (omega arith);
  }

  pub find_at : (es : List (K × X)) (q : K) (i : ℕ) → IsAt R es q i → (d : K × X) → find R q es ≡ Some (get_or es i d).1
  find_at [] q i a d = absurd (omega (arith, a.in_range))
  find_at (e ∷ es) q zero a d = ap (λ r. cond (is_eq r) (Some e.1) (find R q es)) (equal_at o q e.0 (a.has_key d))
  find_at (e ∷ es) q (suc i) a d = ap (λ r. cond (is_eq r) (Some e.1) (find R q es)) (a.before 0 d (omega arith)) ∙ find_at es q i (tail_at e es q i a) d

  -- a key that no place has
  no_find : (es : List (K × X)) (q : K) → ((j : ℕ) (d : K × X) → j < length es → is_eq (R q (get_or es j d).0) ≡ false) → find R q es ≡ None
  no_find [] q h = refl
  no_find (e ∷ es) q h = ap (λ b. cond b (Some e.1) (find R q es)) (h 0 e (omega arith)) ∙ no_find es q (λ j d l. h (suc j) d (omega arith))

  pub find_gap : (es : List (K × X)) (q : K) (i : ℕ) → IsGap R es q i → find R q es ≡ None
  find_gap [] q i a = refl
  find_gap (e ∷ es) q zero a = no_find (e ∷ es) q (λ j d l. ap is_eq (a.after j d (omega arith) l))
  find_gap (e ∷ es) q (suc i) a = ap (λ r. cond (is_eq r) (Some e.1) (find R q es)) (a.before 0 e (omega arith)) ∙ find_gap es q i (tail_gap e es q i a)

  pub put_at : (es : List (K × X)) (q : K) (v : X) (i : ℕ) → IsAt R es q i → put R q v es ≡ set es i (q, v)
  put_at [] q v i a = absurd (omega (arith, a.in_range))
  put_at (e ∷ es) q v zero a = ap (λ r. by_order r ((q, v) ∷ e ∷ es) ((e.0, v) ∷ es) (e ∷ put R q v es)) (equal_at o q e.0 (a.has_key e)) ∙ ap (λ k. (k, v) ∷ es) (a.has_key e)
  put_at (e ∷ es) q v (suc i) a = ap (λ r. by_order r ((q, v) ∷ e ∷ es) ((e.0, v) ∷ es) (e ∷ put R q v es)) (a.before 0 e (omega arith)) ∙ ap (λ xs. e ∷ xs) (put_at es q v i (tail_at e es q i a))

  pub put_gap : (es : List (K × X)) (q : K) (v : X) (i : ℕ) → IsGap R es q i → put R q v es ≡ insert es i (q, v)
  put_gap [] q v zero a = refl
  put_gap [] q v (suc i) a = absurd (omega (arith, a.in_range))
  put_gap (e ∷ es) q v zero a = ap (λ r. by_order r ((q, v) ∷ e ∷ es) ((e.0, v) ∷ es) (e ∷ put R q v es)) (a.after 0 e (omega arith) (omega arith))
  put_gap (e ∷ es) q v (suc i) a = ap (λ r. by_order r ((q, v) ∷ e ∷ es) ((e.0, v) ∷ es) (e ∷ put R q v es)) (a.before 0 e (omega arith)) ∙ ap (λ xs. e ∷ xs) (put_gap es q v i (tail_gap e es q i a))

  keep_all : (es : List (K × X)) (q : K) → ((j : ℕ) (d : K × X) → j < length es → is_eq (R q (get_or es j d).0) ≡ false) → where_key R (others R q) es ≡ es
  keep_all [] q h = refl
  keep_all (e ∷ es) q h = ap (λ b. cond (not b) (e ∷ where_key R (others R q) es) (where_key R (others R q) es)) (h 0 e (omega arith)) ∙ ap (λ xs. e ∷ xs) (keep_all es q (λ j d l. h (suc j) d (omega arith)))

  pub where_at : (es : List (K × X)) (q : K) (i : ℕ) → IsAt R es q i → where_key R (others R q) es ≡ remove es i
  where_at [] q i a = absurd (omega (arith, a.in_range))
  where_at (e ∷ es) q zero a = ap (λ r. cond (not (is_eq r)) (e ∷ where_key R (others R q) es) (where_key R (others R q) es)) (equal_at o q e.0 (a.has_key e))
      ∙ keep_all es q (λ j d l. ap is_eq (a.after (suc j) d (omega arith) (omega arith)))
  where_at (e ∷ es) q (suc i) a = ap (λ r. cond (not (is_eq r)) (e ∷ where_key R (others R q) es) (where_key R (others R q) es)) (a.before 0 e (omega arith))
      ∙ ap (λ xs. e ∷ xs) (where_at es q i (tail_at e es q i a))

  -- the same of the map
  module _ (exact : IsAntisymmetric R) where
    map_put : (es fs : List (K × X)) → T (is_sorted R es) → T (is_sorted R fs) → (q : K) (v : X) → put R q v es ≡ fs → from_sorted {R = R} fs ≡ m.insert (from_sorted es) q v
    map_put es fs h k q v e = same_map o exact _ _ (λ x. get-from_sorted R fs x k ∙ ap (find R x) (sym e) ∙ find-put R o x q v es
        ∙ ap (cond (eq_by_cmp R x q) (Some v)) (sym (get-from_sorted R es x h)) ∙ sym (get-insert o (from_sorted es) q v x))

    pub sorted_at : (es : List (K × X)) → T (is_sorted R es) → (q : K) (v : X) (i : ℕ) → IsAt R es q i → T (is_sorted R (set es i (q, v)))
    sorted_at es h q v i a = subst (λ xs. T (is_sorted R xs)) (put_at es q v i a) (is_sorted-put R o q v es h)

    pub sorted_gap : (es : List (K × X)) → T (is_sorted R es) → (q : K) (v : X) (i : ℕ) → IsGap R es q i → T (is_sorted R (insert es i (q, v)))
    sorted_gap es h q v i a = subst (λ xs. T (is_sorted R xs)) (put_gap es q v i a) (is_sorted-put R o q v es h)

    pub sorted_remove : (es : List (K × X)) → T (is_sorted R es) → (q : K) (i : ℕ) → IsAt R es q i → T (is_sorted R (remove es i))
    sorted_remove es h q i a = subst (λ xs. T (is_sorted R xs)) (where_at es q i a) (is_sorted-where_key R (others R q) es h)

    pub map_at : (es : List (K × X)) → T (is_sorted R es) → (q : K) (v : X) (i : ℕ) → IsAt R es q i → from_sorted {R = R} (set es i (q, v)) ≡ m.insert (from_sorted es) q v
    map_at es h q v i a = map_put es _ h (sorted_at es h q v i a) q v (put_at es q v i a)

    pub map_gap : (es : List (K × X)) → T (is_sorted R es) → (q : K) (v : X) (i : ℕ) → IsGap R es q i → from_sorted {R = R} (insert es i (q, v)) ≡ m.insert (from_sorted es) q v
    map_gap es h q v i a = map_put es _ h (sorted_gap es h q v i a) q v (put_gap es q v i a)

    flipped : (b : Bool) (x y : Option X) → cond (not b) x y ≡ cond b y x
    flipped true x y = refl
    flipped false x y = refl

    pub map_remove : (es : List (K × X)) → T (is_sorted R es) → (q : K) (i : ℕ) → IsAt R es q i → from_sorted {R = R} (remove es i) ≡ m.remove (from_sorted es) q
    map_remove es h q i a = same_map o exact _ _ (λ x. get-from_sorted R (remove es i) x (sorted_remove es h q i a) ∙ ap (find R x) (sym (where_at es q i a))
        ∙ find-where_key R (others R q) x (λ k e. ap (λ r. not (is_eq r)) (sym (alike_right o x k q e))) es ∙ flipped (eq_by_cmp R q x) _ _
        ∙ ap (λ b. cond b None (find R x es)) ((map_symm) q x) ∙ ap (cond (eq_by_cmp R x q) None) (sym (get-from_sorted R es x h)) ∙ sym (get-remove o (from_sorted es) q x))
      where
        map_symm : (x y : K) → eq_by_cmp R x y ≡ eq_by_cmp R y x
        map_symm x y = (eq_by_cmp_equiv o).symm x y

    pub get_at : (es : List (K × X)) → T (is_sorted R es) → (q : K) (i : ℕ) → IsAt R es q i → (d : K × X) → get (from_sorted {R = R} es) q ≡ Some (get_or es i d).1
    get_at es h q i a d = get-from_sorted R es q h ∙ find_at es q i a d

    pub place_itself : (es : List (K × X)) → T (is_sorted R es) → (i : ℕ) → i < length es → (d : K × X) → IsAt R es (get_or es i d).0 i
    place_itself es h i l d = at_place es h (get_or es i d).0 i l (λ e. ap (λ x. x.0) (get_or_default es i e d l))

    pub get_gap : (es : List (K × X)) → T (is_sorted R es) → (q : K) (i : ℕ) → IsGap R es q i → get (from_sorted {R = R} es) q ≡ None
    get_gap es h q i a = get-from_sorted R es q h ∙ find_gap es q i a

module _ {A K X : Type 0} {R : K → K → Ordering} (o : IsTotalOrder R) (exact : IsAntisymmetric R) (f : A → K × X) where
  -- what holds of each entry of an item holds at its place
  pub mapped_at : (P : K × X → Type 0) (items : List A) (i : ℕ) (d : K × X) → i < length items → ((a : A) → P (f (get_or items i a))) → P (get_or (map f items) i d)
  mapped_at P [] i d l h = absurd (omega arith)
  mapped_at P (x ∷ xs) zero d l h = h x
  mapped_at P (x ∷ xs) (suc i) d l h = mapped_at P xs i d (omega arith) h

  pub item_at : (P : K × X → Type 0) (items : List A) (i : ℕ) (a : A) → i < length items → ((d : K × X) → P (get_or (map f items) i d)) → P (f (get_or items i a))
  item_at P [] i a l h = absurd (omega arith)
  item_at P (x ∷ xs) zero a l h = h (f x)
  item_at P (x ∷ xs) (suc i) a l h = item_at P xs i a (omega arith) h

  pub less_at : (items : List A) → T (is_sorted R (map f items)) → (i j : ℕ) (a : A) → i < j → j < length items → R (f (get_or items i a)).0 (f (get_or items j a)).0 ≡ Less
  less_at items h i j a m l =
      let n : j < length (map f items) = omega (arith, length-map items f) in
      item_at (λ x. R x.0 (f (get_or items j a)).0 ≡ Less) items i a (omega arith) (λ d.
      item_at (λ y. R (get_or (map f items) i d).0 y.0 ≡ Less) items j a l (λ e. subst (λ z. R z.0 (get_or (map f items) j e).0 ≡ Less) (get_or_default (map f items) i e d (omega arith))
      (rises o (map f items) h i j e m n)))

  -- what a binary search asks
  comparisons_rise : (items : List A) → T (is_sorted R (map f items)) → (q : K) → IsNonDecreasingBy (λ a. ordering_index (R (f a).0 q)) items
  comparisons_rise items h q = searchable_from_sorted o (λ a. (f a).0) items q (λ k d z l. ap is_lt (turned o _ _ (less_at items h k (k + 1) d (omega arith) l)))

  -- what a binary search answers
  pub searched : (items : List A) → T (is_sorted R (map f items)) → (q : K) (r : Result ℕ ℕ) → IsSearchInRange r (length items) → IsBinarySearchResult (λ a. R (f a).0 q) items r
      → MatchResult r (IsAt R (map f items) q) (IsGap R (map f items) q)
  searched items h q (Ok i) l e =
      let n : i < length (map f items) = omega (arith, l, length-map items f) in
      at_place o (map f items) h q i n (λ d. mapped_at (λ x. x.0 ≡ q) items i d l (λ a. exact (f (get_or items i a)).0 q (e a)))
  searched items h q (Err i) l e =
      let parted = e (comparisons_rise items h q) in
      record {
        in_range = omega (arith, l, length-map items f);
        before = λ j d m. mapped_at (λ x. R q x.0 ≡ Greater) items j d (omega (arith, l)) (λ a. turned o _ _ (parted.0 j a (omega arith) m));
        after = λ j d m n. mapped_at (λ x. R q x.0 ≡ Less) items j d (omega (arith, length-map items f)) (λ a. turned_back o _ _ (parted.1 j a m (omega (arith, length-map items f))));
      }

  -- what is read, written, put in and taken out at a place
  pub item_get : (items : List A) → T (is_sorted R (map f items)) → (q : K) (i : ℕ) (a : A) → IsAt R (map f items) q i → a ≡ get_or items i a → get (from_sorted {R = R} (map f items)) q ≡ Some (f a).1
  item_get items h q i a p e =
      let l : i < length items = omega (arith, p.in_range, length-map items f) in
      get_at o exact (map f items) h q i p (f a) ∙ ap (λ x. Some x.1) (get_or-map f items i a (f a) l ∙ ap f (sym e))

  pub item_key : (items : List A) (q : K) (i : ℕ) (a : A) → IsAt R (map f items) q i → a ≡ get_or items i a → (f a).0 ≡ q
  item_key items q i a p e =
      let l : i < length items = omega (arith, p.in_range, length-map items f) in
      ap (λ x. (f x).0) e ∙ ap (λ x. x.0) (sym (get_or-map f items i a (f a) l)) ∙ p.has_key (f a)

  set_is : (items : List A) (q : K) (i : ℕ) (y : A) → (f y).0 ≡ q → map f (set items i y) ≡ set (map f items) i (q, (f y).1)
  set_is items q i y e = map-set f items i y ∙ ap (λ k. set (map f items) i (k, (f y).1)) e

  pub item_set : (items : List A) → T (is_sorted R (map f items)) → (q : K) (i : ℕ) (y : A) → IsAt R (map f items) q i → (f y).0 ≡ q
      → T (is_sorted R (map f (set items i y))) × (from_sorted {R = R} (map f (set items i y)) ≡ m.insert (from_sorted (map f items)) q (f y).1)
  item_set items h q i y p e = (
    subst (λ es. T (is_sorted R es)) (sym (set_is items q i y e)) (sorted_at o exact (map f items) h q (f y).1 i p),
    ap from_sorted (set_is items q i y e) ∙ map_at o exact (map f items) h q (f y).1 i p,
  )

  insert_is : (items : List A) (q : K) (i : ℕ) (y : A) → (f y).0 ≡ q → map f (insert items i y) ≡ insert (map f items) i (q, (f y).1)
  insert_is items q i y e = map-append f (take i items) (y ∷ drop i items) ∙ (λ j. sym (take-map f i items) j ++ (e j, (f y).1) ∷ sym (drop-map f i items) j)

  pub item_insert : (items : List A) → T (is_sorted R (map f items)) → (q : K) (i : ℕ) (y : A) → IsGap R (map f items) q i → (f y).0 ≡ q
      → T (is_sorted R (map f (insert items i y))) × (from_sorted {R = R} (map f (insert items i y)) ≡ m.insert (from_sorted (map f items)) q (f y).1)
  item_insert items h q i y p e = (
    subst (λ es. T (is_sorted R es)) (sym (insert_is items q i y e)) (sorted_gap o exact (map f items) h q (f y).1 i p),
    ap from_sorted (insert_is items q i y e) ∙ map_gap o exact (map f items) h q (f y).1 i p,
  )

  remove_is : (items : List A) (i : ℕ) → map f (remove items i) ≡ remove (map f items) i
  remove_is items i = map-append f (take i items) (drop (suc i) items) ∙ (λ j. sym (take-map f i items) j ++ sym (drop-map f (suc i) items) j)

  pub item_remove : (items : List A) → T (is_sorted R (map f items)) → (q : K) (i : ℕ) → IsAt R (map f items) q i
      → T (is_sorted R (map f (remove items i))) × (from_sorted {R = R} (map f (remove items i)) ≡ m.remove (from_sorted (map f items)) q)
  item_remove items h q i p = (
    subst (λ es. T (is_sorted R es)) (sym (remove_is items i)) (sorted_remove o exact (map f items) h q i p),
    ap from_sorted (remove_is items i) ∙ map_remove o exact (map f items) h q i p,
  )

  -- the entry at a place
  pub item_entry : (items : List A) → T (is_sorted R (map f items)) → (i : ℕ) (a : A) → i < length items → a ≡ get_or items i a → slice_get (m.entries (from_sorted {R = R} (map f items))) i ≡ Some (f a)
  item_entry items h i a l e =
      ap (λ es. slice_get es i) (entries-from_sorted R (map f items) h) ∙ slice_get-get_or (map f items) i (f a) (omega (arith, length-map items f)) ∙ ap Some (get_or-map f items i a (f a) l ∙ ap f (sym e))

  pub item_len : (items : List A) → T (is_sorted R (map f items)) → m.len (from_sorted {R = R} (map f items)) ≡ length items
  item_len items h = m.len-entries (from_sorted (map f items)) ∙ ap length (entries-from_sorted R (map f items) h) ∙ length-map items f

  -- the items whose keys pass
  filter_is : (p : K → Bool) (items : List A) → map f (filter (λ a. p (f a).0) items) ≡ where_key R p (map f items)
  filter_is p [] = refl
  filter_is p (x ∷ xs) = elim (p (f x).0) as (λ b. map f (cond b (x ∷ filter (λ a. p (f a).0) xs) (filter (λ a. p (f a).0) xs)) ≡ cond b (f x ∷ where_key R p (map f xs)) (where_key R p (map f xs))) [
    | true ↦ ap (λ es. f x ∷ es) (filter_is p xs)
    | false ↦ filter_is p xs
  ]

  pub item_filter : (items : List A) → T (is_sorted R (map f items)) → (p : K → Bool)
      → T (is_sorted R (map f (filter (λ a. p (f a).0) items))) × (from_sorted {R = R} (map f (filter (λ a. p (f a).0) items)) ≡ m.retain_keys (from_sorted (map f items)) p)
  item_filter items h p =
      let sorted = subst (λ es. T (is_sorted R es)) (sym (filter_is p items)) (is_sorted-where_key R p (map f items) h) in
      let alike : (q x : K) → R q x ≡ Equal → p x ≡ p q = λ q x e. ap p (sym (exact q x e)) in (
        sorted,
        same_map o exact _ _ (λ q. get-from_sorted R _ q sorted ∙ ap (find R q) (filter_is p items) ∙ find-where_key R p q (alike q) (map f items)
            ∙ ap (λ v. cond (p q) v None) (sym (get-from_sorted R (map f items) q h)) ∙ sym (m.get-retain_keys (from_sorted (map f items)) p q (alike q))),
      )

-- the key at a place of the map
pub key_at_place : {K X : Type 0} {R : K → K → Ordering} (es : List (K × X)) → T (is_sorted R es) → (q : K) (i : ℕ) → IsAt R es q i → slice_get (m.keys (from_sorted {R = R} es)) i ≡ Some q
key_at_place [] h q i p = absurd (omega (arith, p.in_range))
key_at_place {R = R} (e ∷ es) h q i p =
    ap (λ xs. slice_get (map (λ x. x.0) xs) i) (entries-from_sorted R (e ∷ es) h)
    ∙ slice_get-get_or (map (λ x. x.0) (e ∷ es)) i q (omega (arith, p.in_range, length-map es (λ x. x.0)))
    ∙ ap Some (get_or-map (λ x. x.0) (e ∷ es) i e q p.in_range ∙ p.has_key e)

-- the value at the key of a place
pub value_at_place : {K X : Type 0} {R : K → K → Ordering} (o : IsTotalOrder R) (map : m.FinMap R X) (i : ℕ) (e : K × X) → slice_get (m.entries map) i ≡ Some e → m.get map e.0 ≡ Some e.1
value_at_place o map i e is =
    let at = at_place o (m.entries map) (m.entries_sorted map) e.0 i (slice_get_within (m.entries map) i e is) (λ d. ap (λ x. x.0) (get_or_from_slice_get (m.entries map) i e d is)) in
    m.get-entries map e.0 ∙ find_at o (m.entries map) e.0 i at e ∙ ap (λ x. Some x.1) (get_or_from_slice_get (m.entries map) i e e is)

-- whether keys rise is told by the keys alone
module _ {K : Type 0} (R : K → K → Ordering) where
  keys_below : K → List K → Bool
  keys_below k [] = true
  keys_below k (x ∷ xs) = is_lt (R k x) && keys_below k xs

  keys_rise : List K → Bool
  keys_rise [] = true
  keys_rise (x ∷ xs) = keys_below x xs && keys_rise xs

  below_by_keys : {Z : Type 0} (k : K) (gs : List (K × Z)) → below_all R k gs ≡ keys_below k (map (λ g. g.0) gs)
  unfolding keys_below
  below_by_keys k [] = refl
  below_by_keys k (g ∷ gs) = ap (λ b. is_lt (R k g.0) && b) (below_by_keys k gs)

  rise_by_keys : {Z : Type 0} (gs : List (K × Z)) → is_sorted R gs ≡ keys_rise (map (λ g. g.0) gs)
  unfolding keys_rise
  rise_by_keys [] = refl
  rise_by_keys (g ∷ gs) = ap (λ b. b && is_sorted R gs) (below_by_keys g.0 gs) ∙ ap (λ b. keys_below g.0 (map (λ h. h.0) gs) && b) (rise_by_keys gs)

  pub same_rise : {X Y : Type 0} (es : List (K × X)) (fs : List (K × Y)) → map (λ e. e.0) es ≡ map (λ f. f.0) fs → T (is_sorted R es) → T (is_sorted R fs)
  same_rise es fs same h = subst T (rise_by_keys es ∙ ap keys_rise same ∙ sym (rise_by_keys fs)) h

map_itself : {A : Type 0} (xs : List A) → map (λ x. x) xs ≡ xs
map_itself [] = refl
map_itself (x ∷ xs) = ap (λ ys. x ∷ ys) (map_itself xs)

-- the same where the items are the entries
pub searched_pairs : {K X : Type 0} {R : K → K → Ordering} (o : IsTotalOrder R) (exact : IsAntisymmetric R) (es : List (K × X)) → T (is_sorted R es) → (q : K) (r : Result ℕ ℕ) → IsSearchInRange r (length es) → IsBinarySearchResult (λ e. R e.0 q) es r
    → MatchResult r (IsAt R es q) (IsGap R es q)
searched_pairs {R = R} o exact es h q r bound by_key =
    subst (λ xs. MatchResult r (IsAt R xs q) (IsGap R xs q)) (map_itself es) (searched o exact (λ e. e) es (subst (λ xs. T (is_sorted R xs)) (sym (map_itself es)) h) q r bound by_key)
