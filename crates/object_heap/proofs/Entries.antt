-- The entries of a heap, read and written.
use Rattle.std.proofs.Common.{◌≡◌, ℕ, ◌+◌, ◌<◌, ◌≤◌, inl, inr, true, false, not, Bool, cond, eqb, List, [], ◌∷◌, ◌++◌, length, get_or, map, set, slice_get, Option, Some, None, refl, sym, ap, subst, ◌∙◌, arith}
use Rattle.std.specs.Prelude.{T, is_some, option_map}
use Rattle.std.specs.List.{remove, filter}
use Rattle.std.specs.Ordering.{nat_cmp, eq_by_cmp}
use Rattle.std.specs.Cmp.{nat_cmp_total}
use Rattle.std.specs.FinMap as m
use Rattle.std.specs.FinMap.{nat_cmp-IsAntisymmetric, get-insert, get-remove}
use Rattle.std.specs.FinMap.Entries.{is_sorted}
use Rattle.std.proofs.lemmas.Bool.{cases_lt, false≢true, eq-eqb, eqb-true, not-false}
use Rattle.std.proofs.lemmas.Bool.Decides.{nat_tests}
use Rattle.std.proofs.lemmas.List.{get_or-map, length-map}
use Rattle.std.proofs.lemmas.List.Edits.{insert_end}
use Rattle.letter_kinds.specs.Counting.{with_row_count}
use Rattle.letter_kinds.specs.Holdings.{OwnRows, Row, row_count, add_rows}
use Rattle.orca_names.specs.declared.names.ObjName.{ObjName}
use Rattle.plain_list.specs.Rising.{IsAt, IsGap}
use Rattle.plain_list.proofs.Rising.{key_at_place, get_at, get_gap, item_len, item_entry, place_itself, item_get, item_key, item_set, item_insert, item_remove, item_filter}
use Rattle.object_heap.specs.Entry.{Own, pair_of}
use Rattle.object_heap.specs.Free.{stays}
use Rattle.object_heap.specs.Heap.{Heap, AreOwn, rows_in, own_row}

-- a place is within the list
pub place_within : (es : List Own) (k i : ℕ) → IsAt nat_cmp (map pair_of es) k i → i < length es
place_within es k i p = omega (arith, p.in_range, length-map es pair_of)

module _ (next : ℕ) (es : List Own) (h : AreOwn next es) where
  pub value_at : (k i : ℕ) (e : Own) → IsAt nat_cmp (map pair_of es) k i → e ≡ get_or es i e → m.get (rows_in es) k ≡ Some (e.row, e.count)
  value_at k i e p is = item_get nat_cmp_total nat_cmp-IsAntisymmetric pair_of es h.sorted k i e p is

  pub none_at : (k i : ℕ) → IsGap nat_cmp (map pair_of es) k i → m.get (rows_in es) k ≡ None
  none_at k i p = get_gap nat_cmp_total nat_cmp-IsAntisymmetric (map pair_of es) h.sorted k i p

  pub key_here : (k i : ℕ) → IsAt nat_cmp (map pair_of es) k i → slice_get (m.keys (rows_in es)) i ≡ Some k
  key_here k i p = key_at_place (map pair_of es) h.sorted k i p

  pub len_here : m.len (rows_in es) ≡ length es
  len_here = item_len nat_cmp_total nat_cmp-IsAntisymmetric pair_of es h.sorted

  pub entry_here : (i : ℕ) (e : Own) → i < length es → e ≡ get_or es i e → slice_get (m.entries (rows_in es)) i ≡ Some (pair_of e)
  entry_here i e l is = item_entry nat_cmp_total nat_cmp-IsAntisymmetric pair_of es h.sorted i e l is

  pub is_there : (k i : ℕ) → IsAt nat_cmp (map pair_of es) k i → is_some (m.get (rows_in es) k) ≡ true
  is_there k i p = ap is_some (get_at nat_cmp_total nat_cmp-IsAntisymmetric (map pair_of es) h.sorted k i p (k, ([], 0)))

  there : (k i : ℕ) → IsAt nat_cmp (map pair_of es) k i → k < next
  there k i p = elim (cases_lt k next) as (λ _. k < next) [
    | inl l ↦ l
    | inr l ↦ absurd (false≢true (ap is_some (sym (h.below k l)) ∙ is_there k i p))
  ]

  below_key : (j : ℕ) (d : ℕ × (Row × ℕ)) → j < length (map pair_of es) → (get_or (map pair_of es) j d).0 < next
  below_key j d l = elim (cases_lt (get_or (map pair_of es) j d).0 next) as (λ _. (get_or (map pair_of es) j d).0 < next) [
    | inl m ↦ m
    | inr m ↦ absurd (false≢true (ap is_some (sym (h.below _ m) ∙ get_at nat_cmp_total nat_cmp-IsAntisymmetric (map pair_of es) h.sorted _ j (place_itself nat_cmp_total nat_cmp-IsAntisymmetric (map pair_of es) h.sorted j l d) d)))
  ]

  -- each serial is below the next one
  pub below_next : (j : ℕ) (d : Own) → j < length es → (get_or es j d).serial < next
  below_next j d l = subst (λ e. e.0 < next) (get_or-map pair_of es j d (pair_of d) l) (below_key j (pair_of d) (omega (arith, length-map es pair_of)))

after_insert : (rows : OwnRows) (k q next : ℕ) (v : Row × ℕ) → k < next → next ≤ q → m.get rows q ≡ None → m.get (m.insert rows k v) q ≡ None
after_insert rows k q next v l le e = get-insert nat_cmp_total rows k v q ∙ ap (λ b. cond b (Some v) (m.get rows q)) apart ∙ e
  where
    apart : eq_by_cmp nat_cmp q k ≡ false
    apart = grind (arith, nat_tests)

-- a count is changed
module _ (next : ℕ) (es : List Own) (k i : ℕ) (e : Own) (h : AreOwn next es) (p : IsAt nat_cmp (map pair_of es) k i) (is : e ≡ get_or es i e) where
  pub count_there : row_count (m.get (rows_in es) k) ≡ e.count
  count_there = ap row_count (value_at next es h k i e p is)

  module _ (y : Own) (same : y.serial ≡ e.serial) where
    both_set : T (is_sorted nat_cmp (map pair_of (set es i y))) × (rows_in (set es i y) ≡ m.insert (rows_in es) k (y.row, y.count))
    both_set = item_set nat_cmp_total nat_cmp-IsAntisymmetric pair_of es h.sorted k i y p (same ∙ item_key nat_cmp_total nat_cmp-IsAntisymmetric pair_of es k i e p is)

    pub counted_own : AreOwn next (set es i y)
    counted_own = record {
      sorted = both_set.0;
      below = λ q l. ap (λ all. m.get all q) both_set.1 ∙ after_insert (rows_in es) k q next (y.row, y.count) (there next es h k i p) l (h.below q l);
    }

    -- its row stays
    pub counted_rows : e.row ≡ y.row → (f : ℕ → ℕ) → f e.count ≡ y.count → rows_in (set es i y) ≡ with_row_count (rows_in es) k f (m.get (rows_in es) k)
    counted_rows row f g = both_set.1 ∙ (λ j. m.insert (rows_in es) k (sym row j, sym g j)) ∙ ap (with_row_count (rows_in es) k f) (sym (value_at next es h k i e p is))

-- an object more
module _ (next : ℕ) (es : List Own) (own : Own) (h : AreOwn next es) (new : own.serial ≡ next) where
  pub gap : IsGap nat_cmp (map pair_of es) next (length es)
  gap = record {
    in_range = omega (arith, length-map es pair_of);
    before = λ j d l. let b = below_key next es h j d (omega (arith, length-map es pair_of)) in grind (arith, nat_tests);
    after = λ j d l n. absurd (omega (arith, length-map es pair_of));
  }

  both_made : T (is_sorted nat_cmp (map pair_of (es ++ own ∷ []))) × (rows_in (es ++ own ∷ []) ≡ m.insert (rows_in es) next (own.row, own.count))
  both_made = subst (λ items. T (is_sorted nat_cmp (map pair_of items)) × (rows_in items ≡ m.insert (rows_in es) next (own.row, own.count))) (insert_end es own)
      (item_insert nat_cmp_total nat_cmp-IsAntisymmetric pair_of es h.sorted next (length es) own gap new)

  pub made_rows : rows_in (es ++ own ∷ []) ≡ m.insert (rows_in es) next (own.row, own.count)
  made_rows = both_made.1

  pub made_own : AreOwn (next + 1) (es ++ own ∷ [])
  made_own = record {
    sorted = both_made.0;
    below = λ q l. ap (λ all. m.get all q) made_rows ∙ after_insert (rows_in es) next q (next + 1) (own.row, own.count) (omega arith) l (h.below q (omega arith));
  }

-- an object less
module _ (next : ℕ) (es : List Own) (k i : ℕ) (h : AreOwn next es) (p : IsAt nat_cmp (map pair_of es) k i) where
  both_less : T (is_sorted nat_cmp (map pair_of (remove es i))) × (rows_in (remove es i) ≡ m.remove (rows_in es) k)
  both_less = item_remove nat_cmp_total nat_cmp-IsAntisymmetric pair_of es h.sorted k i p

  none_either : (b : Bool) (all : OwnRows) (q : ℕ) → m.get all q ≡ None → cond b None (m.get all q) ≡ None
  none_either true all q e = refl
  none_either false all q e = e

  pub less_rows : rows_in (remove es i) ≡ m.remove (rows_in es) k
  less_rows = both_less.1

  pub less_own : AreOwn next (remove es i)
  less_own = record {
    sorted = both_less.0;
    below = λ q l. ap (λ all. m.get all q) less_rows ∙ get-remove nat_cmp_total (rows_in es) k q ∙ none_either _ (rows_in es) q (h.below q l);
  }

-- the objects that stay
module _ (next : ℕ) (es : List Own) (gone : List ObjName) (h : AreOwn next es) (left : List Own) (is : left ≡ filter (λ (e : Own). stays gone e.serial) es) where
  both_left : T (is_sorted nat_cmp (map pair_of (filter (λ (e : Own). stays gone e.serial) es))) × (rows_in (filter (λ (e : Own). stays gone e.serial) es) ≡ m.retain_keys (rows_in es) (stays gone))
  both_left = item_filter nat_cmp_total nat_cmp-IsAntisymmetric pair_of es h.sorted (stays gone)

  none_both : (b : Bool) (all : OwnRows) (q : ℕ) → m.get all q ≡ None → cond b (m.get all q) None ≡ None
  none_both true all q e = e
  none_both false all q e = refl

  pub stay_rows : rows_in left ≡ m.retain_keys (rows_in es) (stays gone)
  stay_rows = ap rows_in is ∙ both_left.1

  pub stay_own : AreOwn next left
  stay_own = record {
    sorted = subst (λ items. T (is_sorted nat_cmp (map pair_of items))) (sym is) both_left.0;
    below = λ q l. ap (λ all. m.get all q) stay_rows
        ∙ m.get-retain_keys (rows_in es) (stays gone) q (λ x e. ap (stays gone) (sym (nat_cmp-IsAntisymmetric q x e))) ∙ none_both (stays gone q) (rows_in es) q (h.below q l);
  }

pub no_rows : (es : List Own) → es ≡ [] → rows_in es ≡ m.empty
no_rows es e = ap rows_in e ∙ m.empty_of_len (rows_in []) (item_len nat_cmp_total nat_cmp-IsAntisymmetric pair_of [] tt)

pub no_own : (es : List Own) → es ≡ [] → AreOwn 0 es
no_own es e = record {
  sorted = subst (λ own. T (is_sorted nat_cmp (map pair_of own))) (sym e) tt;
  below = λ k l. ap (λ all. m.get all k) (no_rows es e) ∙ m.get-empty nat_cmp k;
}

-- ---- the row of a name

pub own_row_here : (h : Heap) (n : ObjName) (rows : OwnRows) (o : Option (Row × ℕ)) → rows ≡ h.rows → n.owner ≡ h.owner → m.get rows n.serial ≡ o → own_row h n ≡ option_map (λ e. e.0) o
own_row_here h n rows o same owner e = ap (λ b. cond b (option_map (λ x. x.0) (m.get h.rows n.serial)) None) (eq-eqb n.owner h.owner owner) ∙ ap (λ all. option_map (λ x. x.0) (m.get all n.serial)) (sym same) ∙ ap (option_map (λ x. x.0)) e

-- one new object
pub add_one : (next : ℕ) (row : Row) (all : OwnRows) → m.insert all next (row, 0) ≡ add_rows next (row ∷ []) all
unfolding add_rows
add_one next row all = refl

-- ---- tests

pub not_ne : (a b : ℕ) → not (eqb a b) ≡ false → a ≡ b
not_ne a b e = eqb-true a b (not-false (eqb a b) e)
