-- A sweep of entries whose rows stand one behind another.
use Rattle.std.proofs.Common.{◌≡◌, ℕ, ◌+◌, ◌-◌, ◌<◌, ◌≤◌, Bool, true, false, cond, List, [], ◌∷◌, ◌++◌, length, get_or, map, set, take, drop, refl, sym, ap, subst, append_assoc, ◌∙◌, arith}
use Rattle.std.specs.List.{filter, copy_within}
use Rattle.std.proofs.Math.Seq.{paste, drop-append_seam}
use Rattle.std.proofs.lemmas.List.{append-nil, length-drop, length-set, length-take-le, map-append, map_more, take-append-drop, take-append-le, take-take, drop-take, drop-drop, take_all, take_more_set, drop_more, drop-set-lt}
use Rattle.std.proofs.lemmas.List.Edits.{length-paste, take-paste, drop-paste}
use Rattle.std.proofs.lemmas.List.Elements.{filter-append}
use Rattle.orca_names.specs.declared.names.Thing.{Thing}
use Rattle.orca_names.specs.declared.names.Value.{Value}
use Rattle.row_store.specs.Told.{Lying}
use Rattle.foreign_table.specs.declared.search.Entry.{Entry}
use Rattle.foreign_table.specs.Entry.{FollowFrom, block_in, len_of, lying_of, pair_of}

-- of the first entries those that stay stand in front, as their values do; behind these all is as it was
pub record SweptTo (stays : Thing × (ℕ × Lying) → Bool) (es : List Entry) (vs : List Value) (held : List Entry) (values : List Value) (kept kept_values i : ℕ) : Type 0 where
  pub pairs : map (pair_of values) (take kept held) ≡ filter stays (map (pair_of vs) (take i es))
  pub follow : FollowFrom 0 (take kept held) kept_values
  pub place : ℕ
  pub behind : kept ≤ i
  pub values_behind : kept_values ≤ place
  pub rest : drop i held ≡ drop i es
  pub rest_follows : FollowFrom place (drop i es) (length vs)
  pub rest_values : drop place values ≡ drop place vs
  pub long : length held ≡ length es
  pub values_long : length values ≡ length vs

-- ---- rows one behind another

pub follow_le : (es : List Entry) (a b : ℕ) → FollowFrom a es b → a ≤ b
follow_le [] a b f = omega (arith, f)
follow_le (e ∷ es) a b f = omega (arith, follow_le es (a + len_of e) b f.2)

pub follow_more : (es : List Entry) (a b : ℕ) (y : Entry) → FollowFrom a es b → y.first ≡ b → len_of y ≤ 8 → FollowFrom a (es ++ y ∷ []) (b + len_of y)
follow_more [] a b y f is few = (is ∙ sym f, few, ap (λ n. n + len_of y) f)
follow_more (e ∷ es) a b y f is few = (f.0, f.1, follow_more es (a + len_of e) b y f.2 is few)

-- a row where the values up to its end are the same
row_same : (vs ws : List Value) (first n end : ℕ) → first + n ≤ end → take end vs ≡ take end ws → take n (drop first vs) ≡ take n (drop first ws)
row_same vs ws first n end l same =
    sym (drop-take first n vs) ∙ ap (drop first) (sym (take-take (first + n) end vs l) ∙ ap (take (first + n)) same ∙ take-take (first + n) end ws l) ∙ drop-take first n ws

pub pairs_same : (es : List Entry) (vs ws : List Value) (a end : ℕ) → FollowFrom a es end → take end vs ≡ take end ws → map (pair_of vs) es ≡ map (pair_of ws) es
pairs_same [] vs ws a end f same = refl
pairs_same (e ∷ es) vs ws a end f same =
    let l : e.first + len_of e ≤ end = omega (arith, f.0, follow_le es (a + len_of e) end f.2) in
    λ j. (e.thing, (e.count, lying_of (row_same vs ws e.first (len_of e) end l same j) (block_in e.place))) ∷ pairs_same es vs ws (a + len_of e) end f.2 same j

-- ---- values that go to stand before their place
module _ (vs : List Value) (first n to : ℕ) (l : to ≤ first) (m : first + n ≤ length vs) where
  size : first + n - first ≡ n
  size = omega arith

  moved_is : copy_within vs first (first + n) to ≡ paste vs to (drop first vs) n
  moved_is = ap (paste vs to (drop first vs)) size

  fits : n ≤ length (drop first vs)
  fits = omega (arith, length-drop first vs)

  put : take (to + n) (copy_within vs first (first + n) to) ≡ take to vs ++ take n (drop first vs)
  put = ap (take (to + n)) moved_is ∙ take-paste vs to (drop first vs) n (omega arith) fits

  pub moved_front : take to (copy_within vs first (first + n) to) ≡ take to vs
  moved_front = sym (take-take to (to + n) (copy_within vs first (first + n) to) (omega arith)) ∙ ap (take to) put ∙ take-append-le to (take to vs) (take n (drop first vs)) (omega (arith, length-take-le to vs (omega arith)))
      ∙ take-take to to vs (omega arith)

  pub moved_row : take n (drop to (copy_within vs first (first + n) to)) ≡ take n (drop first vs)
  moved_row = sym (drop-take to n (copy_within vs first (first + n) to)) ∙ ap (drop to) put
      ∙ ap (λ m. drop m (take to vs ++ take n (drop first vs))) (sym (length-take-le to vs (omega arith))) ∙ drop-append_seam (take to vs) (take n (drop first vs))

  pub moved_rest : drop (first + n) (copy_within vs first (first + n) to) ≡ drop (first + n) vs
  moved_rest =
      let size : to + n + (first - to) ≡ first + n = omega arith in
      ap (λ m. drop m (copy_within vs first (first + n) to)) (sym size) ∙ sym (drop-drop (first - to) (to + n) (copy_within vs first (first + n) to))
      ∙ ap (drop (first - to)) (ap (drop (to + n)) moved_is ∙ drop-paste vs to (drop first vs) n (omega arith) fits) ∙ drop-drop (first - to) (to + n) vs ∙ ap (λ m. drop m vs) size

  pub moved_long : length (copy_within vs first (first + n) to) ≡ length vs
  moved_long = ap length moved_is ∙ length-paste vs to (drop first vs) n (omega arith) fits

pub moved_nowhere : (vs : List Value) (first n : ℕ) → copy_within vs first (first + n) first ≡ vs
moved_nowhere vs first n =
    let k = first + n - first in
    append_assoc (take first vs) (take k (drop first vs)) (drop (first + k) vs) ∙ ap (λ ys. take first vs ++ (take k (drop first vs) ++ ys)) (sym (drop-drop k first vs)) ∙ ap (λ ys. take first vs ++ ys) (take-append-drop k (drop first vs)) ∙ take-append-drop first vs

pub SweptTo-start : (p : Thing × (ℕ × Lying) → Bool) (es : List Entry) (vs : List Value) → FollowFrom 0 es (length vs) → SweptTo p es vs es vs 0 0 0
SweptTo-start p es vs f = record { pairs = refl; follow = refl; place = 0; behind = omega arith; values_behind = omega arith; rest = refl; rest_follows = f; rest_values = refl; long = refl; values_long = refl }

module _ {p : Thing × (ℕ × Lying) → Bool} {es : List Entry} {vs : List Value} {held : List Entry} {values : List Value} {kept kept_values i : ℕ} (h : SweptTo p es vs held values kept kept_values i) where
  pub SweptTo-all : length es ≤ i → map (pair_of (take kept_values values)) (take kept held) ≡ filter p (map (pair_of vs) es)
  SweptTo-all l =
      pairs_same (take kept held) (take kept_values values) values 0 kept_values h.follow (take-take kept_values kept_values values (omega arith))
      ∙ h.pairs ∙ ap (λ xs. filter p (map (pair_of vs) xs)) (take_all i es l)

  within : kept_values ≤ length values
  within = omega (arith, h.values_behind, h.values_long, follow_le (drop i es) h.place (length vs) h.rest_follows)

  pub SweptTo-follow : FollowFrom 0 (take kept held) (length (take kept_values values))
  SweptTo-follow = subst (λ n. FollowFrom 0 (take kept held) n) (sym (length-take-le kept_values values within)) h.follow

  module _ (x : Entry) (l : i < length held) (is : x ≡ get_or held i x) where
    both : x ∷ drop (i + 1) held ≡ get_or es i x ∷ drop (i + 1) es
    both = ap (λ y. y ∷ drop (i + 1) held) is ∙ sym (drop_more held i x l) ∙ h.rest ∙ drop_more es i x (omega (arith, h.long))

    here : get_or es i x ≡ x
    here = sym (ap (λ xs. get_or xs 0 x) both)

    from_here : FollowFrom h.place (x ∷ drop (i + 1) es) (length vs)
    from_here = subst (λ xs. FollowFrom h.place xs (length vs)) (drop_more es i x (omega (arith, h.long)) ∙ ap (λ y. y ∷ drop (i + 1) es) here) h.rest_follows

    pub begins : x.first ≡ h.place
    begins = from_here.0

    ends : h.place + len_of x ≤ length vs
    ends = follow_le (drop (i + 1) es) (h.place + len_of x) (length vs) from_here.2

    pub row_within : x.first + len_of x ≤ length values
    row_within = omega (arith, begins, ends, h.values_long)

    pub row_behind : kept_values ≤ x.first
    row_behind = omega (arith, begins, h.values_behind)

    filtered : {b : Bool} → p (pair_of vs x) ≡ b → filter p (map (pair_of vs) (take (i + 1) es)) ≡ map (pair_of values) (take kept held) ++ cond b (pair_of vs x ∷ []) []
    filtered {b} e =
        ap (filter p) (map_more (pair_of vs) es i x (omega (arith, h.long)))
        ∙ filter-append p (map (pair_of vs) (take i es)) (pair_of vs (get_or es i x) ∷ [])
        ∙ (λ j. sym h.pairs j ++ cond (p (pair_of vs (here j))) (pair_of vs (here j) ∷ []) []) ∙ ap (λ b. map (pair_of values) (take kept held) ++ cond b (pair_of vs x ∷ []) []) e

    later_values : drop (h.place + len_of x) values ≡ drop (h.place + len_of x) vs
    later_values = sym (drop-drop (len_of x) h.place values) ∙ ap (drop (len_of x)) h.rest_values ∙ drop-drop (len_of x) h.place vs

    pub SweptTo-no : p (pair_of vs x) ≡ false → SweptTo p es vs held values kept kept_values (i + 1)
    SweptTo-no e = record {
      pairs = sym (filtered e ∙ append-nil (map (pair_of values) (take kept held)));
      follow = h.follow;
      place = h.place + len_of x;
      behind = omega (arith, h.behind);
      values_behind = omega (arith, h.values_behind);
      rest = ap (drop 1) both;
      rest_follows = from_here.2;
      rest_values = later_values;
      long = h.long;
      values_long = h.values_long;
    }

    module _ (now : List Entry) (after : List Value) (put : (d : Entry) → now ≡ set held kept (record (get_or held i d) { first = kept_values }))
        (moved : after ≡ copy_within values x.first (x.first + len_of x) kept_values) where
      abbrev y : Entry
      y = record x { first = kept_values }

      now_is : now ≡ set held kept y
      now_is = put x ∙ ap (λ (e : Entry). set held kept (record e { first = kept_values })) (sym is)

      kept_one : take (kept + 1) now ≡ take kept held ++ y ∷ []
      kept_one = ap (take (kept + 1)) now_is ∙ take_more_set held kept y (omega (arith, h.behind))

      its_row : take (len_of x) (drop kept_values after) ≡ take (len_of x) (drop x.first vs)
      its_row = ap (λ ws. take (len_of x) (drop kept_values ws)) moved ∙ moved_row values x.first (len_of x) kept_values row_behind row_within
          ∙ ap (λ n. take (len_of x) (drop n values)) begins ∙ ap (take (len_of x)) h.rest_values ∙ ap (λ n. take (len_of x) (drop n vs)) (sym begins)

      its_pair : pair_of after y ≡ pair_of vs x
      its_pair = ap (λ row. (x.thing, (x.count, lying_of row (block_in x.place)))) its_row

      others : map (pair_of after) (take kept held) ≡ map (pair_of values) (take kept held)
      others = pairs_same (take kept held) after values 0 kept_values h.follow (ap (take kept_values) moved ∙ moved_front values x.first (len_of x) kept_values row_behind row_within)

      pub SweptTo-yes : p (pair_of vs x) ≡ true → SweptTo p es vs now after (kept + 1) (kept_values + len_of x) (i + 1)
      SweptTo-yes e = record {
        pairs = ap (map (pair_of after)) kept_one ∙ map-append (pair_of after) (take kept held) (y ∷ []) ∙ (λ j. others j ++ its_pair j ∷ []) ∙ sym (filtered e);
        follow = subst (λ xs. FollowFrom 0 xs (kept_values + len_of x)) (sym kept_one) (follow_more (take kept held) 0 kept_values y h.follow refl from_here.1);
        place = h.place + len_of x;
        behind = omega (arith, h.behind);
        values_behind = omega (arith, h.values_behind);
        rest = ap (drop (i + 1)) now_is ∙ drop-set-lt (i + 1) held kept y (omega (arith, h.behind)) ∙ ap (drop 1) both;
        rest_follows = from_here.2;
        rest_values = ap (drop (h.place + len_of x)) moved ∙ ap (λ n. drop (n + len_of x) (copy_within values x.first (x.first + len_of x) kept_values)) (sym begins) ∙ moved_rest values x.first (len_of x) kept_values row_behind row_within
            ∙ ap (λ n. drop (n + len_of x) values) begins ∙ later_values;
        long = ap length now_is ∙ length-set held kept y ∙ h.long;
        values_long = ap length moved ∙ moved_long values x.first (len_of x) kept_values row_behind row_within ∙ h.values_long;
      }
