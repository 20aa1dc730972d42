-- Rows that stand one behind another, where values are put between them or taken out.
use Rattle.std.proofs.Common.{◌≡◌, ℕ, zero, suc, ◌+◌, ◌-◌, ◌<◌, ◌≤◌, List, [], ◌∷◌, ◌++◌, length, get_or, map, set, take, drop, refl, sym, ap, subst, ◌∙◌, arith}
use Rattle.std.specs.List.{insert, remove, sum_by}
use Rattle.std.proofs.lemmas.List.{append-nil, append_assoc, map-append, length-append, length-drop, length-take-le, take_all, take-take, take_at, drop-drop, drop_at, drop-take, drop_more, drop_all, drop-map, drop-set-lt, set_split, length-map, take_more, take_more_set}
use Rattle.std.specs.List.{take-map}
use Rattle.std.proofs.lemmas.List.Edits.{insert-append_right}
use Rattle.std.proofs.lemmas.List.Sums.{sum_by-cons}
use Rattle.orca_names.specs.declared.names.Value.{Value}
use Rattle.foreign_table.specs.declared.search.Entry.{Entry}
use Rattle.foreign_table.specs.Entry.{FollowFrom, block_in, len_of, lies_in, lined_up, lying_of, pair_of}

-- ---- lists around a place

pub next : (i : ℕ) → i + 1 ≡ suc i
next i = omega arith

pub up_to : {X : Type 0} (xs ys : List X) (y : X) (n : ℕ) → length xs ≡ n → take (suc n) (xs ++ y ∷ ys) ≡ xs ++ y ∷ []
up_to [] ys y zero e = refl
up_to [] ys y (suc n) e = absurd (omega (arith, e))
up_to (x ∷ xs) ys y zero e = absurd (omega (arith, e))
up_to (x ∷ xs) ys y (suc n) e = ap (λ zs. x ∷ zs) (up_to xs ys y n (omega (arith, e)))

pub past : {X : Type 0} (xs ys : List X) (y : X) (n : ℕ) → length xs ≡ n → drop (suc n) (xs ++ y ∷ ys) ≡ ys
past [] ys y zero e = refl
past [] ys y (suc n) e = absurd (omega (arith, e))
past (x ∷ xs) ys y zero e = absurd (omega (arith, e))
past (x ∷ xs) ys y (suc n) e = past xs ys y n (omega (arith, e))

-- one value more of a row is put
pub put_step : {X : Type 0} (front row back : List X) (first k place : ℕ) (x : X) → length front ≡ first → k < length row → x ≡ get_or row k x → place ≡ first + k
    → insert (front ++ (take k row ++ back)) place x ≡ front ++ (take (k + 1) row ++ back)
put_step front row back first k place x long l is at =
    let len : length (take k row) ≡ k = length-take-le k row (omega (arith, l)) in
    let here : place - first ≡ k = omega (arith, at) in
    insert-append_right front (take k row ++ back) first place x long (omega (arith, at)) ∙ ap (λ n. front ++ insert (take k row ++ back) n x) here
    ∙ ap (λ zs. front ++ zs) ((λ j. take_at (take k row) back k len j ++ x ∷ drop_at (take k row) back k len j) ∙ sym (append_assoc (take k row) (x ∷ []) back)
    ∙ ap (λ zs. zs ++ back) (ap (λ z. take k row ++ z ∷ []) is ∙ sym (take_more row k x l)))

-- a row in place of another, where that is taken out and this is put
pub swapped : {X : Type 0} (vs row : List X) (first len : ℕ) (ws us : List X) → first ≤ length vs → ws ≡ take first vs ++ drop (first + len) vs → us ≡ take first ws ++ (row ++ drop first ws)
    → us ≡ take first vs ++ (row ++ drop (first + len) vs)
swapped vs row first len ws us l taken put =
    let long = length-take-le first vs l in
    put ∙ (λ j. take first (taken j) ++ (row ++ drop first (taken j))) ∙ (λ j. take_at (take first vs) (drop (first + len) vs) first long j ++ (row ++ drop_at (take first vs) (drop (first + len) vs) first long j))

abbrev pub lengths : List Entry → ℕ
lengths es = sum_by len_of es

-- ---- from one place to another

pub all_of : (at end : ℕ) (es : List Entry) → FollowFrom at es end → at + lengths es ≡ end
all_of at end [] f = omega (arith, f)
all_of at end (e ∷ es) f = omega (arith, all_of (at + len_of e) end es f.2, sum_by-cons len_of e es)

pub joined : (at mid end : ℕ) (es fs : List Entry) → FollowFrom at es mid → FollowFrom mid fs end → FollowFrom at (es ++ fs) end
joined at mid end [] fs f g = subst (λ n. FollowFrom n fs end) (sym f) g
joined at mid end (e ∷ es) fs f g = (f.0, f.1, joined (at + len_of e) mid end es fs f.2 g)

pub parted : (at end i : ℕ) (es : List Entry) → FollowFrom at es end → (mid : ℕ) × FollowFrom at (take i es) mid × FollowFrom mid (drop i es) end
parted at end zero es f = (at, refl, f)
parted at end (suc i) [] f = (at, refl, f)
parted at end (suc i) (e ∷ es) f = let p = parted (at + len_of e) end i es f.2 in (p.0, (f.0, f.1, p.1), p.2)

pub none_follow : (es : List Entry) (vs : List Value) → es ≡ [] → vs ≡ [] → FollowFrom 0 es (length vs)
none_follow es vs e f = subst (λ xs. FollowFrom 0 xs (length vs)) (sym e) (sym (ap length f))

pub lined_follow : (at to end : ℕ) (es : List Entry) → FollowFrom at es end → FollowFrom to (lined_up to es) (to + lengths es)
lined_follow at to end [] f = omega arith
lined_follow at to end (e ∷ es) f =
    let sum : (to + len_of e) + lengths es ≡ to + lengths (e ∷ es) = omega (arith, sum_by-cons len_of e es) in
    (refl, f.1, subst (λ n. FollowFrom (to + len_of e) (lined_up (to + len_of e) es) n) sum (lined_follow (at + len_of e) (to + len_of e) end es f.2))

pub lined_same : (at end : ℕ) (es : List Entry) → FollowFrom at es end → lined_up at es ≡ es
lined_same at end [] f = refl
lined_same at end (e ∷ es) f = λ i. record e { first = sym f.0 i } ∷ lined_same (at + len_of e) end es f.2 i

-- ---- what entries say, where values move

pub moved : (vs ws : List Value) (at to end : ℕ) (es : List Entry) → FollowFrom at es end → drop at vs ≡ drop to ws → map (pair_of ws) (lined_up to es) ≡ map (pair_of vs) es
moved vs ws at to end [] f same = refl
moved vs ws at to end (e ∷ es) f same =
    let row : lying_of (take (len_of e) (drop to ws)) (block_in e.place) ≡ lies_in vs e = ap (λ xs. lying_of (take (len_of e) xs) (block_in e.place)) (sym same ∙ ap (λ n. drop n vs) (sym f.0)) in
    let rest : drop (at + len_of e) vs ≡ drop (to + len_of e) ws = sym (drop-drop (len_of e) at vs) ∙ ap (drop (len_of e)) same ∙ drop-drop (len_of e) to ws in
    λ i. (e.thing, (e.count, row i)) ∷ moved vs ws (at + len_of e) (to + len_of e) end es f.2 rest i

front_row : (vs : List Value) (first len m : ℕ) → first + len ≤ m → take len (drop first vs) ≡ drop first (take (first + len) (take m vs))
front_row vs first len m l = sym (drop-take first len vs) ∙ ap (drop first) (sym (take-take (first + len) m vs l))

pub unmoved : (vs ws : List Value) (at m end : ℕ) (es : List Entry) → FollowFrom at es end → end ≤ m → take m vs ≡ take m ws → map (pair_of ws) es ≡ map (pair_of vs) es
unmoved vs ws at m end [] f l same = refl
unmoved vs ws at m end (e ∷ es) f l same =
    let whole = all_of (at + len_of e) end es f.2 in
    let within : e.first + len_of e ≤ m = omega (arith, whole, f.0, l) in
    let row : lies_in ws e ≡ lies_in vs e = ap (λ xs. lying_of xs (block_in e.place)) (front_row ws e.first (len_of e) m within ∙ ap (λ xs. drop e.first (take (e.first + len_of e) xs)) (sym same) ∙ sym (front_row vs e.first (len_of e) m within)) in
    λ i. (e.thing, (e.count, row i)) ∷ unmoved vs ws (at + len_of e) m end es f.2 l same i

-- ---- values in place of others, between two places

module _ (vs row : List Value) (before behind : List Entry) (m k : ℕ) (f : FollowFrom 0 before m) (g : FollowFrom k behind (length vs)) (order : m ≤ k) where
  abbrev ws : List Value
  ws = take m vs ++ (row ++ drop k vs)

  behind_all : k + lengths behind ≡ length vs
  behind_all = all_of k (length vs) behind g

  front : length (take m vs) ≡ m
  front = length-take-le m vs (omega (arith, behind_all, order))

  pub pairs_before : map (pair_of ws) before ≡ map (pair_of vs) before
  pairs_before = unmoved vs ws 0 m m before f (omega arith) (sym (take_at (take m vs) (row ++ drop k vs) m front))

  pub pairs_behind : map (pair_of ws) (lined_up (m + length row) behind) ≡ map (pair_of vs) behind
  pairs_behind = moved vs ws k (m + length row) (length vs) behind g
      (sym (sym (drop-drop (length row) m ws) ∙ ap (drop (length row)) (drop_at (take m vs) (row ++ drop k vs) m front) ∙ drop_at row (drop k vs) (length row) refl))

  pub row_there : (y : Entry) → y.first ≡ m → len_of y ≡ length row → lies_in ws y ≡ lying_of row (block_in y.place)
  row_there y first len =
      ap (λ n. lying_of (take (len_of y) (drop n ws)) (block_in y.place)) first
      ∙ ap (λ xs. lying_of (take (len_of y) xs) (block_in y.place)) (drop_at (take m vs) (row ++ drop k vs) m front)
      ∙ ap (λ xs. lying_of xs (block_in y.place)) (take_at row (drop k vs) (len_of y) (sym len))

  pub length_of : length ws ≡ m + length row + lengths behind
  length_of =
      let a = length-append (take m vs) (row ++ drop k vs) in
      let b = length-append row (drop k vs) in
      let c = length-drop k vs in
      omega (arith, a, b, c, front, behind_all)

  behind_follow : FollowFrom (m + length row) (lined_up (m + length row) behind) (length ws)
  behind_follow = subst (λ n. FollowFrom (m + length row) (lined_up (m + length row) behind) n) (sym length_of) (lined_follow k (m + length row) (length vs) behind g)

  pub follow_with : (y : Entry) → y.first ≡ m → len_of y ≡ length row → length row ≤ 8 → FollowFrom 0 (before ++ y ∷ lined_up (m + length row) behind) (length ws)
  follow_with y first len few = joined 0 m (length ws) before (y ∷ lined_up (m + length row) behind) f
      (first, omega (arith, len, few), subst (λ n. FollowFrom (m + n) (lined_up (m + length row) behind) (length ws)) (sym len) behind_follow)

  pub follow_without : length row ≡ 0 → FollowFrom 0 (before ++ lined_up (m + length row) behind) (length ws)
  follow_without none = joined 0 m (length ws) before (lined_up (m + length row) behind) f (subst (λ n. FollowFrom n (lined_up (m + length row) behind) (length ws)) (omega (arith, none)) behind_follow)

  pub pairs_with : (y : Entry) → y.first ≡ m → len_of y ≡ length row
      → map (pair_of ws) (before ++ y ∷ lined_up (m + length row) behind) ≡ map (pair_of vs) before ++ (y.thing, (y.count, lying_of row (block_in y.place))) ∷ map (pair_of vs) behind
  pairs_with y first len = map-append (pair_of ws) before (y ∷ lined_up (m + length row) behind)
      ∙ (λ i. pairs_before i ++ (y.thing, (y.count, row_there y first len i)) ∷ pairs_behind i)

  pub pairs_without : map (pair_of ws) (before ++ lined_up (m + length row) behind) ≡ map (pair_of vs) before ++ map (pair_of vs) behind
  pairs_without = map-append (pair_of ws) before (lined_up (m + length row) behind) ∙ (λ i. pairs_before i ++ pairs_behind i)

-- ---- where an entry stands

module _ (es : List Entry) (vs : List Value) (follow : FollowFrom 0 es (length vs)) (i : ℕ) where
  -- the entry at a place, and the places before and behind it
  pub record Stands (e : Entry) : Type 0 where
    pub before : FollowFrom 0 (take i es) e.first
    pub here : FollowFrom e.first (drop i es) (length vs)
    pub behind : FollowFrom (e.first + len_of e) (drop (suc i) es) (length vs)
    pub few : len_of e ≤ 8
    pub within : e.first + len_of e ≤ length vs

  stands_from : (e : Entry) (m : ℕ) → drop i es ≡ e ∷ drop (suc i) es → FollowFrom 0 (take i es) m → FollowFrom m (drop i es) (length vs) → Stands e
  stands_from e m split f g =
      let h = subst (λ xs. FollowFrom m xs (length vs)) split g in
      let behind = subst (λ n. FollowFrom (n + len_of e) (drop (suc i) es) (length vs)) (sym h.0) h.2 in
      record {
        before = subst (λ n. FollowFrom 0 (take i es) n) (sym h.0) f;
        here = subst (λ n. FollowFrom n (drop i es) (length vs)) (sym h.0) g;
        behind = behind;
        few = h.1;
        within = omega (arith, all_of (e.first + len_of e) (length vs) (drop (suc i) es) behind);
      }

  pub stands : (e : Entry) → i < length es → e ≡ get_or es i e → Stands e
  stands e l is =
      let p = parted 0 (length vs) i es follow in
      stands_from e p.0 (drop_more es i e l ∙ (λ j. sym is j ∷ drop (next i j) es)) p.1 p.2

-- ---- an entry more, another row, an entry less

module _ (es : List Entry) (vs row : List Value) (i : ℕ) (y : Entry) (first : ℕ) (at : y.first ≡ first) (long : len_of y ≡ length row) (few : length row ≤ 8) where
  pub put_both : FollowFrom 0 (take i es) first → FollowFrom first (drop i es) (length vs)
      → (map (pair_of (take first vs ++ (row ++ drop first vs))) (take i es ++ y ∷ lined_up (first + length row) (drop i es)) ≡ insert (map (pair_of vs) es) i (y.thing, (y.count, lying_of row (block_in y.place))))
      × FollowFrom 0 (take i es ++ y ∷ lined_up (first + length row) (drop i es)) (length (take first vs ++ (row ++ drop first vs)))
  put_both f g = (
    pairs_with vs row (take i es) (drop i es) first first f g (omega arith) y at long
        ∙ (λ j. sym (take-map (pair_of vs) i es) j ++ (y.thing, (y.count, lying_of row (block_in y.place))) ∷ sym (drop-map (pair_of vs) i es) j),
    follow_with vs row (take i es) (drop i es) first first f g (omega arith) y at long few,
  )

  pub set_both : (len : ℕ) → i < length es → FollowFrom 0 (take i es) first → FollowFrom (first + len) (drop (suc i) es) (length vs)
      → (map (pair_of (take first vs ++ (row ++ drop (first + len) vs))) (take i es ++ y ∷ lined_up (first + length row) (drop (suc i) es)) ≡ set (map (pair_of vs) es) i (y.thing, (y.count, lying_of row (block_in y.place))))
      × FollowFrom 0 (take i es ++ y ∷ lined_up (first + length row) (drop (suc i) es)) (length (take first vs ++ (row ++ drop (first + len) vs)))
  set_both len l f g = (
    pairs_with vs row (take i es) (drop (suc i) es) first (first + len) f g (omega arith) y at long
        ∙ (λ j. sym (take-map (pair_of vs) i es) j ++ (y.thing, (y.count, lying_of row (block_in y.place))) ∷ sym (drop-map (pair_of vs) (suc i) es) j)
        ∙ sym (set_split (map (pair_of vs) es) i (y.thing, (y.count, lying_of row (block_in y.place))) (omega (arith, l, length-map es (pair_of vs)))),
    follow_with vs row (take i es) (drop (suc i) es) first (first + len) f g (omega arith) y at long few,
  )

pub less_both : (es : List Entry) (vs : List Value) (i first len : ℕ) → FollowFrom 0 (take i es) first → FollowFrom (first + len) (drop (suc i) es) (length vs)
    → (map (pair_of (take first vs ++ drop (first + len) vs)) (take i es ++ lined_up first (drop (suc i) es)) ≡ remove (map (pair_of vs) es) i)
    × FollowFrom 0 (take i es ++ lined_up first (drop (suc i) es)) (length (take first vs ++ drop (first + len) vs))
less_both es vs i first len f g =
    let ws = take first vs ++ drop (first + len) vs in
    let no_more : first + 0 ≡ first = omega arith in (
      ap (λ n. map (pair_of ws) (take i es ++ lined_up n (drop (suc i) es))) (sym no_more)
          ∙ pairs_without vs [] (take i es) (drop (suc i) es) first (first + len) f g (omega arith)
          ∙ (λ j. sym (take-map (pair_of vs) i es) j ++ sym (drop-map (pair_of vs) (suc i) es) j),
      subst (λ n. FollowFrom 0 (take i es ++ lined_up n (drop (suc i) es)) (length ws)) no_more
          (follow_without vs [] (take i es) (drop (suc i) es) first (first + len) f g (omega arith) refl),
    )

-- the same at the end
pub end_both : (es : List Entry) (vs row : List Value) (i : ℕ) (y : Entry) → i ≡ length es → y.first ≡ length vs → len_of y ≡ length row → length row ≤ 8 → FollowFrom 0 es (length vs)
    → (map (pair_of (vs ++ row)) (es ++ y ∷ []) ≡ insert (map (pair_of vs) es) i (y.thing, (y.count, lying_of row (block_in y.place)))) × FollowFrom 0 (es ++ y ∷ []) (length (vs ++ row))
end_both es vs row i y last at long few follow =
    let n = length vs in
    let all = take_all i es (omega (arith, last)) in
    let none = drop_all i es (omega (arith, last)) in
    let values : vs ++ row ≡ take n vs ++ (row ++ drop n vs) =
    λ j. sym (take_all n vs (omega arith)) j ++ (sym (append-nil row) ∙ ap (λ zs. row ++ zs) (sym (drop_all n vs (omega arith)))) j in
    let held : es ++ y ∷ [] ≡ take i es ++ y ∷ lined_up (n + length row) (drop i es) = λ j. sym all j ++ y ∷ lined_up (n + length row) (sym none j) in
    let both = put_both es vs row i y n at long few (subst (λ xs. FollowFrom 0 xs n) (sym all) follow) (subst (λ xs. FollowFrom n xs n) (sym none) refl) in (
      (λ j. map (pair_of (values j)) (held j)) ∙ both.0,
      subst (λ xs. FollowFrom 0 xs (length (vs ++ row))) (sym held) (subst (λ ws. FollowFrom 0 (take i es ++ y ∷ lined_up (n + length row) (drop i es)) (length ws)) (sym values) both.1),
    )

-- ---- entries as they are lined up

module _ (es fs : List Entry) (i at : ℕ) where
  pub put_line : (y : Entry) → i ≤ length es → fs ≡ insert es i y → take (i + 1) fs ++ lined_up at (drop (i + 1) fs) ≡ take i es ++ y ∷ lined_up at (drop i es)
  put_line y l is =
      let long = length-take-le i es l in
      (λ j. take (next i j) (is j) ++ lined_up at (drop (next i j) (is j)))
      ∙ (λ j. up_to (take i es) (drop i es) y i long j ++ lined_up at (past (take i es) (drop i es) y i long j))
      ∙ append_assoc (take i es) (y ∷ []) (lined_up at (drop i es))

  pub set_line : (y : Entry) → i < length es → fs ≡ set es i y → take (i + 1) fs ++ lined_up at (drop (i + 1) fs) ≡ take i es ++ y ∷ lined_up at (drop (suc i) es)
  set_line y l is =
      (λ j. take (i + 1) (is j) ++ lined_up at (drop (i + 1) (is j)))
      ∙ (λ j. take_more_set es i y l j ++ lined_up at (drop-set-lt (i + 1) es i y (omega arith) j))
      ∙ append_assoc (take i es) (y ∷ []) (lined_up at (drop (i + 1) es)) ∙ ap (λ n. take i es ++ y ∷ lined_up at (drop n es)) (next i)

  pub less_line : i < length es → fs ≡ remove es i → take i fs ++ lined_up at (drop i fs) ≡ take i es ++ lined_up at (drop (suc i) es)
  less_line l is =
      let long = length-take-le i es (omega (arith, l)) in
      (λ j. take i (is j) ++ lined_up at (drop i (is j))) ∙ (λ j. take_at (take i es) (drop (suc i) es) i long j ++ lined_up at (drop_at (take i es) (drop (suc i) es) i long j))

-- one entry more is lined up
pub line_step : (es : List Entry) (i at : ℕ) (e : Entry) → i < length es → e ≡ get_or es i e
    → take (i + 1) (set es i (record e { first = at })) ++ lined_up (at + len_of e) (drop (i + 1) (set es i (record e { first = at }))) ≡ take i es ++ lined_up at (drop i es)
line_step es i at e l is =
    set_line es (set es i (record e { first = at })) i (at + len_of e) (record e { first = at }) l refl
    ∙ ap (λ n. take i es ++ record e { first = at } ∷ lined_up (at + len_of e) (drop n es)) (sym (next i))
    ∙ ap (λ xs. take i es ++ lined_up at xs) (ap (λ x. x ∷ drop (i + 1) es) is ∙ sym (drop_more es i e l))

-- an entry that keeps its place and its length
pub same_follow : (at end : ℕ) (es : List Entry) (i : ℕ) (e y : Entry) → i < length es → e ≡ get_or es i e → y.first ≡ e.first → len_of y ≡ len_of e → FollowFrom at es end → FollowFrom at (set es i y) end
same_follow at end [] i e y l is first len f = absurd (omega (arith, l))
same_follow at end (x ∷ es) zero e y l is first len f =
    let long : len_of y ≡ len_of x = len ∙ ap len_of is in
    (first ∙ ap (λ (z : Entry). z.first) is ∙ f.0, omega (arith, long, f.1), subst (λ n. FollowFrom (at + n) es end) (sym long) f.2)
same_follow at end (x ∷ es) (suc i) e y l is first len f = (f.0, f.1, same_follow (at + len_of x) end es i e y (omega (arith, l)) is first len f.2)

-- an entry that is written, where those behind it are lined up
pub set_alone : (es : List Entry) (vs : List Value) (i : ℕ) (y : Entry) (n : ℕ) → i < length es → FollowFrom n (drop (suc i) es) (length vs)
    → set es i y ≡ take i es ++ y ∷ lined_up n (drop (suc i) es)
set_alone es vs i y n l f = set_split es i y l ∙ ap (λ xs. take i es ++ y ∷ xs) (sym (lined_same n (length vs) (drop (suc i) es) f))
