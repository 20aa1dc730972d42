-- A walk, level by level, to its end.
use Rattle.std.proofs.Common.{◌≡◌, ◌≢◌, ◌↔◌, inl, inr, ℕ, suc, ◌+◌, ◌<◌, ◌≤◌, ◌⊎◌, Bool, true, false, cond, eq-eqb, List, [], ◌∷◌, ◌++◌, length, map, take, get_or, append-nil, Contains, Ordering, refl, sym, ap, subst, ◌∙◌, arith}
use Rattle.std.specs.Prelude.{◌==◌, All, count_by, not}
use Rattle.std.specs.List.{filter}
use Rattle.std.proofs.lemmas.Bool.{eqb-true}
use Rattle.std.specs.List.Sorted.{IsPermutation, IsSorted, IsStrictlySortedBy}
use Rattle.std.specs.Ordering.{is_lt, ordering_reverse}
use Rattle.std.specs.declared.cmp.Ordering.TheVariants.{Less, Equal, Greater}
use Rattle.std.proofs.lemmas.List.{length-map, map-append}
use Rattle.std.proofs.lemmas.List.Elements.{All-contains, All-map, Contains-get_or, filter_more}
use Rattle.std.proofs.lemmas.List.Sorted.{Contains-permutation, IsPermutation-sym}
use Rattle.std.proofs.lemmas.List.Sums.{count_by-le-length, sum_by-cons}
use Rattle.std.proofs.lemmas.Simd.{map-map}
use Rattle.orca_names.specs.Names.{thing_cmp}
use Rattle.orca_names.specs.declared.names.Thing.{Thing}
use Rattle.orca_names.specs.declared.reason.Reason.{Reason}
use Rattle.orca_names.proofs.ThingOrder.{thing_exact, thing_total}
use Rattle.reach_walk.specs.Rows.{Contains-map}
use Rattle.machine_rules.specs.Actors.{Actors}
use Rattle.machine_rules.specs.Left.{IsLeft}
use Rattle.reach_walk.proofs.Elements.{Contains-cons_cases, Contains-from_map, Contains-head, Contains-later, none_in_nil}
use Rattle.why_path.specs.Checks.{is_loose, line_of}
use Rattle.why_path.specs.Lines.{Rise}
use Rattle.why_path.specs.Reasons.{AreReasons, IsLevel, things_in}
use Rattle.why_path.specs.Walk.{AreAt, IsDoneTo, IsKnownTo, StandsAt, first_line, reached_from}
use Rattle.why_path.specs.declared.walk.Walk.{Walk}
use Rattle.why_path.proofs.Finding.{found_line, line_found}
use Rattle.why_path.proofs.Levels.{LeftAreLed, NoneFalls, first_known, from_kept, front_has, known_whole, next_known}
use Rattle.why_path.proofs.Reached.{stands_line, stands_with}
use Rattle.why_path.proofs.Walking.{map_same, reached_thing}

-- ---- what was sorted never falls

not_above : (x y : Thing) → is_lt (thing_cmp y x) ≡ false → thing_cmp x y ≢ Greater
not_above x y behind above =
    let less : thing_cmp y x ≡ Less = thing_total.antisymm y x ∙ ap ordering_reverse above in
    let both = sym behind ∙ ap is_lt less in cc

not_above_later : (t u y : Thing) → thing_cmp t u ≢ Greater → thing_cmp u y ≢ Greater → thing_cmp t y ≢ Greater
not_above_later t u y a b above = by (thing_cmp t u) refl
  where
    below : thing_cmp y t ≡ Less
    below = thing_total.antisymm y t ∙ ap ordering_reverse above

    by : (o : Ordering) → thing_cmp t u ≡ o → ⊥
    by Less e = b (thing_total.antisymm u y ∙ ap ordering_reverse (thing_total.trans y t u below e))
    by Equal e = let same = thing_exact t u e in b (ap (λ z. thing_cmp z y) (sym same) ∙ above)
    by Greater e = a e

later_sorted : (x : Thing) (xs : List Thing) → IsSorted thing_cmp (x ∷ xs) → IsSorted thing_cmp xs
later_sorted x xs sorted = λ k d low high.
    let next : suc k + 1 ≡ suc (k + 1) = omega arith in
    subst (λ n. is_lt (thing_cmp (get_or (x ∷ xs) n d) (get_or xs k d)) ≡ false) next
    (sorted (suc k) d (omega arith) (omega (arith, high)))

head_first : (x : Thing) (xs : List Thing) → IsSorted thing_cmp (x ∷ xs) → (y : Thing) → Contains xs y → thing_cmp x y ≢ Greater
head_first x [] sorted y c = none_in_nil y _ c
head_first x (z ∷ zs) sorted y c =
    let first : thing_cmp x z ≢ Greater = not_above x z (sorted 0 x (omega arith) (omega arith)) in
    elim (Contains-cons_cases z zs y c) as (λ _. thing_cmp x y ≢ Greater) [
      | inl same ↦ subst (λ w. thing_cmp x w ≢ Greater) same first
      | inr later ↦ not_above_later x z y first (head_first z zs (later_sorted x (z ∷ zs) sorted) y later)
    ]

pub none_falls : (xs : List Thing) → IsSorted thing_cmp xs → NoneFalls xs
none_falls [] sorted = tt
none_falls (x ∷ xs) sorted = (head_first x xs sorted, none_falls xs (later_sorted x xs sorted))

-- ---- how many lines are loose

abbrev loose_in : List Reason → ℕ
loose_in rs = count_by (λ r. is_loose r.why) rs

abbrev one : Reason → ℕ
one r = cond (is_loose r.why) 1 0

loose_cons : (r : Reason) (rs : List Reason) → loose_in (r ∷ rs) ≡ one r + loose_in rs
loose_cons r rs = sum_by-cons one r rs

module _ (f : Reason → Reason) (shrinks : (r : Reason) → is_loose (f r).why ≡ true → is_loose r.why ≡ true) where
  one_less : (r : Reason) → one (f r) ≤ one r
  one_less r = by (is_loose (f r).why) refl (is_loose r.why) refl
    where
      by : (b : Bool) → is_loose (f r).why ≡ b → (d : Bool) → is_loose r.why ≡ d → cond b 1 0 ≤ cond d 1 0
      by false e d g = omega arith
      by true e true g = omega arith
      by true e false g = let h = shrinks r e in cc

  loose_less : (rs : List Reason) → loose_in (map f rs) ≤ loose_in rs
  loose_less [] = omega arith
  loose_less (r ∷ rs) = omega (arith, loose_cons (f r) (map f rs), loose_cons r rs, one_less r, loose_less rs)

  loose_fewer : (rs : List Reason) (r : Reason) → Contains rs r → is_loose r.why ≡ true → is_loose (f r).why ≡ false
      → loose_in (map f rs) + 1 ≤ loose_in rs
  loose_fewer [] r c was now = none_in_nil r _ c
  loose_fewer (s ∷ rs) r c was now = elim (Contains-cons_cases s rs r c) as (λ _. loose_in (map f (s ∷ rs)) + 1 ≤ loose_in (s ∷ rs)) [
    | inl same ↦
        let old : one s ≡ 1 = ap (λ (q : Reason). one q) same ∙ ap (λ b. cond b 1 0) was in
        let new : one (f s) ≡ 0 = ap (λ (q : Reason). one (f q)) same ∙ ap (λ b. cond b 1 0) now in
        omega (arith, loose_cons (f s) (map f rs), loose_cons s rs, old, new, loose_less rs)
    | inr later ↦
        omega (arith, loose_cons (f s) (map f rs), loose_cons s rs, one_less s, loose_fewer rs r later was now)
  ]

-- where one is not, not all are
kept_one : (rs : List Reason) (r : Reason) → Contains rs r → is_loose r.why ≡ false → loose_in rs + 1 ≤ length rs
kept_one [] r c kept = none_in_nil r _ c
kept_one (s ∷ rs) r c kept = elim (Contains-cons_cases s rs r c) as (λ _. loose_in (s ∷ rs) + 1 ≤ length (s ∷ rs)) [
  | inl same ↦
      let now : one s ≡ 0 = ap (λ (q : Reason). one q) same ∙ ap (λ b. cond b 1 0) kept in
      omega (arith, loose_cons s rs, now, count_by-le-length (λ (q : Reason). is_loose q.why) rs)
  | inr later ↦ omega (arith, loose_cons s rs, at_most (is_loose s.why), kept_one rs r later kept)
]
  where
    at_most : (b : Bool) → cond b 1 0 ≤ 1
    at_most true = omega arith
    at_most false = omega arith

-- ---- lists

pub empty_or : (xs : List Thing) → (xs ≡ []) ⊎ (0 < length xs)
empty_or [] = inl refl
empty_or (x ∷ xs) = inr (omega arith)

pub empty_len : (n : ℕ) (xs : List Thing) → n ≡ length xs → (n == 0) ≡ true → xs ≡ []
empty_len n xs e no_len = elim (empty_or xs) as (λ _. xs ≡ []) [
  | inl none ↦ none
  | inr some ↦ let none = eqb-true n 0 no_len in absurd (omega (arith, e, none, some))
]

pub more_len : (n : ℕ) (xs : List Thing) → n ≡ length xs → (n == 0) ≡ false → 0 < length xs
more_len n xs e more = elim (empty_or xs) as (λ _. 0 < length xs) [
  | inl none ↦ let no_len = eq-eqb n 0 (e ∙ ap length none) in cc
  | inr some ↦ some
]

-- what passes a test among lines, and the other way round
passes : (p : Reason → Bool) (rs : List Reason) (r : Reason) → Contains (filter p rs) r → Contains rs r × (p r ≡ true)
passes p [] r c = none_in_nil r _ c
passes p (s ∷ rs) r c = by (passes p rs r) (p s) refl c
  where
    by : (Contains (filter p rs) r → Contains rs r × (p r ≡ true)) → (b : Bool) → p s ≡ b
        → Contains (cond b (s ∷ filter p rs) (filter p rs)) r → Contains (s ∷ rs) r × (p r ≡ true)
    by deeper true e c = elim (Contains-cons_cases s (filter p rs) r c) as (λ _. Contains (s ∷ rs) r × (p r ≡ true)) [
      | inl same ↦ (subst (Contains (s ∷ rs)) same (Contains-head s rs), ap p (sym same) ∙ e)
      | inr later ↦ let d = deeper later in (Contains-later s rs r d.0, d.1)
    ]
    by deeper false e c = let d = deeper c in (Contains-later s rs r d.0, d.1)

passed : (p : Reason → Bool) (rs : List Reason) (r : Reason) → Contains rs r → p r ≡ true → Contains (filter p rs) r
passed p [] r c h = none_in_nil r _ c
passed p (s ∷ rs) r c h = by (passed p rs r) (p s) refl (Contains-cons_cases s rs r c)
  where
    by : (Contains rs r → p r ≡ true → Contains (filter p rs) r) → (b : Bool) → p s ≡ b → (s ≡ r) ⊎ Contains rs r
        → Contains (cond b (s ∷ filter p rs) (filter p rs)) r
    by deeper true e (inl same) = subst (Contains (s ∷ filter p rs)) same (Contains-head s (filter p rs))
    by deeper true e (inr later) = Contains-later s (filter p rs) r (deeper later h)
    by deeper false e (inl same) = let both = sym e ∙ ap p same ∙ h in cc
    by deeper false e (inr later) = deeper later h

-- one line more, that is kept or loose
abbrev kept_of : List Reason → List Thing
kept_of rs = map (λ r. r.thing) (filter (λ r. not (is_loose r.why)) rs)

line_more : (rs : List Reason) (i : ℕ) (r : Reason) → i < length rs → r ≡ get_or rs i r → (b : Bool) → not (is_loose r.why) ≡ b
    → kept_of (take (i + 1) rs) ≡ kept_of (take i rs) ++ map (λ r. r.thing) (cond b (r ∷ []) [])
line_more rs i r l is b e =
    let test : Reason → Bool = λ q. not (is_loose q.why) in
    ap (map (λ (q : Reason). q.thing)) (filter_more test rs i r l)
    ∙ map-append (λ (q : Reason). q.thing) (filter test (take i rs)) (cond (test (get_or rs i r)) (get_or rs i r ∷ []) [])
    ∙ ap (λ q. kept_of (take i rs) ++ map (λ (q : Reason). q.thing) (cond (test q) (q ∷ []) [])) (sym is)
    ∙ ap (λ d. kept_of (take i rs) ++ map (λ (q : Reason). q.thing) (cond d (r ∷ []) [])) e

pub kept_more : (rs : List Reason) (i : ℕ) (r : Reason) → i < length rs → r ≡ get_or rs i r → is_loose r.why ≡ false
    → kept_of (take (i + 1) rs) ≡ kept_of (take i rs) ++ r.thing ∷ []
kept_more rs i r l is kept = line_more rs i r l is true (ap not kept)

pub loose_more : (rs : List Reason) (i : ℕ) (r : Reason) → i < length rs → r ≡ get_or rs i r → is_loose r.why ≡ true
    → kept_of (take (i + 1) rs) ≡ kept_of (take i rs)
loose_more rs i r l is loose = line_more rs i r l is false (ap not loose) ∙ append-nil (kept_of (take i rs))

not_true : (b : Bool) → not b ≡ true → b ≡ false
not_true true h = cc
not_true false h = refl

-- where kept lines have level 0, just their things stand there
kept_at : (rs : List Reason) → Rise rs → ((r : Reason) → Contains rs r → is_loose r.why ≡ false → r.level ≡ 0)
    → AreAt rs 0 (map (λ r. r.thing) (filter (λ r. not (is_loose r.why)) rs))
kept_at rs rise flat x = (to, from)
  where
    to : Contains (map (λ r. r.thing) (filter (λ r. not (is_loose r.why)) rs)) x → StandsAt rs 0 x
    to c =
        let line = Contains-from_map (λ (r : Reason). r.thing) (filter (λ (r : Reason). not (is_loose r.why)) rs) x c in
        let found = passes (λ (r : Reason). not (is_loose r.why)) rs line.0 line.1 in
        let kept = not_true (is_loose line.0.why) found.1 in
        stands_with rs 0 x line.0 (ap (line_of rs) (sym line.2) ∙ line_found rs rise line.0 found.0) kept (flat line.0 found.0 kept)

    from : StandsAt rs 0 x → Contains (map (λ r. r.thing) (filter (λ r. not (is_loose r.why)) rs)) x
    from h =
        let s = stands_line rs 0 x h in
        let found = found_line x rs s.0 s.1 in
        subst (Contains (map (λ (r : Reason). r.thing) (filter (λ (r : Reason). not (is_loose r.why)) rs))) found.1
        (Contains-map (λ (r : Reason). r.thing) (filter (λ (r : Reason). not (is_loose r.why)) rs) s.0
        (passed (λ (r : Reason). not (is_loose r.why)) rs s.0 found.0 (ap not s.2)))

-- a thing that comes next
first_of : (xs : List Thing) → 0 < length xs → (x : Thing) × Contains xs x
first_of [] l = absurd (omega arith)
first_of (x ∷ xs) l = (x, Contains-head x xs)

module _ (actors : Actors) where
  -- ---- the start

  pub starts : (things : List Thing) → ((x : Thing) → Contains things x ↔ IsLeft actors x)
      → IsStrictlySortedBy thing_cmp things → (w : Walk) → w.reasons.items ≡ map (first_line actors) things
      → w.next.items ≡ map (λ r. r.thing) (filter (λ r. not (is_loose r.why)) w.reasons.items) → IsDoneTo actors 0 w
  starts things exact rising w lines next = record {
    lists = record {
      left = λ x. subst (λ ts. Contains ts x ↔ IsLeft actors x) (sym same) (exact x);
      rising = subst (IsStrictlySortedBy thing_cmp) (sym same) rising;
    };
    known = known;
    next = at;
    few = some;
  }
    where
      known : All (IsKnownTo actors 0) w.reasons.items
      known = subst (All (IsKnownTo actors 0)) (sym lines)
          (All-map (IsKnownTo actors 0) (first_line actors) things (λ k d l. first_known actors (get_or things k d)))

      itself : (ts : List Thing) → things_in (map (first_line actors) ts) ≡ ts
      itself [] = refl
      itself (t ∷ ts) = ap (λ us. t ∷ us) (itself ts)

      same : things_in w.reasons.items ≡ things
      same = ap things_in lines ∙ itself things

      flat : (r : Reason) → Contains w.reasons.items r → is_loose r.why ≡ false → r.level ≡ 0
      flat r c kept =
          let k = (All-contains (IsKnownTo actors 0) w.reasons.items r known c).kept kept in omega (arith, k.0)

      at : AreAt w.reasons.items 0 w.next.items
      at = subst (AreAt w.reasons.items 0) (sym next)
          (kept_at w.reasons.items (subst (IsStrictlySortedBy thing_cmp) (sym same) rising) flat)

      some : 0 < length w.next.items → 0 + 1 + loose_in w.reasons.items ≤ length w.reasons.items
      some l =
          let first = first_of w.next.items l in
          let s = stands_line w.reasons.items 0 first.0 ((at first.0).0 first.1) in
          let found = found_line first.0 w.reasons.items s.0 s.1 in
          omega (arith, kept_one w.reasons.items s.0 found.0 s.2)

  -- ---- one level further

  module _ (level : ℕ) (w : Walk) (so_far : IsDoneTo actors level w) where
    abbrev rs : List Reason
    rs = w.reasons.items

    known_of : (r : Reason) → Contains rs r → IsKnownTo actors level r
    known_of r c = All-contains (IsKnownTo actors level) rs r so_far.known c

    -- nothing stands at the next level yet
    pub none_higher : AreAt rs (suc level) []
    none_higher x = (
      λ c. none_in_nil x _ c,
      λ h.
          let s = stands_line rs (suc level) x h in
          let found = found_line x rs s.0 s.1 in
          let k = (known_of s.0 found.0).kept s.2 in
          absurd (omega (arith, k.0, s.3)),
    )

    module _ (left : LeftAreLed actors) (front : List Thing) (moved : IsPermutation w.next.items front)
        (sorted : IsSorted thing_cmp front) (v : Walk)
        (lines : v.reasons.items ≡ map (reached_from actors (suc level) front) rs)
        (at : AreAt v.reasons.items (suc level) v.next.items) where
      front_at : AreAt rs level front
      front_at x = (
        λ c. (so_far.next x).0 (Contains-permutation front w.next.items x (IsPermutation-sym w.next.items front moved) c),
        λ h. Contains-permutation w.next.items front x moved ((so_far.next x).1 h),
      )

      abbrev f : Reason → Reason
      f = reached_from actors (suc level) front

      keeps : (ts : List Thing) (r : Reason) → (reached_from actors (suc level) ts r).thing ≡ r.thing
      keeps [] r = refl
      keeps (t ∷ ts) r = keeps ts _ ∙ reached_thing t (suc level) _ r

      same : things_in v.reasons.items ≡ things_in rs
      same = ap things_in lines ∙ map-map (λ (r : Reason). r.thing) f rs
          ∙ map_same (λ r. (f r).thing) (λ r. r.thing) (keeps front) rs

      shrinks : (r : Reason) → is_loose (f r).why ≡ true → is_loose r.why ≡ true
      shrinks r loose = by (is_loose r.why) refl
        where
          by : (b : Bool) → is_loose r.why ≡ b → b ≡ true
          by true e = refl
          by false e =
              let both = sym loose ∙ ap (λ (q : Reason). is_loose q.why) (from_kept actors (suc level) front r e) ∙ e in cc

      fewer : 0 < length v.next.items → loose_in v.reasons.items + 1 ≤ loose_in rs
      fewer l =
          let first = first_of v.next.items l in
          let s = stands_line v.reasons.items (suc level) first.0 ((at first.0).0 first.1) in
          let found = found_line first.0 v.reasons.items s.0 s.1 in
          let from = Contains-from_map f rs s.0 (subst (λ qs. Contains qs s.0) lines found.0) in
          let kept : is_loose (f from.0).why ≡ false = ap (λ (q : Reason). is_loose q.why) from.2 ∙ s.2 in
          let at_level : (f from.0).level ≡ suc level = ap (λ (q : Reason). q.level) from.2 ∙ s.3 in
          subst (λ qs. loose_in qs + 1 ≤ loose_in rs) (sym lines)
          (loose_fewer f shrinks rs from.0 from.1 (was from.0 from.1 at_level (is_loose from.0.why) refl) kept)
        where
          was : (r : Reason) → Contains rs r → (f r).level ≡ suc level → (b : Bool) → is_loose r.why ≡ b → is_loose r.why ≡ true
          was r c at_level true e = e
          was r c at_level false e =
              let k = (known_of r c).kept e in
              let stays = sym (ap (λ (q : Reason). q.level) (from_kept actors (suc level) front r e)) ∙ at_level in
              absurd (omega (arith, k.0, stays))

      pub goes_on : 0 < length w.next.items → IsDoneTo actors (suc level) v
      goes_on more = record {
        lists = record {
          left = λ x. subst (λ ts. Contains ts x ↔ IsLeft actors x) (sym same) (so_far.lists.left x);
          rising = subst (IsStrictlySortedBy thing_cmp) (sym same) so_far.lists.rising;
        };
        known = subst (All (IsKnownTo actors (suc level))) (sym lines)
            (All-map (IsKnownTo actors (suc level)) f rs (λ k d l.
            next_known actors rs level so_far.lists left known_of front front_at (none_falls front sorted) (get_or rs k d)
            (Contains-get_or rs k d l)));
        next = at;
        few = λ l. omega (arith, fewer l, so_far.few more, ap length lines, length-map rs f);
      }

    -- ---- the end

    pub ends : LeftAreLed actors → w.next.items ≡ [] → AreReasons actors rs
    ends left none = record {
      lists = so_far.lists;
      each = λ k d l. known_whole actors rs level so_far.lists left known_of gone (get_or rs k d) (Contains-get_or rs k d l);
    }
      where
        gone : (t : Thing) → ¬ IsLevel actors t level
        gone t at =
            let c = front_has actors rs level so_far.lists left known_of w.next.items so_far.next t at in
            none_in_nil t ⊥ (subst (λ ts. Contains ts t) none c)
