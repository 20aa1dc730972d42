-- What an addition does to lines that rise.
use Rattle.std.proofs.Common.{◌≡◌, ◌≢◌, ◌<◌, ◌≤◌, ◌+◌, ◌^◌, ℕ, zero, suc, true, false, Bool, ◌&&◌, cond, List, [], ◌∷◌, map, set, length, get_or, inl, inr, refl, sym, ap, subst, ◌∙◌, arith}
use Rattle.std.specs.Prelude.{T}
use Rattle.std.specs.List.{AllByRecursion}
use Rattle.std.specs.List.Sorted.{IsStrictlySortedBy}
use Rattle.std.specs.Ordering.{is_lt}
use Rattle.std.specs.FinMap.Entries.{below_all, is_sorted}
use Rattle.std.specs.declared.cmp.Ordering.{Ordering}
use Rattle.std.specs.declared.cmp.Ordering.TheVariants.{Less, Greater}
use Rattle.std.proofs.lemmas.Bool.{cases_lt}
use Rattle.std.proofs.lemmas.Cmp.{tied_itself}
use Rattle.std.proofs.lemmas.List.{get_or-map, length-map}
use Rattle.std.proofs.lemmas.Simd.{map-map}
use Rattle.std.proofs.lemmas.List.Elements.{All-map, All-weaker}
use Rattle.orca_names.specs.Names.{thing_cmp}
use Rattle.orca_names.specs.declared.names.Thing.{Thing}
use Rattle.orca_names.specs.declared.tally.Sums.{Sums}
use Rattle.orca_names.proofs.ThingOrder.{is_eq_true, is_ne_false, thing_total}
use Rattle.plain_list.specs.Rising.{IsAt, IsGap}
use Rattle.count_ledger.specs.Lines.{HasRoom, Rise, key_of, only, raised, raised_by, read, things_in}
use Rattle.count_ledger.specs.declared.lines.Column.{Column}
use Rattle.count_ledger.specs.declared.lines.Column.TheVariants.{Inc, Dec, Held, Letters}

-- ---- one line

-- a line keeps its thing
pub raised_thing : (column : Column) (n : ℕ) (s : Sums) → (raised column n s).thing ≡ s.thing
raised_thing Inc n s = refl
raised_thing Dec n s = refl
raised_thing Held n s = refl
raised_thing Letters n s = refl

-- nothing more is the same line
raised_none : (column : Column) (s : Sums) → raised column 0 s ≡ s
raised_none Inc s = let e : s.inc + 0 ≡ s.inc = omega arith in ap (λ k. record s { inc = k }) e
raised_none Dec s = let e : s.dec + 0 ≡ s.dec = omega arith in ap (λ k. record s { dec = k }) e
raised_none Held s = let e : s.held + 0 ≡ s.held = omega arith in ap (λ k. record s { held = k }) e
raised_none Letters s = let e : s.letters + 0 ≡ s.letters = omega arith in
    ap (λ k. record s { letters = k }) e

-- one addition after another is one of both
raised_twice : (column : Column) (m n : ℕ) (s : Sums)
    → raised column n (raised column m s) ≡ raised column (m + n) s
raised_twice Inc m n s = let e : (s.inc + m) + n ≡ s.inc + (m + n) = omega arith in
    ap (λ k. record s { inc = k }) e
raised_twice Dec m n s = let e : (s.dec + m) + n ≡ s.dec + (m + n) = omega arith in
    ap (λ k. record s { dec = k }) e
raised_twice Held m n s =
    let e : (s.held + m) + n ≡ s.held + (m + n) = omega arith in ap (λ k. record s { held = k }) e
raised_twice Letters m n s =
    let e : (s.letters + m) + n ≡ s.letters + (m + n) = omega arith in ap (λ k. record s { letters = k }) e

-- the column has so much more
pub read_raised : (column : Column) (n : ℕ) (s : Sums) → read column (raised column n s) ≡ read column s + n
read_raised Inc n s = refl
read_raised Dec n s = refl
read_raised Held n s = refl
read_raised Letters n s = refl

-- ---- all lines

-- two functions that agree give one list
pub map_same : {A B : Type 0} (f g : A → B) → ((a : A) → f a ≡ g a) → (xs : List A) → map f xs ≡ map g xs
map_same f g same [] = refl
map_same f g same (x ∷ xs) = (λ i. same x i ∷ map_same f g same xs i)

-- a function that changes nothing gives the same list
pub map_itself : {A : Type 0} (f : A → A) → ((a : A) → f a ≡ a) → (xs : List A) → map f xs ≡ xs
map_itself f same [] = refl
map_itself f same (x ∷ xs) = (λ i. same x i ∷ map_itself f same xs i)

-- lines that keep their things still rise
pub rise_kept : (f : Sums → Sums) → ((s : Sums) → (f s).thing ≡ s.thing) → (sums : List Sums) → Rise sums
    → Rise (map f sums)
rise_kept f same sums rise =
    let things : things_in (map f sums) ≡ things_in sums =
    map-map (λ (s : Sums). s.thing) f sums ∙ map_same (λ s. (f s).thing) (λ s. s.thing) same sums in
    subst (IsStrictlySortedBy thing_cmp) (sym things) rise

-- ---- after what was added so far

module _ (column : Column) (sums now : List Sums) (f : Thing → ℕ) (is : now ≡ map (raised_by column f) sums)
  where
    -- the lines still rise
    pub still_rise : Rise sums → Rise now
    still_rise rise = subst Rise (sym is)
        (rise_kept (raised_by column f) (λ s. raised_thing column (f s.thing) s) sums rise)

    -- there is room for what is still to come
    pub still_room : (g h : Thing → ℕ) → ((x : Thing) → f x + g x ≤ h x) → HasRoom column h sums
        → HasRoom column g now
    still_room g h less room = subst (HasRoom column g) (sym is)
        (All-map (λ (s : Sums). read column s + g s.thing < 2 ^ 64) (raised_by column f) sums
        (All-weaker _ _ step sums room))
      where
        step : (s : Sums) → read column s + h s.thing < 2 ^ 64
            → read column (raised_by column f s) + g (raised_by column f s).thing < 2 ^ 64
        step s fits =
            let thing = ap g (raised_thing column (f s.thing) s) in
            omega (arith, fits, less s.thing, thing, read_raised column (f s.thing) s)

    -- what is added then counts with what was added before
    pub then_added : (g h : Thing → ℕ) (new : List Sums) → new ≡ map (raised_by column g) now
        → ((x : Thing) → f x + g x ≡ h x) → new ≡ map (raised_by column h) sums
    then_added g h new added both = added ∙ ap (map (raised_by column g)) is
        ∙ map-map (raised_by column g) (raised_by column f) sums
        ∙ map_same (λ s. raised_by column g (raised_by column f s)) (raised_by column h) step sums
      where
        step : (s : Sums) → raised_by column g (raised_by column f s) ≡ raised_by column h s
        step s =
            ap (λ x. raised column (g x) (raised_by column f s)) (raised_thing column (f s.thing) s)
            ∙ raised_twice column (f s.thing) (g s.thing) s ∙ ap (λ n. raised column n s) (both s.thing)

-- nothing was added
pub none_added : (column : Column) (sums : List Sums) (f : Thing → ℕ) → ((x : Thing) → f x ≡ 0)
    → map (raised_by column f) sums ≡ sums
none_added column sums f none = map_itself (raised_by column f) one sums
  where
    one : (s : Sums) → raised_by column f s ≡ s
    one s = ap (λ n. raised column n s) (none s.thing) ∙ raised_none column s

-- ---- the line of one thing

-- it is said of the thing
only_same : (x y : Thing) (n : ℕ) → y ≡ x → only x n y ≡ n
only_same x y n same = ap (λ b. cond b n 0) (is_eq_true y x same)

-- nothing is said of another
pub only_other : (x y : Thing) (n : ℕ) → y ≢ x → only x n y ≡ 0
only_other x y n other = ap (λ b. cond b n 0) (is_ne_false y x other)

module _ (column : Column) (x : Thing) (n : ℕ) where
  -- a line of another thing is the same
  other_line : (s : Sums) → s.thing ≢ x → raised_by column (only x n) s ≡ s
  other_line s other = ap (λ m. raised column m s) (only_other x s.thing n other) ∙ raised_none column s

  -- where no line is the thing's, all are the same
  pub none_there : (sums : List Sums) → ((j : ℕ) (d : Sums) → j < length sums → (get_or sums j d).thing ≢ x)
      → map (raised_by column (only x n)) sums ≡ sums
  none_there [] others = refl
  none_there (s ∷ sums) others =
      let one = other_line s (others 0 s (omega arith)) in
      let rest = none_there sums (λ j d l. others (suc j) d (omega arith)) in
      (λ i. one i ∷ rest i)

  -- where one line is the thing's, this one has more
  pub one_there : (sums : List Sums) (i : ℕ) (d : Sums) → i < length sums → (get_or sums i d).thing ≡ x
      → ((j : ℕ) (e : Sums) → j ≢ i → j < length sums → (get_or sums j e).thing ≢ x)
      → map (raised_by column (only x n)) sums ≡ set sums i (raised column n (get_or sums i d))
  one_there [] i d l is others = absurd (omega arith)
  one_there (s ∷ sums) zero d l is others =
      let one : raised_by column (only x n) s ≡ raised column n s =
      ap (λ m. raised column m s) (only_same x s.thing n is) in
      let rest = none_there sums (λ j e m. others (suc j) e (omega arith) (omega arith)) in
      (λ i. one i ∷ rest i)
  one_there (s ∷ sums) (suc i) d l is others =
      let one = other_line s (others 0 s (omega arith) (omega arith)) in
      let rest = one_there sums i d (omega arith) is
      (λ j e other m. others (suc j) e (omega arith) (omega arith)) in
      (λ k. one k ∷ rest k)

  -- there is room in the thing's line
  pub room_there : (sums : List Sums) (i : ℕ) (d : Sums) → i < length sums → (get_or sums i d).thing ≡ x
      → HasRoom column (only x n) sums → read column (get_or sums i d) + n < 2 ^ 64
  room_there sums i d l is room = omega (arith, room i d l, only_same x (get_or sums i d).thing n is)

-- ---- what a search finds

-- a thing that is above or below x is another
greater_other : (x y : Thing) → thing_cmp x y ≡ Greater → y ≢ x
greater_other x y greater same = let tied = sym greater ∙ ap (thing_cmp x) same
    ∙ tied_itself thing_total x in cc

-- so is one that is below
pub less_other : (x y : Thing) → thing_cmp x y ≡ Less → y ≢ x
less_other x y less same = let tied = sym less ∙ ap (thing_cmp x) same ∙ tied_itself thing_total x in cc

module _ (x : Thing) (sums : List Sums) where
  -- the key at a place is the line's thing
  key_there : (j : ℕ) (d : Sums) → j < length sums
      → (get_or (map key_of sums) j (key_of d)).0 ≡ (get_or sums j d).thing
  key_there j d l = ap (λ (e : Thing × ℕ). e.0) (get_or-map key_of sums j d (key_of d) l)

  -- as many keys as lines
  long : length (map key_of sums) ≡ length sums
  long = length-map sums key_of

  -- a line whose key is below x is that of another
  above : (j : ℕ) (d : Sums) → j < length sums
      → thing_cmp x (get_or (map key_of sums) j (key_of d)).0 ≡ Greater
      → (get_or sums j d).thing ≢ x
  above j d l is = greater_other x _ (ap (thing_cmp x) (sym (key_there j d l)) ∙ is)

  -- a line whose key is above x is that of another
  below : (j : ℕ) (d : Sums) → j < length sums → thing_cmp x (get_or (map key_of sums) j (key_of d)).0 ≡ Less
      → (get_or sums j d).thing ≢ x
  below j d l is = less_other x _ (ap (thing_cmp x) (sym (key_there j d l)) ∙ is)

  -- the line at the place is the thing's
  pub at_there : (i : ℕ) (d : Sums) → IsAt thing_cmp (map key_of sums) x i → (get_or sums i d).thing ≡ x
  at_there i d at = sym (key_there i d (omega (arith, at.in_range, long))) ∙ at.has_key (key_of d)

  -- the other lines are those of others
  pub at_others : (i : ℕ) → IsAt thing_cmp (map key_of sums) x i → (j : ℕ) (d : Sums) → j ≢ i
      → j < length sums
      → (get_or sums j d).thing ≢ x
  at_others i at j d other l = elim (cases_lt j i) as (λ _. (get_or sums j d).thing ≢ x) [
    | inl m ↦ above j d l (at.before j (key_of d) m)
    | inr m ↦ below j d l (at.after j (key_of d) (omega arith) (omega (arith, long)))
  ]

  -- where the thing has no line, all are those of others
  pub gap_others : (i : ℕ) → IsGap thing_cmp (map key_of sums) x i → (j : ℕ) (d : Sums) → j < length sums
      → (get_or sums j d).thing ≢ x
  gap_others i gap j d l = elim (cases_lt j i) as (λ _. (get_or sums j d).thing ≢ x) [
    | inl m ↦ above j d l (gap.before j (key_of d) m)
    | inr m ↦ below j d l (gap.after j (key_of d) m (omega (arith, long)))
  ]

-- ---- lines that rise are found by a search

-- less passes the test for less
less_is : (o : Ordering) → o ≡ Less → T (is_lt o)
less_is o e = subst (λ p. T (is_lt p)) (sym e) tt

-- two tests that pass
both : (a b : Bool) → T a → T b → T (a && b)
both true b p q = q
both false b p q = p

-- a thing below all of these
below_lines : (x : Thing) (sums : List Sums) → AllByRecursion (λ y. thing_cmp x y ≡ Less) (things_in sums)
    → T (below_all thing_cmp x (map key_of sums))
below_lines x [] h = tt
below_lines x (s ∷ sums) h = both _ _ (less_is (thing_cmp x s.thing) h.0) (below_lines x sums h.1)

-- lines that rise are sorted by their keys
pub sorted_lines : (sums : List Sums) → Rise sums → T (is_sorted thing_cmp (map key_of sums))
unfolding IsStrictlySortedBy
sorted_lines [] h = tt
sorted_lines (s ∷ sums) h = both _ _ (below_lines s.thing sums h.0) (sorted_lines sums h.1)
