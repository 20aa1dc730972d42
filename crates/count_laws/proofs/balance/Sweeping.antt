-- A sweep keeps every count of one's own, the counts held on what is marked, and what is closed.
use Rattle.std.proofs.Common.{◌≡◌, ◌≢◌, ℕ, ◌+◌, ◌<◌, ◌==◌, ◌&&◌, ◌||◌, not, cond, Bool, true, false, T, Option, Some, None, is_some, List, [], ◌∷◌, map, filter, refl, sym, ◌∙◌, ap, arith, subst, inl, inr, ⊎_elim, eq-eqb, ne_eqb}
use Rattle.std.proofs.lemmas.Bool.{cases_eq}
use Rattle.std.proofs.lemmas.Cmp.{tied_itself}
use Rattle.std.specs.FinMap as m
use Rattle.std.specs.FinMap.Entries.{below_all}
use Rattle.std.specs.Ordering.{is_lt}
use Rattle.orca_names.proofs.ThingOrder.{cases_thing, thing_total, thing_exact, is_self, is_eq_true, is_ne_false}
use Rattle.orca_names.specs.Names.{owner_of, is_thing, thing_cmp}
use Rattle.orca_names.specs.declared.names.Thing.{Thing}
use Rattle.orca_names.specs.declared.names.Thing.TheVariants.{Actor, Obj}
use Rattle.reach_walk.specs.Reach.{root, owned}
use Rattle.letter_kinds.proofs.Counts.{amount-nil, amount-same, amount-other}
use Rattle.letter_kinds.specs.Counting.{Amount, sweep, given_back}
use Rattle.letter_kinds.specs.Holdings.{Row, Holdings, own_in, held_in, has_own, row_of, row_count, entry_count, entry_row}
use Rattle.letter_kinds.specs.Sums.{amount_of}
use Rattle.count_laws.proofs.balance.InHand.{AllCounted}
use Rattle.count_laws.proofs.knowledge.Paths.{along_row, reach_into}
use Rattle.count_laws.proofs.knowledge.Receiving.{own_row}
use Rattle.machine_rules.specs.Cell.{Cell}
use Rattle.machine_rules.specs.Collect.{without_unused}
use Rattle.count_laws.specs.Facts.{IsFirm}
use Rattle.orca_names.specs.declared.trace.Trace.{Trace}
use Rattle.orca_names.specs.declared.trace.Trace.TheVariants.{Deep}
use Rattle.orca_names.specs.declared.trace.Trace.TheVariants as options
use Rattle.count_laws.specs.Known.{Names, ReachesThrough, row_at, IsKnown, InFrame, StartsWalks, in_fields, in_frame, in_table, IsClosedAt, RowsAreAt}

-- ---- what letters brought does not matter to the counts

pub same_holdings : (trace : Trace) (a : ℕ) (c : Cell) → (without_unused trace a c).holdings ≡ c.holdings
same_holdings Deep a c = refl
same_holdings options.Roots a c = refl

pub same_reported : (trace : Trace) (a : ℕ) (c : Cell) → (without_unused trace a c).reported ≡ c.reported
same_reported Deep a c = refl
same_reported options.Roots a c = refl

-- ---- counts

-- an own row that goes had count 0
kept_count : (b : Bool) (o : Option (Row × ℕ)) → row_count (cond (b || not (row_count o == 0)) o None) ≡ row_count o
kept_count true o = refl
kept_count false o = ⊎_elim
    (λ z. rw (eq-eqb (row_count o) 0 z) (sym z))
    (λ n. rw (ne_eqb (row_count o) 0 n) refl)
    (cases_eq (row_count o) 0)

kept_entry : (b : Bool) (o : Option (ℕ × Option Row)) → entry_count (cond b o None) ≡ cond b (entry_count o) 0
kept_entry true o = refl
kept_entry false o = refl

module _ (marked : Thing → Bool) (me : ℕ) (c : Holdings) where
  -- an own object stays where it is marked or counted
  unfoldable pub stays : ℕ → Bool
  stays k = marked (Obj (record { owner = me; serial = k })) || not (row_count (m.get c.rows k) == 0)

  pub get_row-sweep : (k : ℕ) → m.get (sweep marked me c).rows k ≡ cond (stays k) (m.get c.rows k) None
  unfolding sweep stays
  get_row-sweep k = m.get-retain_keys c.rows _ k
      (λ j t. ap (λ i. marked (Obj (record { owner = me; serial = i })) || not (row_count (m.get c.rows i) == 0)) (sym (m.nat_cmp-IsAntisymmetric k j t)))

  pub get_entry-sweep : (x : Thing) → m.get (sweep marked me c).foreign x ≡ cond (marked x) (m.get c.foreign x) None
  unfolding sweep
  get_entry-sweep x = m.get-retain_keys c.foreign marked x (λ y t. ap marked (sym (thing_exact x y t)))

  pub own-sweep : (x : Thing) → own_in (sweep marked me c) x ≡ own_in c x
  unfolding own_in sweep stays
  own-sweep (Actor a) = refl
  own-sweep (Obj n) = ap row_count (get_row-sweep n.serial) ∙ kept_count (marked (Obj (record { owner = me; serial = n.serial }))) (m.get c.rows n.serial)

  pub held-sweep : (x : Thing) → held_in (sweep marked me c) x ≡ cond (marked x) (held_in c x) 0
  unfolding held_in
  held-sweep x = ap entry_count (get_entry-sweep x) ∙ kept_entry (marked x) (m.get c.foreign x)

-- ---- what goes back

abbrev counted : Thing × (ℕ × Option Row) → Amount
counted e = (e.0, e.1.0)

-- of sorted entries, those that go back
abbrev drops : (Thing → Bool) → List (Thing × (ℕ × Option Row)) → List Amount
drops marked es = map (λ e. (e.0, e.1.0)) (filter (λ e. not (marked e.0)) es)

pub both_true : (a b : Bool) → T (a && b) → T a × T b
both_true true b h = (tt, h)
both_true false b h = absurd h

pub not_above : (x y : Thing) → T (is_lt (thing_cmp x y)) → x ≢ y
not_above x y h e = absurd (subst (λ o. T (is_lt o)) (ap (thing_cmp x) (sym e) ∙ tied_itself thing_total x) h)

drops-above : (marked : Thing → Bool) (x : Thing) (es : List (Thing × (ℕ × Option Row))) → T (below_all thing_cmp x es) → amount_of x (drops marked es) ≡ 0
drops-above marked x [] h = amount-nil x
drops-above marked x (e ∷ es) h =
    let parts = both_true _ _ h in
    let rest = drops-above marked x es parts.1 in
    elim (not (marked e.0)) as (λ b. amount_of x (map counted (cond b (e ∷ filter (λ e. not (marked e.0)) es) (filter (λ e. not (marked e.0)) es))) ≡ 0) [
      | true ↦ amount-other x (counted e) (drops marked es) (not_above x e.0 parts.0) ∙ rest
      | false ↦ rest
    ]

drops-cons : (marked : Thing → Bool) (x : Thing) (e : Thing × (ℕ × Option Row)) (es : List (Thing × (ℕ × Option Row)))
    → amount_of x (drops marked (e ∷ es)) ≡ cond (marked e.0) 0 (cond (is_thing x e.0) e.1.0 0) + amount_of x (drops marked es)
drops-cons marked x e es =
    let others = filter (λ (f : Thing × (ℕ × Option Row)). not (marked f.0)) es in
    elim (marked e.0) as (λ b. amount_of x (map counted (cond (not b) (e ∷ others) others)) ≡ cond b 0 (cond (is_thing x e.0) e.1.0 0) + amount_of x (drops marked es)) [
      | true ↦ omega arith
      | false ↦ ⊎_elim
          (λ same. rw (is_eq_true x e.0 same) (amount-same x (counted e) (drops marked es) same))
          (λ other. rw (is_ne_false x e.0 other) (let u = amount-other x (counted e) (drops marked es) other in omega arith))
          (cases_thing x e.0)
    ]

cond_none : (b : Bool) → ◌≡◌ {A = ℕ} 0 (cond b 0 0)
cond_none true = refl
cond_none false = refl

drops-find : (marked : Thing → Bool) (x : Thing) (es : List (Thing × (ℕ × Option Row))) → T (m.is_sorted thing_cmp es)
    → amount_of x (drops marked es) ≡ cond (marked x) 0 (entry_count (m.find thing_cmp x es))
drops-find marked x [] h = amount-nil x ∙ cond_none (marked x)
drops-find marked x (e ∷ es) h =
    let parts : T (below_all thing_cmp e.0 es) × T (m.is_sorted thing_cmp es) = both_true _ _ h in
    drops-cons marked x e es ∙ ⊎_elim (here parts.0) (λ other. rw (is_ne_false x e.0 other) (nothing (marked e.0) _ _ (drops-find marked x es parts.1))) (cases_thing x e.0)
  where
    nothing : (b : Bool) (m n : ℕ) → m ≡ n → cond b 0 0 + m ≡ n
    nothing true m n e = omega arith
    nothing false m n e = omega arith

    here : T (below_all thing_cmp e.0 es) → x ≡ e.0
        → cond (marked e.0) 0 (cond (is_thing x e.0) e.1.0 0) + amount_of x (drops marked es) ≡ cond (marked x) 0 (entry_count (m.find thing_cmp x (e ∷ es)))
    here above same =
        let z : amount_of x (drops marked es) ≡ 0 = drops-above marked x es (rw same above) in
        rw (is_eq_true x e.0 same, same) (rw (← same) (omega arith))

-- of what is not marked all that is held goes back
pub amount-given_back : (marked : Thing → Bool) (c : Holdings) (x : Thing) → amount_of x (given_back marked c) ≡ cond (marked x) 0 (held_in c x)
unfolding given_back held_in
amount-given_back marked c x = drops-find marked x (m.entries c.foreign) (m.entries_sorted c.foreign) ∙ ap (λ o. cond (marked x) 0 (entry_count o)) (sym (m.get-entries c.foreign x))

-- what `find` finds in sorted entries is at least 1
abbrev Found : List (Thing × (ℕ × Option Row)) → Type 0
Found es = (x : Thing) (e : ℕ × Option Row) → m.find thing_cmp x es ≡ Some e → 0 < e.0

pub find_above : (x : Thing) (es : List (Thing × (ℕ × Option Row))) → T (below_all thing_cmp x es) → m.find thing_cmp x es ≡ None
find_above x [] h = refl
find_above x (e ∷ es) h = let p = both_true _ _ h in rw (is_ne_false x e.0 (not_above x e.0 p.0)) (find_above x es p.1)

found_tail : (y : Thing × (ℕ × Option Row)) (es : List (Thing × (ℕ × Option Row))) → T (below_all thing_cmp y.0 es) → Found (y ∷ es) → Found es
found_tail y es above f x e is = ⊎_elim
    (λ same. let n = find_above y.0 es above in let n' = rw (← same) at n in cc)
    (λ other. f x e (rw (is_ne_false x y.0 other) is))
    (cases_thing x y.0)

drops_counted : (marked : Thing → Bool) (es : List (Thing × (ℕ × Option Row))) → T (m.is_sorted thing_cmp es) → Found es → AllCounted (drops marked es)
drops_counted marked [] s f = tt
drops_counted marked (y ∷ es) s f =
    let p = both_true _ _ s in
    let rest = drops_counted marked es p.1 (found_tail y es p.0 f) in
    elim (not (marked y.0)) as (λ b. AllCounted (map counted (cond b (y ∷ filter (λ e. not (marked e.0)) es) (filter (λ e. not (marked e.0)) es)))) [
      | true ↦ (f y.0 y.1 (rw (is_self y.0) refl), rest)
      | false ↦ rest
    ]

-- so each amount that goes back is at least 1
pub firm_counted : (marked : Thing → Bool) (c : Holdings) → IsFirm c → AllCounted (given_back marked c)
unfolding given_back
firm_counted marked c f = drops_counted marked (m.entries c.foreign) (m.entries_sorted c.foreign) (λ x e is. f x e (m.get-entries c.foreign x ∙ is))

pub firm_sweep : (marked : Thing → Bool) (me : ℕ) (c : Holdings) → IsFirm c → IsFirm (sweep marked me c)
firm_sweep marked me c f x e is = by_mark (marked x) (sym (get_entry-sweep marked me c x) ∙ is)
  where
    by_mark : (b : Bool) → cond b (m.get c.foreign x) None ≡ Some e → 0 < e.0
    by_mark true h = f x e h
    by_mark false h = cc

pub next-sweep : (marked : Thing → Bool) (me : ℕ) (c : Holdings) → (sweep marked me c).next ≡ c.next
unfolding sweep
next-sweep marked me c = refl

-- ---- what an actor knows

cond_some : {A : Type 0} (b : Bool) (o : Option A) → is_some (cond b o None) ≡ true → (b ≡ true) × (is_some o ≡ true)
cond_some true o h = (refl, h)
cond_some false o h = cc

cond_pos : (b : Bool) (n : ℕ) → 0 < cond b n 0 → (b ≡ true) × (0 < n)
cond_pos true n h = (refl, h)
cond_pos false n h = absurd (omega arith)

module _ (marked : Thing → Bool) (me : ℕ) (c : Holdings) where
  -- it held what it still holds, and that is marked
  pub held_before : (x : Thing) → 0 < held_in (sweep marked me c) x → (marked x ≡ true) × (0 < held_in c x)
  held_before x h = cond_pos (marked x) (held_in c x) (subst (λ n. 0 < n) (held-sweep marked me c x) h)

  pub has-sweep_marked : (x : Thing) → owner_of x ≡ me → marked x ≡ true → has_own c x ≡ true → has_own (sweep marked me c) x ≡ true
  unfolding has_own stays
  has-sweep_marked (Actor a) o h is = refl
  has-sweep_marked (Obj n) o h is =
      let here : marked (Obj (record { owner = me; serial = n.serial })) ≡ true = subst (λ b. marked (Obj (record { owner = b; serial = n.serial })) ≡ true) o h in
      ap is_some (get_row-sweep marked me c n.serial) ∙ rw here is

  pub has-sweep : (x : Thing) → has_own (sweep marked me c) x ≡ true → has_own c x ≡ true
  unfolding has_own
  has-sweep (Actor a) h = refl
  has-sweep (Obj n) h = (cond_some _ _ (sym (ap is_some (get_row-sweep marked me c n.serial)) ∙ h)).1

  pub row-sweep : (x : Thing) → IsKnown me (sweep marked me c) x → row_at me (sweep marked me c) x ≡ row_at me c x
  unfolding row_of has_own
  row-sweep (Actor a) h = refl
  row-sweep (Obj n) (inl own) =
      let k = n.serial in
      let stayed = (cond_some _ _ (sym (ap is_some (get_row-sweep marked me c k)) ∙ own.1)).0 in
      rw (eq-eqb n.owner me own.0) (ap own_row (get_row-sweep marked me c k ∙ ap (λ t. cond t (m.get c.rows k) None) stayed))
  row-sweep (Obj n) (inr other) =
      rw (ne_eqb n.owner me other.0) (ap entry_row (get_entry-sweep marked me c (Obj n) ∙ ap (λ t. cond t (m.get c.foreign (Obj n)) None) (held_before (Obj n) other.1).0))

  pub known-sweep : (x : Thing) → IsKnown me (sweep marked me c) x → IsKnown me c x
  known-sweep x (inl own) = inl (own.0, has-sweep x own.1)
  known-sweep x (inr other) = inr (other.0, (held_before x other.1).1)

  pub known-marked : (x : Thing) → marked x ≡ true → IsKnown me c x → IsKnown me (sweep marked me c) x
  known-marked x h (inl own) = inl (own.0, has-sweep_marked x own.0 h own.1)
  known-marked x h (inr other) = inr (other.0, rw (held-sweep marked me c x, h) other.1)

-- ---- collecting keeps what the actor has closed

module _ (all : Thing → Option Row) (marked : Thing → Bool) (me : ℕ) (c : Cell)
    (idle : c.frame ≡ None)
    (sound : (x : Thing) → marked x ≡ true → ReachesThrough (row_at me c.holdings) (Names c.fields.values) x)
    (whole : (x : Thing) → ReachesThrough (row_at me c.holdings) (Names c.fields.values) x → marked x ≡ true)
    (closed : IsClosedAt all me c) (rows : RowsAreAt all me c.holdings) where
  abbrev swept : Cell
  swept = record c { holdings = sweep marked me c.holdings; dirty = false }

  swept_root : (x : Thing) → StartsWalks swept x → ReachesThrough all (StartsWalks c) x × (marked x ≡ true)
  swept_root x (in_fields h) = (root (in_fields h), whole x (root h))
  swept_root x (in_frame h) = absurd (subst (λ f. InFrame f x) idle h)
  swept_root x (in_table h) = let k = held_before marked me c.holdings x h in (root (in_table k.1), k.0)

  reached_marked : (x : Thing) → ReachesThrough all (StartsWalks swept) x → ReachesThrough all (StartsWalks c) x × (marked x ≡ true)
  reached_marked x h = reach_into all (λ x. ReachesThrough all (StartsWalks c) x × (marked x ≡ true)) swept_root
      (λ x y r p e n. (along_row all p.0 e n, whole y (along_row (row_at me c.holdings) (sound x p.1) (rows x (closed x p.0) ∙ e) n)))
      (λ n p. (owned p.0, whole (Actor n.owner) (owned (sound (Obj n) p.1)))) h

  pub collect_closed : IsClosedAt all me swept
  collect_closed x h = let z = reached_marked x h in known-marked marked me c.holdings x z.1 (closed x z.0)

  pub collect_rows : RowsAreAt all me swept.holdings
  collect_rows x k = row-sweep marked me c.holdings x k ∙ rows x (known-sweep marked me c.holdings x k)
