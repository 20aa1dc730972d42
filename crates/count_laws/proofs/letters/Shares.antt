-- What is minted, and what goes back to each owner, is for that owner alone, each thing once, in the order of things.
use Rattle.std.proofs.Common.{◌≡◌, ℕ, ◌<◌, ◌==◌, not, cond, Bool, true, false, T, Option, None, List, [], ◌∷◌, Contains, filter, map, refl, ap, sym, ◌∙◌, arith, subst, ⊎_elim, eq-eqb, ne_eqb, eqb-true}
use Rattle.std.specs.FinMap as m
use Rattle.std.specs.FinMap.Entries.{below_all}
use Rattle.std.specs.List.{AllByRecursion}
use Rattle.std.specs.List.Sorted.{IsStrictlySortedBy}
use Rattle.std.specs.Ordering.{is_lt}
use Rattle.std.specs.Prelude.{if◌then◌else◌}
use Rattle.std.specs.declared.cmp.Ordering.{Ordering}
use Rattle.std.specs.declared.cmp.Ordering.TheVariants.{Less, Equal, Greater}
use Rattle.std.proofs.lemmas.Bool.{cases_eq}
use Rattle.std.proofs.lemmas.List.{map-id}
use Rattle.std.proofs.lemmas.List.Elements.{All-contains, filter_passes}
use Rattle.std.proofs.lemmas.Map.Keys.{sorted_tail}
use Rattle.std.proofs.lemmas.List.Kept.{IsStrictlySortedBy-filter}
use Rattle.std.proofs.lemmas.List.Sums.{sum_by-cons}
use Rattle.orca_names.proofs.ThingOrder.{cases_thing, is_eq_true}
use Rattle.orca_names.specs.Names.{is_thing, owner_of, thing_cmp, times_among}
use Rattle.orca_names.specs.declared.names.Thing.{Thing}
use Rattle.orca_names.specs.declared.names.Thing.TheVariants.{Actor}
use Rattle.orca_names.specs.declared.names.Value.{Value}
use Rattle.reach_walk.proofs.Elements.{Contains-cons_cases, Contains-head, Contains-later, none_in_nil}
use Rattle.reach_walk.proofs.InOrder.{first_less, in_order-only, in_order-sorted, sorted_cons, sorted_nil}
use Rattle.reach_walk.specs.Marks.{in_order, with_owners}
use Rattle.letter_kinds.proofs.Counts.{amount-nil, amount-other}
use Rattle.letter_kinds.proofs.Raising.{times_in}
use Rattle.letter_kinds.specs.Counting.{Amount, Loaded, by_owner, given_back, is_lacking, join_owner, to_mint}
use Rattle.letter_kinds.specs.Holdings.{Holdings, Row}
use Rattle.letter_kinds.specs.Sums.{amount_of}
use Rattle.count_laws.proofs.balance.Sweeping.{both_true}
use Rattle.count_laws.proofs.knowledge.Loads.{load_exact, load_from-exact}
use Rattle.count_laws.proofs.letters.Once.{none_more, sorted_once}
use Rattle.machine_rules.specs.Go.{lacking_from, lacks, load_from, to_need}
use Rattle.count_laws.specs.Letters.{AreFor}
use Rattle.orca_names.specs.declared.trace.Trace.{Trace}
use Rattle.orca_names.specs.declared.trace.Trace.TheVariants.{Deep, Roots}

-- ---- the things that stand in pairs, and those that a filter keeps

abbrev things_of : {A : Type 0} → List (Thing × A) → List Thing
things_of es = map (λ e. e.0) es

abbrev IsRising : List Thing → Type 0
IsRising xs = IsStrictlySortedBy thing_cmp xs

times_of : {A : Type 0} (x : Thing) (es : List (Thing × A)) → times_among x es ≡ times_in (λ y. y) x (things_of es)
times_of x [] = refl
times_of x (e ∷ es) = omega (arith, times_of x es, sum_by-cons (λ f. if is_thing x f.0 then 1 else 0) e es, sum_by-cons (λ y. if is_thing x y then 1 else 0) e.0 (things_of es))

some_in : (x : Thing) (ys : List Thing) → 0 < times_in (λ y. y) x ys → Contains ys x
some_in x [] h = absurd (omega arith)
some_in x (y ∷ ys) h = ⊎_elim
    (λ is. subst (Contains (y ∷ ys)) (sym is) (Contains-head y ys))
    (λ not. Contains-later y ys x (some_in x ys (let t = none_more x y ys not in omega arith)))
    (cases_thing x y)

-- things of one owner that rise
are_for : (a : ℕ) (es : List Amount) → ((x : Thing) → Contains (things_of es) x → owner_of x ≡ a) → IsRising (things_of es) → AreFor a es
are_for a es own rising = record {
  own = λ x some. own x (some_in x (things_of es) (let t = times_of x es in omega arith));
  once = λ x. let t = times_of x es in let o = sorted_once x (things_of es) rising in omega arith;
  rising = rising;
}

module _ {A : Type 0} (thing : A → Thing) where
  kept_things : (p : Thing → Bool) (es : List A) → map thing (filter (λ e. p (thing e)) es) ≡ filter p (map thing es)
  kept_things p [] = refl
  kept_things p (e ∷ es) = elim (p (thing e)) as (λ b. map thing (cond b (e ∷ filter (λ e. p (thing e)) es) (filter (λ e. p (thing e)) es)) ≡ cond b (thing e ∷ filter p (map thing es)) (filter p (map thing es))) [
    | true ↦ ap (λ ys. thing e ∷ ys) (kept_things p es)
    | false ↦ kept_things p es
  ]

  things_with : (value : A → ℕ) (es : List A) → things_of (map (λ e. (thing e, value e)) es) ≡ map thing es
  things_with value [] = refl
  things_with value (e ∷ es) = ap (λ ys. thing e ∷ ys) (things_with value es)

  -- with amounts
  kept_with : (value : A → ℕ) (p : Thing → Bool) (es : List A) → things_of (map (λ e. (thing e, value e)) (filter (λ e. p (thing e)) es)) ≡ filter p (map thing es)
  kept_with value p es = things_with value (filter (λ e. p (thing e)) es) ∙ kept_things p es

passes : (p : Thing → Bool) (xs : List Thing) (x : Thing) → Contains (filter p xs) x → p x ≡ true
passes p xs x c = All-contains (λ y. p y ≡ true) (filter p xs) x (filter_passes p xs) c

was_there : (p : Thing → Bool) (xs : List Thing) (x : Thing) → Contains (filter p xs) x → Contains xs x
was_there p [] x c = c
was_there p (y ∷ ys) x c = elim (p y) as (λ b. Contains (cond b (y ∷ filter p ys) (filter p ys)) x → Contains (y ∷ ys) x) [
  | true ↦ λ c. ⊎_elim
      (λ is. subst (Contains (y ∷ ys)) is (Contains-head y ys))
      (λ later. Contains-later y ys x (was_there p ys x later))
      (Contains-cons_cases y (filter p ys) x c)
  | false ↦ λ c. Contains-later y ys x (was_there p ys x c)
] c

-- ---- what is minted

load_rising : (trace : Trace) (me : ℕ) (h : Holdings) (args : List Value) → IsRising (things_of (load_from trace me h args))
load_rising Deep me h args = (load_from-exact me h args).rising
load_rising Roots me h args = (load_exact (λ n. None) [] args (λ n row e. cc)).rising

pub mint_is_for : (trace : Trace) (w me b : ℕ) (h : Holdings) (args : List Value) (lacked : List Loaded) → lacking_from trace me h args ≡ lacked → AreFor b (to_mint w b lacked)
mint_is_for trace w me b h args lacked is =
    let lacks : things_of lacked ≡ filter (is_lacking me h) (things_of (load_from trace me h args)) = ap things_of (sym is) ∙ kept_things (λ (e : Loaded). e.0) (is_lacking me h) (load_from trace me h args) in
    let minted : things_of (to_mint w b lacked) ≡ filter (λ y. owner_of y == b) (things_of lacked) = kept_with (λ (e : Loaded). e.0) (λ e. w) (λ y. owner_of y == b) lacked in
    are_for b (to_mint w b lacked)
    (λ x c. eqb-true (owner_of x) b (passes (λ y. owner_of y == b) (things_of lacked) x (subst (λ ys. Contains ys x) minted c)))
    (subst IsRising (sym minted) (IsStrictlySortedBy-filter thing_cmp (λ y. owner_of y == b) (things_of lacked)
    (subst IsRising (sym lacks) (IsStrictlySortedBy-filter thing_cmp (is_lacking me h) (things_of (load_from trace me h args)) (load_rising trace me h args)))))

pub need_is_for : (w me : ℕ) (h : Holdings) (x : Thing) → AreFor (owner_of x) (to_need w me h x)
need_is_for w me h x =
    let pair = in_order (with_owners (x ∷ [])) in
    let needed : things_of (to_need w me h x) ≡ filter (lacks me h) pair = kept_with (λ (y : Thing). y) (λ y. w) (lacks me h) pair ∙ ap (filter (lacks me h)) (map-id pair) in
    are_for (owner_of x) (to_need w me h x)
    (λ y c. ⊎_elim
    (λ same. ap owner_of (sym same))
    (λ later. ⊎_elim (λ same. ap owner_of (sym same)) (λ none. none_in_nil y _ none) (Contains-cons_cases (Actor (owner_of x)) [] y later))
    (Contains-cons_cases x (Actor (owner_of x) ∷ []) y (in_order-only (with_owners (x ∷ [])) y (was_there (lacks me h) pair y (subst (λ ys. Contains ys y) needed c)))))
    (subst IsRising (sym needed) (IsStrictlySortedBy-filter thing_cmp (lacks me h) pair (in_order-sorted (with_owners (x ∷ [])))))

-- what has an amount stands there
pub among_some : (x : Thing) (things : List Amount) → 0 < amount_of x things → 0 < times_among x things
among_some x [] some = absurd (let z = amount-nil x in omega arith)
among_some x (e ∷ es) some = ⊎_elim
    (λ is. rw (sum_by-cons (λ f. if is_thing x f.0 then 1 else 0) e es, is_eq_true x e.0 is) (omega arith))
    (λ not. let t = sum_by-cons (λ f. if is_thing x f.0 then 1 else 0) e es in let a = amount-other x e es not in let more = among_some x es (omega arith) in omega arith)
    (cases_thing x e.0)

-- ---- what goes back

abbrev Entry : Type 0
Entry = Thing × (ℕ × Option Row)

pub is_less : (o : Ordering) → T (is_lt o) → o ≡ Less
is_less Less h = refl
is_less Equal h = absurd h
is_less Greater h = absurd h

below_all_less : (x : Thing) (es : List Entry) → T (below_all thing_cmp x es) → (y : Thing) → Contains (things_of es) y → thing_cmp x y ≡ Less
below_all_less x [] h y c = none_in_nil y _ c
below_all_less x (e ∷ es) h y c =
    let parts = both_true _ _ h in
    ⊎_elim
    (λ is. subst (λ z. thing_cmp x z ≡ Less) is (is_less (thing_cmp x e.0) parts.0))
    (λ later. below_all_less x es parts.1 y later)
    (Contains-cons_cases e.0 (things_of es) y c)

entries_rise : (es : List Entry) → T (m.is_sorted thing_cmp es) → IsRising (things_of es)
entries_rise [] h = sorted_nil
entries_rise (e ∷ es) h = let parts = both_true _ _ h in sorted_cons e.0 (things_of es) (below_all_less e.0 es parts.0) (entries_rise es parts.1)

back_rises : (marked : Thing → Bool) (h : Holdings) → IsRising (things_of (given_back marked h))
unfolding given_back
back_rises marked h =
    subst IsRising (sym (kept_with (λ (e : Entry). e.0) (λ e. e.1.0) (λ y. not (marked y)) (m.entries h.foreign)))
    (IsStrictlySortedBy-filter thing_cmp (λ y. not (marked y)) (things_of (m.entries h.foreign)) (entries_rise (m.entries h.foreign) (m.entries_sorted h.foreign)))

-- ---- by owner

abbrev Group : Type 0
Group = ℕ × List Amount

-- the group has some of these, its owner's, which rise
record IsShare (es : List Amount) (g : Group) : Type 0 where
  own : (x : Thing) → Contains (things_of g.1) x → owner_of x ≡ g.0
  among : (x : Thing) → Contains (things_of g.1) x → Contains (things_of es) x
  rising : IsRising (things_of g.1)

shares_later : (e : Amount) (es : List Amount) (gs : List Group) → AllByRecursion (IsShare es) gs → AllByRecursion (IsShare (e ∷ es)) gs
shares_later e es [] h = tt
shares_later e es (g ∷ gs) h = (record { own = h.0.own; among = λ x c. Contains-later e.0 (things_of es) x (h.0.among x c); rising = h.0.rising }, shares_later e es gs h.1)

-- one more in front
share_more : (e : Amount) (es : List Amount) (b : ℕ) (things : List Amount) → IsRising (things_of (e ∷ es)) → owner_of e.0 ≡ b → IsShare es (b, things) → IsShare (e ∷ es) (b, e ∷ things)
share_more e es b things rises mine q = record {
  own = λ x c. ⊎_elim (λ is. ap owner_of (sym is) ∙ mine) (λ later. q.own x later) (Contains-cons_cases e.0 (things_of things) x c);
  among = λ x c. ⊎_elim
      (λ is. subst (Contains (things_of (e ∷ es))) is (Contains-head e.0 (things_of es)))
      (λ later. Contains-later e.0 (things_of es) x (q.among x later))
      (Contains-cons_cases e.0 (things_of things) x c);
  rising = sorted_cons e.0 (things_of things) (λ y c. first_less e.0 (things_of es) rises y (q.among y c)) q.rising;
}

share_none : (es : List Amount) (b : ℕ) → IsShare es (b, [])
share_none es b = record { own = λ x c. none_in_nil x _ c; among = λ x c. none_in_nil x _ c; rising = sorted_nil }

shares_join : (e : Amount) (es : List Amount) (gs : List Group) → IsRising (things_of (e ∷ es)) → AllByRecursion (IsShare es) gs → AllByRecursion (IsShare (e ∷ es)) (join_owner e gs)
shares_join e es [] rises h = (share_more e es (owner_of e.0) [] rises refl (share_none es (owner_of e.0)), tt)
shares_join e es (g ∷ gs) rises h = ⊎_elim
    (λ same. rw (eq-eqb (owner_of e.0) g.0 same) (share_more e es g.0 g.1 rises same h.0, shares_later e es gs h.1))
    (λ other. rw (ne_eqb (owner_of e.0) g.0 other) (share_more e es (owner_of e.0) [] rises refl (share_none es (owner_of e.0)), shares_later e es (g ∷ gs) h))
    (cases_eq (owner_of e.0) g.0)

shares : (es : List Amount) → IsRising (things_of es) → AllByRecursion (IsShare es) (by_owner es)
unfolding by_owner
shares [] rises = tt
shares (e ∷ es) rises = shares_join e es (by_owner es) rises (shares es (sorted_tail thing_cmp e.0 (things_of es) rises))

-- each group is for its owner
abbrev pub AreForOwners : List (ℕ × List Amount) → Type 0
AreForOwners groups = AllByRecursion (λ g. AreFor g.0 g.1) groups

groups_for : (es : List Amount) (gs : List Group) → AllByRecursion (IsShare es) gs → AreForOwners gs
groups_for es [] h = tt
groups_for es (g ∷ gs) h = (are_for g.0 g.1 h.0.own h.0.rising, groups_for es gs h.1)

pub back_is_for : (marked : Thing → Bool) (h : Holdings) → AreForOwners (by_owner (given_back marked h))
back_is_for marked h = groups_for (given_back marked h) (by_owner (given_back marked h)) (shares (given_back marked h) (back_rises marked h))
