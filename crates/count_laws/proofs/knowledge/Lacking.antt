-- What an actor lacks of a load, and what it mints.
use Rattle.std.proofs.Common.{◌≡◌, ◌≢◌, ℕ, zero, suc, ◌<◌, ◌≤◌, ◌==◌, ◌&&◌, not, cond, Bool, true, false, Option, List, [], ◌∷◌, map, refl, ◌∙◌, ap, arith, ⊎_elim, eq-eqb, ne_eqb, eqb-true}
use Rattle.std.proofs.lemmas.Bool.{and_parts, cases_eq, eqb-false, not-true}
use Rattle.std.specs.List.{filter}
use Rattle.orca_names.proofs.ThingOrder.{cases_thing}
use Rattle.orca_names.specs.Names.{owner_of}
use Rattle.orca_names.specs.declared.names.Thing.{Thing}
use Rattle.letter_kinds.proofs.Counts.{amount-nil, amount-same, amount-other, loaded-nil, loaded-other}
use Rattle.letter_kinds.specs.Counting.{Loaded, is_lacking, lacking_of, to_mint}
use Rattle.letter_kinds.specs.Holdings.{Holdings, Row, held_in}
use Rattle.letter_kinds.specs.Sums.{amount_of, times_loaded}
use Rattle.reach_walk.specs.Marks.{in_order, with_owners}
use Rattle.count_laws.proofs.balance.InHand.{AllCounted}
use Rattle.machine_rules.specs.Go.{lacks, to_need}

pub filter_none : (p : Thing → Bool) (x : Thing) (es : List (Thing × Option Row)) → filter (λ e. p e.0) es ≡ [] → 0 < times_loaded x es → p x ≡ false
filter_none p x [] e h = absurd (omega (arith, loaded-nil x))
filter_none p x (y ∷ es) e h = elim (p y.0) as (λ b. p y.0 ≡ b → cond b (y ∷ filter (λ e. p e.0) es) (filter (λ e. p e.0) es) ≡ [] → p x ≡ false) [
  | true ↦ λ t e. cc
  | false ↦ λ f e. ⊎_elim
      (λ same. ap p same ∙ f)
      (λ other. filter_none p x es e (let z = loaded-other x y es other in omega arith))
      (cases_thing x y.0)
] refl e

pub one_or_more : (a : ℕ) (c : Holdings) (x : Thing) → owner_of x ≢ a → is_lacking a c x ≡ false → held_in c x ≢ 1
one_or_more a c x other lack is = let n = ne_eqb (owner_of x) a other in let o = eq-eqb (held_in c x) 1 is in lies (owner_of x == a) (held_in c x == 1) n o lack
  where
    lies : (p q : Bool) → p ≡ false → q ≡ true → (not p && q) ≢ false
    lies true q n o l = cc
    lies false true n o l = cc
    lies false false n o l = cc

pub some_load : (n h : ℕ) → n ≤ 1 → 0 < h → h ≢ 1 → 0 < n → n < h
some_load n h once pos not some = ⊎_elim (λ e. absurd (not e)) (λ ne. omega arith) (cases_eq h 1)

pub no_load : (n h : ℕ) → (0 < n → n < h) → n ≤ h
no_load zero h f = omega arith
no_load (suc n) h f = let z = f (omega arith) in omega arith

-- what is minted is of one owner, and held
minted_in : (w : ℕ) (x : Thing) (q p : Thing → Bool) (es : List (Thing × Option Row))
    → 0 < amount_of x (map (λ (e : Thing × Option Row). (e.0, w)) (filter (λ e. q e.0) (filter (λ e. p e.0) es))) → (q x ≡ true) × (p x ≡ true)
minted_in w x q p [] h = absurd (omega (arith, amount-nil x))
minted_in w x q p (y ∷ es) h = elim (p y.0) as (λ b. p y.0 ≡ b → 0 < amount_of x (map (λ (e : Thing × Option Row). (e.0, w)) (filter (λ e. q e.0) (cond b (y ∷ filter (λ e. p e.0) es) (filter (λ e. p e.0) es)))) → (q x ≡ true) × (p x ≡ true)) [
  | true ↦ λ pt h. elim (q y.0) as (λ b. q y.0 ≡ b → 0 < amount_of x (map (λ (e : Thing × Option Row). (e.0, w)) (cond b (y ∷ filter (λ e. q e.0) (filter (λ e. p e.0) es)) (filter (λ e. q e.0) (filter (λ e. p e.0) es)))) → (q x ≡ true) × (p x ≡ true)) [
    | true ↦ λ qt h. ⊎_elim
        (λ same. (ap q same ∙ qt, ap p same ∙ pt))
        (λ other. minted_in w x q p es (let z = amount-other x (y.0, w) (map (λ (e : Thing × Option Row). (e.0, w)) (filter (λ e. q e.0) (filter (λ e. p e.0) es))) other in omega arith))
        (cases_thing x y.0)
    | false ↦ λ qf h. minted_in w x q p es h
  ] refl h
  | false ↦ λ pf h. minted_in w x q p es h
] refl h

pub to_mint_theirs : (w a b : ℕ) (c : Holdings) (es : List (Thing × Option Row)) (x : Thing) → 0 < amount_of x (to_mint w b (lacking_of a c es)) → (owner_of x ≡ b) × (0 < held_in c x) × (owner_of x ≢ a)
to_mint_theirs w a b c es x h =
    let z = minted_in w x (λ y. owner_of y == b) (is_lacking a c) es h in
    let o = eqb-true (owner_of x) b z.0 in
    let both = and_parts (not (owner_of x == a)) _ z.1 in
    let one = eqb-true (held_in c x) 1 both.1 in
    (o, omega arith, eqb-false (owner_of x) a (not-true (owner_of x == a) both.0))

pub counted_mint : (w : ℕ) → 0 < w → (b : ℕ) (es : List Loaded) → AllCounted (to_mint w b es)
counted_mint w pos b [] = tt
counted_mint w pos b (e ∷ es) = elim (owner_of e.0 == b) as (λ t. AllCounted (map (λ (e : Loaded). (e.0, w)) (cond t (e ∷ filter (λ e. owner_of e.0 == b) es) (filter (λ e. owner_of e.0 == b) es)))) [
  | true ↦ (pos, counted_mint w pos b es)
  | false ↦ counted_mint w pos b es
]

pub first_minted : (w : ℕ) → 0 < w → (e : Loaded) (es : List Loaded) → 0 < amount_of e.0 (to_mint w (owner_of e.0) (e ∷ es))
first_minted w pos e es = rw (eq-eqb (owner_of e.0) (owner_of e.0) refl) (let z = amount-same e.0 (e.0, w) (map (λ (e : Loaded). (e.0, w)) (filter (λ y. owner_of y.0 == owner_of e.0) es)) refl in omega arith)

-- what is minted for a thing that the actor got is not its own, and not held
needed_in : (w : ℕ) (y : Thing) (p : Thing → Bool) (xs : List Thing) → 0 < amount_of y (map (λ z. (z, w)) (filter p xs)) → p y ≡ true
needed_in w y p [] h = absurd (omega (arith, amount-nil y))
needed_in w y p (x ∷ xs) h = elim (p x) as (λ b. p x ≡ b → 0 < amount_of y (map (λ (z : Thing). (z, w)) (cond b (x ∷ filter p xs) (filter p xs))) → p y ≡ true) [
  | true ↦ λ pt h. ⊎_elim
      (λ same. ap p same ∙ pt)
      (λ other. needed_in w y p xs (let z = amount-other y (x, w) (map (λ (z : Thing). (z, w)) (filter p xs)) other in omega arith))
      (cases_thing y x)
  | false ↦ λ pf h. needed_in w y p xs h
] refl h

pub to_need_lacks : (w me : ℕ) (h : Holdings) (x y : Thing) → 0 < amount_of y (to_need w me h x) → (owner_of y ≢ me) × (held_in h y ≡ 0)
to_need_lacks w me h x y some =
    let both = and_parts (not (owner_of y == me)) (held_in h y == 0) (needed_in w y (lacks me h) (in_order (with_owners (x ∷ []))) some) in
    (eqb-false (owner_of y) me (not-true (owner_of y == me) both.0), eqb-true (held_in h y) 0 both.1)
