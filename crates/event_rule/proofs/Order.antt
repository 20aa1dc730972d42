-- The one-worker order by round, number and turn, and whose events are in which round.
use Rattle.std.proofs.Common.{◌≡◌, ◌≢◌, ◌≤◌, ◌<◌, ◌==◌, ◌+◌, ◌*◌, ℕ, Bool, true, false, Some, None, refl, sym, ap, subst, ◌∙◌, arith, ⊎_elim, eqb-true}
use Rattle.std.specs.Prelude.{if◌then◌else◌, MatchOption}
use Rattle.std.specs.Ordering.{nat_cmp, ordering_then}
use Rattle.std.specs.Cmp.{nat_cmp_is}
use Rattle.std.specs.declared.cmp.Ordering.{Ordering}
use Rattle.std.specs.declared.cmp.Ordering.TheVariants.{Less, Equal, Greater}
use Rattle.std.proofs.lemmas.Bool.{cases_lt}
use Rattle.std.proofs.lemmas.Bool.Decides.{nat_tests}
use Rattle.event_rule.specs.Events.{actor_or_token, first_of, is_of, is_of_detector, round_of, turn_in_round}
use Rattle.event_rule.specs.declared.event.Event.{Event}
use Rattle.event_rule.specs.declared.event.Event.TheVariants.{Take, Go, Collect, Leave, Block, Hear, Scan, Reap}
use Rattle.event_rule.proofs.Ordered.{Upto}

-- ---- the order

-- of two rounds, two numbers and how the turns compare
abbrev compared : ℕ → ℕ → ℕ → ℕ → Ordering → Ordering
compared r q n m last = ordering_then (ordering_then (nat_cmp r q) (nat_cmp n m)) last

module _ (r q n m : ℕ) (last : Ordering) where
  -- a lower round is less
  lower_round : r < q → compared r q n m last ≡ Less
  lower_round lower = ap (λ o. ordering_then (ordering_then o (nat_cmp n m)) last) (sym (nat_cmp_is r q Less lower))

  -- a higher round is greater
  higher_round : q < r → compared r q n m last ≡ Greater
  higher_round higher =
      ap (λ o. ordering_then (ordering_then o (nat_cmp n m)) last) (sym (nat_cmp_is r q Greater higher))

  -- in a round the numbers count, and then the turns
  in_round : r ≡ q → compared r q n m last ≡ ordering_then (nat_cmp n m) last
  in_round same = ap (λ o. ordering_then (ordering_then o (nat_cmp n m)) last) (sym (nat_cmp_is r q Equal same))

  -- a lower number in a round is less
  lower_number : r ≡ q → n < m → compared r q n m last ≡ Less
  lower_number same lower = in_round same ∙ ap (λ o. ordering_then o last) (sym (nat_cmp_is n m Less lower))

  -- at one number in a round the turns count
  by_turn : r ≡ q → n ≡ m → compared r q n m last ≡ last
  by_turn same equal = in_round same ∙ ap (λ o. ordering_then o last) (sym (nat_cmp_is n m Equal equal))

-- a turn that is not later is not greater
turns_rise : (t u : ℕ) → t ≤ u → nat_cmp t u ≢ Greater
turns_rise t u upto g = ⊎_elim
    (λ (below : t < u). let z = nat_cmp_is t u Less below in cc)
    (λ from. let z = nat_cmp_is t u Equal (omega arith) in cc)
    (cases_lt t u)

-- an event comes before another by its round, then by its number, then by its turn
pub upto_by : (e f : Event) → round_of e ≤ round_of f
    → (round_of e ≡ round_of f → actor_or_token e ≤ actor_or_token f)
    → (round_of e ≡ round_of f → actor_or_token e ≡ actor_or_token f → turn_in_round e ≤ turn_in_round f) → Upto e f
upto_by e f round number turn = ⊎_elim
    (λ (lower : r < q) g. let z = lower_round r q n m last lower in cc)
    (λ from. let same : r ≡ q = omega arith in ⊎_elim
    (λ (lower : n < m) g. let z = lower_number r q n m last same lower in cc)
    (λ still g. let equal : n ≡ m = omega (arith, number same) in
    turns_rise (turn_in_round e) (turn_in_round f) (turn same equal) (sym (by_turn r q n m last same equal) ∙ g))
    (cases_lt n m))
    (cases_lt r q)
  where
    r : ℕ
    r = round_of e

    q : ℕ
    q = round_of f

    n : ℕ
    n = actor_or_token e

    m : ℕ
    m = actor_or_token f

    last : Ordering
    last = nat_cmp (turn_in_round e) (turn_in_round f)

-- what comes before is of no later round
pub rounds_rise : (e f : Event) → Upto e f → round_of e ≤ round_of f
rounds_rise e f upto = ⊎_elim
    (λ (higher : round_of f < round_of e). absurd (upto
    (higher_round (round_of e) (round_of f) (actor_or_token e) (actor_or_token f) last higher)))
    (λ from. from)
    (cases_lt (round_of f) (round_of e))
  where
    last : Ordering
    last = nat_cmp (turn_in_round e) (turn_in_round f)

-- ---- the events of an actor

-- an actor is itself
pub itself : (a : ℕ) → (a == a) ≡ true
itself a = grind (arith, nat_tests)

-- what holds of the five events of an actor holds of each of its events
pub own : (P : Event → Type 0) (a : ℕ) → P (Go a) → P (Take a) → P (Collect a) → P (Leave a) → P (Block a)
    → (f : Event) → is_of a f ≡ true → P f
own P a go take collect leave block (Go b) is = subst (λ n. P (Go n)) (sym (eqb-true b a is)) go
own P a go take collect leave block (Take b) is = subst (λ n. P (Take n)) (sym (eqb-true b a is)) take
own P a go take collect leave block (Collect b) is = subst (λ n. P (Collect n)) (sym (eqb-true b a is)) collect
own P a go take collect leave block (Leave b) is = subst (λ n. P (Leave n)) (sym (eqb-true b a is)) leave
own P a go take collect leave block (Block b) is = subst (λ n. P (Block n)) (sym (eqb-true b a is)) block
own P a go take collect leave block Hear is = cc
own P a go take collect leave block Scan is = cc
own P a go take collect leave block (Reap number) is = cc

-- its events have its number
pub number_of : (a : ℕ) (f : Event) → is_of a f ≡ true → actor_or_token f ≡ a
number_of a = own (λ f. actor_or_token f ≡ a) a refl refl refl refl refl

-- an event of the first rounds is that of the actor of its number
pub of_number : (f : Event) → round_of f ≤ 1 → is_of (actor_or_token f) f ≡ true
of_number (Go a) early = itself a
of_number (Take a) early = itself a
of_number (Collect a) early = itself a
of_number (Leave a) early = itself a
of_number (Block a) early = itself a
of_number f early = absurd (omega (arith, early))

-- where an event stands among those of its actor
abbrev pub stand : Event → ℕ
stand e = 3 * round_of e + turn_in_round e

-- the events of one actor come in this order
pub own_upto : (a : ℕ) (e f : Event) → is_of a e ≡ true → is_of a f ≡ true → stand e ≤ stand f → Upto e f
own_upto a e f mine its upto =
    let turn : turn_in_round f ≤ 2 = own (λ g. turn_in_round g ≤ 2) a
    (omega arith) (omega arith) (omega arith) (omega arith) (omega arith) f its in
    let same : actor_or_token e ≡ actor_or_token f = number_of a e mine ∙ sym (number_of a f its) in
    upto_by e f (omega arith) (λ r. omega arith) (λ r n. omega arith)

-- a test that fails does not hold
pub off : {A : Type 0} (b : Bool) → b ≡ false → b ≡ true → A
off b is_off is_on = absurd (let z = sym is_off ∙ is_on in cc)

module _ (passes : Event → Bool) (a : ℕ) where
  -- it is an event of this actor that passes, and comes before the others that pass
  abbrev pub IsFirstOf : Event → Type 0
  IsFirstOf e = (is_of a e ≡ true) × (passes e ≡ true)
      × ((f : Event) → is_of a f ≡ true → passes f ≡ true → Upto e f)

  -- none of its events passes
  abbrev pub NonePasses : Type 0
  NonePasses = (f : Event) → is_of a f ≡ true → passes f ≡ true → ⊥

  -- another that passes does not stand before this one
  abbrev StandsFrom : Event → Event → Type 0
  StandsFrom e f = passes f ≡ true → stand e ≤ stand f

  first : (e : Event) → is_of a e ≡ true → passes e ≡ true → ((f : Event) → is_of a f ≡ true → StandsFrom e f) → IsFirstOf e
  first e mine on least = (mine, on, λ f its its_on. own_upto a e f mine its (least f its its_on))

  -- the first of an actor's events that pass comes before the others that pass; none: none passes
  pub first_is : MatchOption (first_of passes a) NonePasses IsFirstOf
  first_is = by (passes (Go a)) (passes (Take a)) (passes (Collect a)) (passes (Leave a)) (passes (Block a)) refl refl refl refl refl
    where
      by : (go take collect leave block : Bool) → passes (Go a) ≡ go → passes (Take a) ≡ take → passes (Collect a) ≡ collect
          → passes (Leave a) ≡ leave → passes (Block a) ≡ block
          → MatchOption (if go then Some (Go a) else (if take then Some (Take a) else (if collect then Some (Collect a)
          else (if leave then Some (Leave a) else (if block then Some (Block a) else None))))) NonePasses IsFirstOf
      by true take collect leave block g t c l b = first (Go a) (itself a) g (own (StandsFrom (Go a)) a
          (λ on. omega arith) (λ on. omega arith) (λ on. omega arith) (λ on. omega arith) (λ on. omega arith))
      by false true collect leave block g t c l b = first (Take a) (itself a) t (own (StandsFrom (Take a)) a
          (off (passes (Go a)) g)
          (λ on. omega arith) (λ on. omega arith) (λ on. omega arith) (λ on. omega arith))
      by false false true leave block g t c l b = first (Collect a) (itself a) c (own (StandsFrom (Collect a)) a
          (off (passes (Go a)) g) (off (passes (Take a)) t)
          (λ on. omega arith) (λ on. omega arith) (λ on. omega arith))
      by false false false true block g t c l b = first (Leave a) (itself a) l (own (StandsFrom (Leave a)) a
          (off (passes (Go a)) g) (off (passes (Take a)) t) (off (passes (Collect a)) c)
          (λ on. omega arith) (λ on. omega arith))
      by false false false false true g t c l b = first (Block a) (itself a) b (own (StandsFrom (Block a)) a
          (off (passes (Go a)) g) (off (passes (Take a)) t) (off (passes (Collect a)) c) (off (passes (Leave a)) l)
          (λ on. omega arith))
      by false false false false false g t c l b = own (λ f. passes f ≡ true → ⊥) a
          (off (passes (Go a)) g) (off (passes (Take a)) t) (off (passes (Collect a)) c) (off (passes (Leave a)) l)
          (off (passes (Block a)) b)

-- ---- the events of the detector

-- what holds of the events of the detector holds of each of its events
pub theirs : (P : Event → Type 0) → P Hear → P Scan → ((number : ℕ) → P (Reap number))
    → (f : Event) → is_of_detector f ≡ true → P f
theirs P hear scan reap Hear is = hear
theirs P hear scan reap Scan is = scan
theirs P hear scan reap (Reap number) is = reap number
theirs P hear scan reap e is = absurd (let z : false ≡ true = is in cc)

-- an event of the last rounds is the detector's
pub of_rest : (f : Event) → 2 ≤ round_of f → is_of_detector f ≡ true
of_rest Hear late = refl
of_rest Scan late = refl
of_rest (Reap number) late = refl
of_rest f late = absurd (omega (arith, late))
