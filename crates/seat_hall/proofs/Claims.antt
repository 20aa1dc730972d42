-- The claims that are out, as a list and by actor.
use Rattle.std.proofs.Common.{◌≡◌, ◌≢◌, ℕ, zero, suc, ◌+◌, ◌<◌, ◌==◌, ◌&&◌, Bool, true, false, List, [], ◌∷◌, ◌++◌, length, Option, Some, None, refl, sym, ap, ◌∙◌, arith, set, get_or-set_other, is_some, ◌||◌}
use Rattle.std.specs.Prelude.{find, option_map, if◌then◌else◌, nat_lt}
use Rattle.std.specs.Option.{option_and_then, option_map_or}
use Rattle.std.proofs.lemmas.Bool.Decides.{nat_tests}
use Rattle.event_rule.specs.Events.{actor_of}
use Rattle.event_rule.specs.declared.event.Event.{Event}
use Rattle.hall_rules.specs.Claims.{holder, is_anothers, is_claimed}
use Rattle.hall_rules.specs.declared.claim.Claim.{Claim}
use Rattle.seat_hall.specs.Log.{claim_for, claim_in, grown, listed, released}

-- the claim, unless it is of the one who asks
abbrev pub of_another : Option ℕ → Option ℕ → Option ℕ
of_another asker None = None
of_another asker (Some pass) = if is_anothers asker pass then Some pass else None

-- who has no claim of its own is told each
pub of_any : (o : Option ℕ) → of_another None o ≡ o
of_any None = refl
of_any (Some pass) = refl

same : (n : ℕ) → (n == n) ≡ true
same n = grind (arith, nat_tests)

differ : (n m : ℕ) → n ≢ m → (n == m) ≡ false
differ n m apart = grind (arith, nat_tests)

abbrev first_of : Bool → Claim → Option Claim → Option ℕ
first_of b c rest = option_map (λ (c : Claim). c.pass) (if b then Some c else rest)

-- from the actor n on there is no claim on one before it
none_before : (asker : Option ℕ) (n m : ℕ) (claims : List (Option ℕ)) → m < n → holder asker m (listed n claims) ≡ None
none_before asker n m [] less = refl
none_before asker n m (None ∷ claims) less = none_before asker (n + 1) m claims (omega arith)
none_before asker n m (Some pass ∷ claims) less =
    ap (λ b. first_of (b && is_anothers asker pass) (record { pass = pass; actor = n })
    (find (λ c. (c.actor == m) && is_anothers asker c.pass) (listed (n + 1) claims)))
    (differ n m (λ e. omega arith)) ∙ none_before asker (n + 1) m claims (omega arith)

holder_from : (asker : Option ℕ) (n a : ℕ) (claims : List (Option ℕ))
    → holder asker (n + a) (listed n claims) ≡ of_another asker (claim_in claims a)
holder_from asker n a [] = refl
holder_from asker n zero (None ∷ claims) = none_before asker (n + 1) (n + 0) claims (omega arith)
holder_from asker n (suc a) (None ∷ claims) =
    let e : n + suc a ≡ n + 1 + a = omega arith in
    ap (λ m. holder asker m (listed (n + 1) claims)) e ∙ holder_from asker (n + 1) a claims
holder_from asker n zero (Some pass ∷ claims) =
    let e : n + 0 ≡ n = omega arith in
    ap (λ m. holder asker m (listed n (Some pass ∷ claims))) e
    ∙ (ap (λ b. first_of (b && is_anothers asker pass) (record { pass = pass; actor = n })
    (find (λ c. (c.actor == n) && is_anothers asker c.pass) (listed (n + 1) claims))) (same n)
    ∙ by (is_anothers asker pass))
  where
    by : (b : Bool) → first_of b (record { pass = pass; actor = n })
        (find (λ c. (c.actor == n) && is_anothers asker c.pass) (listed (n + 1) claims)) ≡ (if b then Some pass else None)
    by true = refl
    by false = none_before asker (n + 1) n claims (omega arith)
holder_from asker n (suc a) (Some pass ∷ claims) =
    let e : n + suc a ≡ n + 1 + a = omega arith in
    ap (λ b. first_of (b && is_anothers asker pass) (record { pass = pass; actor = n })
    (find (λ c. (c.actor == n + suc a) && is_anothers asker c.pass) (listed (n + 1) claims)))
    (differ n (n + suc a) (λ e. omega arith))
    ∙ (ap (λ m. holder asker m (listed (n + 1) claims)) e ∙ holder_from asker (n + 1) a claims)

-- who holds an actor is told by its place
pub holder_is : (asker : Option ℕ) (a : ℕ) (claims : List (Option ℕ))
    → holder asker a (listed 0 claims) ≡ of_another asker (claim_in claims a)
holder_is asker a claims =
    let e : a ≡ 0 + a = omega arith in
    ap (λ n. holder asker n (listed 0 claims)) e ∙ holder_from asker 0 a claims

-- ---- changes on another actor

claim_snoc : (claims : List (Option ℕ)) (a : ℕ) → claim_in (claims ++ None ∷ []) a ≡ claim_in claims a
claim_snoc [] zero = refl
claim_snoc [] (suc a) = refl
claim_snoc (c ∷ claims) zero = refl
claim_snoc (c ∷ claims) (suc a) = claim_snoc claims a

pub claim_grown : (n : ℕ) (claims : List (Option ℕ)) (a : ℕ) → claim_in (grown n claims) a ≡ claim_in claims a
claim_grown n claims a = elim (nat_lt (length claims) n) as (λ b. claim_in (if b then claims ++ None ∷ [] else claims) a ≡ claim_in claims a)
    [ true ↦ claim_snoc claims a | false ↦ refl ]

pub claim_set : (claims : List (Option ℕ)) (a b : ℕ) (c : Option ℕ) → b ≢ a → claim_in (set claims a c) b ≡ claim_in claims b
claim_set claims a b c apart = get_or-set_other claims a b c None apart

pub claim_released : (e : Event) (claims : List (Option ℕ)) (b : ℕ) → actor_of e ≢ Some b
    → claim_in (released e claims) b ≡ claim_in claims b
claim_released e claims b apart = by (actor_of e) refl
  where
    by : (who : Option ℕ) → actor_of e ≡ who → claim_in (option_map_or (λ a. set claims a None) who claims) b ≡ claim_in claims b
    by None is = refl
    by (Some a) is = claim_set claims a b None (λ same. apart (is ∙ ap Some (sym same)))

-- where no claim on the event's actor is out, none is taken away
pub released_free : (e : Event) (claims : List (Option ℕ)) → claim_for e claims ≡ None → released e claims ≡ claims
released_free e claims free = by (actor_of e) free
  where
    set_free : (claims : List (Option ℕ)) (a : ℕ) → claim_in claims a ≡ None → set claims a None ≡ claims
    set_free [] a is = refl
    set_free (c ∷ claims) zero is = ap (λ d. d ∷ claims) (sym is)
    set_free (c ∷ claims) (suc a) is = ap (λ xs. c ∷ xs) (set_free claims a is)

    by : (who : Option ℕ) → option_and_then (claim_in claims) who ≡ None → option_map_or (λ a. set claims a None) who claims ≡ claims
    by None is = refl
    by (Some a) is = set_free claims a is

-- it is of no actor that some pass has
pub not_its : (e : Event) (claims : List (Option ℕ)) (a pass : ℕ) → claim_for e claims ≡ None → claim_in claims a ≡ Some pass
    → actor_of e ≢ Some a
not_its e claims a pass free mine acts =
    let clash : None ≡ Some pass = sym free ∙ (ap (option_and_then (claim_in claims)) acts ∙ mine) in cc

-- the last claim on an actor is as it was set
pub claim_unset : (claims : List (Option ℕ)) (a : ℕ) → claim_in (set claims a None) a ≡ None
claim_unset [] a = refl
claim_unset (c ∷ claims) zero = refl
claim_unset (c ∷ claims) (suc a) = claim_unset claims a

pub unset_twice : (claims : List (Option ℕ)) (a : ℕ) → set (set claims a None) a None ≡ set claims a None
unset_twice [] a = refl
unset_twice (c ∷ claims) zero = refl
unset_twice (c ∷ claims) (suc a) = ap (λ xs. c ∷ xs) (unset_twice claims a)

-- ---- set aside

claimed_before : (n m : ℕ) (claims : List (Option ℕ)) → m < n → is_claimed (listed n claims) m ≡ false
claimed_before n m [] less = refl
claimed_before n m (None ∷ claims) less = claimed_before (n + 1) m claims (omega arith)
claimed_before n m (Some pass ∷ claims) less =
    ap (λ b. b || is_claimed (listed (n + 1) claims) m) (differ n m (λ e. omega arith)) ∙ claimed_before (n + 1) m claims (omega arith)

claimed_from : (n a : ℕ) (claims : List (Option ℕ)) → is_claimed (listed n claims) (n + a) ≡ is_some (claim_in claims a)
claimed_from n a [] = refl
claimed_from n zero (None ∷ claims) = claimed_before (n + 1) (n + 0) claims (omega arith)
claimed_from n (suc a) (None ∷ claims) =
    let e : n + suc a ≡ n + 1 + a = omega arith in
    ap (is_claimed (listed (n + 1) claims)) e ∙ claimed_from (n + 1) a claims
claimed_from n zero (Some pass ∷ claims) =
    let e : n + 0 ≡ n = omega arith in
    ap (is_claimed (listed n (Some pass ∷ claims))) e ∙ ap (λ b. b || is_claimed (listed (n + 1) claims) n) (same n)
claimed_from n (suc a) (Some pass ∷ claims) =
    let e : n + suc a ≡ n + 1 + a = omega arith in
    ap (λ b. b || is_claimed (listed (n + 1) claims) (n + suc a)) (differ n (n + suc a) (λ e. omega arith))
    ∙ (ap (is_claimed (listed (n + 1) claims)) e ∙ claimed_from (n + 1) a claims)

-- whether a claim is out is told by its place
pub claimed_is : (claims : List (Option ℕ)) (a : ℕ) → is_claimed (listed 0 claims) a ≡ is_some (claim_in claims a)
claimed_is claims a =
    let e : a ≡ 0 + a = omega arith in ap (is_claimed (listed 0 claims)) e ∙ claimed_from 0 a claims
