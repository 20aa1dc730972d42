-- How many claims are out.
use Rattle.std.proofs.Common.{◌≡◌, ◌≢◌, ℕ, zero, suc, ◌+◌, ◌<◌, ◌==◌, Bool, true, false, List, [], ◌∷◌, ◌++◌, length, Option, Some, None, refl, sym, ap, ◌∙◌, arith, set, count_by, is_some, length-set, ◌≤◌}
use Rattle.std.specs.Prelude.{if◌then◌else◌, nat_lt}
use Rattle.std.specs.Option.{option_map_or}
use Rattle.std.proofs.lemmas.Bool.Decides.{nat_tests}
use Rattle.std.proofs.lemmas.List.Sums.{count_by-le-length, sum_by-cons, sum_by-set, sum_by_push}
use mathlib.Core.Bool.{cond}
use Rattle.event_rule.specs.Events.{actor_of}
use Rattle.event_rule.specs.declared.event.Event.{Event}
use Rattle.seat_hall.specs.declared.item.Item.{Item}
use Rattle.seat_hall.specs.declared.item.Item.TheVariants.{Claimed, Entered, Ended, Stopped, Made}
use Rattle.seat_hall.specs.Log.{Legal, Logged, after, by, claim_for, claim_in, grown, hall_from, items_by, listed, released, state_in}
use Rattle.seat_hall.specs.Passes.{is_of}
use Rattle.seat_hall.proofs.Claims.{released_free}
use Rattle.seat_hall.proofs.Holding.{about, none_by, not_about, pass_or}

-- ---- a test that no actor passes on which no claim is out

module _ (test : Option ℕ → Bool) (off : test None ≡ false) where
  one : Option ℕ → ℕ
  one c = cond {A = ℕ} (test c) 1 0

  one_off : (c : Option ℕ) → test c ≡ false → one c ≡ 0
  unfolding one
  one_off c is = ap (λ b. cond {A = ℕ} b 1 0) is

  one_on : (c : Option ℕ) → test c ≡ true → one c ≡ 1
  unfolding one
  one_on c is = ap (λ b. cond {A = ℕ} b 1 0) is

  counted_set : (claims : List (Option ℕ)) (a : ℕ) (c : Option ℕ) → a < length claims
      → count_by test (set claims a c) + one (claim_in claims a) ≡ count_by test claims + one c
  unfolding one
  counted_set claims a c within = sum_by-set (λ x. cond {A = ℕ} (test x) 1 0) claims a c None within

  counted_snoc : (claims : List (Option ℕ)) → count_by test (claims ++ None ∷ []) ≡ count_by test claims
  unfolding one
  counted_snoc claims =
      let s = sum_by_push (λ x. cond {A = ℕ} (test x) 1 0) claims None in
      let z = one_off None off in omega arith

  pub counted_grown : (n : ℕ) (claims : List (Option ℕ)) → count_by test (grown n claims) ≡ count_by test claims
  counted_grown n claims =
      elim (nat_lt (length claims) n) as (λ b. count_by test (if b then claims ++ None ∷ [] else claims) ≡ count_by test claims)
      [ true ↦ counted_snoc claims | false ↦ refl ]

  -- a claim more
  pub counted_more : (claims : List (Option ℕ)) (a : ℕ) (c : Option ℕ) → a < length claims → claim_in claims a ≡ None
      → test c ≡ true → count_by test (set claims a c) ≡ count_by test claims + 1
  counted_more claims a c within free is =
      let s = counted_set claims a c within in
      let z = ap one free ∙ one_off None off in let o = one_on c is in omega arith

  -- a claim less
  pub counted_less : (claims : List (Option ℕ)) (a : ℕ) (c : Option ℕ) → a < length claims → claim_in claims a ≡ c
      → test c ≡ true → count_by test (set claims a None) + 1 ≡ count_by test claims
  counted_less claims a c within mine is =
      let s = counted_set claims a None within in
      let o = ap one mine ∙ one_on c is in let z = one_off None off in omega arith

  -- where neither the old nor the new counts
  pub counted_same : (claims : List (Option ℕ)) (a : ℕ) (c : Option ℕ) → test (claim_in claims a) ≡ false → test c ≡ false
      → count_by test (set claims a c) ≡ count_by test claims
  unfolding one
  counted_same [] a c was is = refl
  counted_same (x ∷ claims) zero c was is =
      let s = sum_by-cons (λ x. cond {A = ℕ} (test x) 1 0) c claims in
      let t = sum_by-cons (λ x. cond {A = ℕ} (test x) 1 0) x claims in
      let y = one_off x was in let z = one_off c is in omega arith
  counted_same (x ∷ claims) (suc a) c was is =
      let s = sum_by-cons (λ x. cond {A = ℕ} (test x) 1 0) x (set claims a c) in
      let t = sum_by-cons (λ x. cond {A = ℕ} (test x) 1 0) x claims in
      let r = counted_same claims a c was is in omega arith

-- ---- by actor

pub claim_inside : (claims : List (Option ℕ)) (a pass : ℕ) → claim_in claims a ≡ Some pass → a < length claims
claim_inside [] a pass is = absurd (cc)
claim_inside (c ∷ claims) zero pass is = omega arith
claim_inside (c ∷ claims) (suc a) pass is = let r = claim_inside claims a pass is in omega arith

-- ---- of one pass

pub is_own : (pass : ℕ) → is_of pass (Some pass) ≡ true
is_own pass = grind (arith, nat_tests)

-- the claim is another's, or there is none
not_of : (pass : ℕ) (c : Option ℕ) → c ≢ Some pass → is_of pass c ≡ false
not_of pass None apart = refl
not_of pass (Some q) apart = by (q == pass) refl
  where
    by : (b : Bool) → (q == pass) ≡ b → (q == pass) ≡ false
    by true is = let same : q ≡ pass = grind (arith, nat_tests) in absurd (apart (ap Some same))
    by false is = is

-- an item about an actor that the pass has not
out_one : (pass : ℕ) (l : Logged) (i : Item) → by i ≢ pass
    → ((a : ℕ) → claim_in l.claims a ≡ Some pass → about i ≢ Some a)
    → count_by (is_of pass) (after l i).claims ≡ count_by (is_of pass) l.claims
out_one pass l (Claimed q b) apart others = counted_same (is_of pass) refl l.claims b (Some q)
    (not_of pass (claim_in l.claims b) (λ mine. others b mine refl)) (not_of pass (Some q) (λ same. apart (ap (pass_or 0) same)))
out_one pass l (Entered q e) apart others =
    counted_grown (is_of pass) refl (length (state_in (record l { book = l.book ++ e ∷ [] })).actors) (released e l.claims)
    ∙ out_released pass e l.claims others
  where
    out_released : (pass : ℕ) (e : Event) (claims : List (Option ℕ))
        → ((a : ℕ) → claim_in claims a ≡ Some pass → actor_of e ≢ Some a)
        → count_by (is_of pass) (released e claims) ≡ count_by (is_of pass) claims
    out_released pass e claims others = by (actor_of e) refl
      where
        by : (who : Option ℕ) → actor_of e ≡ who
            → count_by (is_of pass) (option_map_or (λ a. set claims a None) who claims) ≡ count_by (is_of pass) claims
        by None is = refl
        by (Some b) is = counted_same (is_of pass) refl claims b None
            (not_of pass (claim_in claims b) (λ mine. others b mine is)) refl
out_one pass l (Ended q b) apart others = counted_same (is_of pass) refl l.claims b None
    (not_of pass (claim_in l.claims b) (λ mine. others b mine refl)) refl
out_one pass l (Stopped q) apart others = refl
out_one pass l (Made q) apart others = refl

-- through items of others as many claims of the pass stay out
pub out_all : (pass : ℕ) (l : Logged) (log : List Item) → Legal l log → items_by pass log ≡ []
    → count_by (is_of pass) (hall_from l log).claims ≡ count_by (is_of pass) l.claims
out_all pass l [] legal none = refl
out_all pass l (i ∷ log) legal none =
    let n = none_by pass i log none in
    out_all pass (after l i) log legal.1 n.1
    ∙ out_one pass l i n.0 (λ a mine. not_about pass a l i n.0 legal.0 mine)

-- ---- items of the pass's own

pub out_claimed : (pass a : ℕ) (l : Logged) → a < length l.claims → claim_in l.claims a ≡ None
    → count_by (is_of pass) (after l (Claimed pass a)).claims ≡ count_by (is_of pass) l.claims + 1
out_claimed pass a l within free = counted_more (is_of pass) refl l.claims a (Some pass) within free (is_own pass)

pub out_ended : (pass a : ℕ) (l : Logged) → claim_in l.claims a ≡ Some pass
    → count_by (is_of pass) l.claims ≡ count_by (is_of pass) (after l (Ended pass a)).claims + 1
out_ended pass a l mine =
    sym (counted_less (is_of pass) refl l.claims a (Some pass) (claim_inside l.claims a pass mine) mine (is_own pass))

pub out_committed : (pass a : ℕ) (l : Logged) (e : Event) → actor_of e ≡ Some a → claim_in l.claims a ≡ Some pass
    → count_by (is_of pass) l.claims ≡ count_by (is_of pass) (after l (Entered pass e)).claims + 1
out_committed pass a l e its mine =
    let grows = counted_grown (is_of pass) refl (length (state_in (record l { book = l.book ++ e ∷ [] })).actors) (released e l.claims) in
    let set_is : released e l.claims ≡ set l.claims a None = ap (λ who. option_map_or (λ a. set l.claims a None) who l.claims) its in
    let same = ap (count_by (is_of pass)) set_is in
    let ends = out_ended pass a l mine in omega arith

-- an entry of an actor on which no claim is out
pub out_direct : (pass : ℕ) (l : Logged) (e : Event) → claim_for e l.claims ≡ None
    → count_by (is_of pass) (after l (Entered pass e)).claims ≡ count_by (is_of pass) l.claims
out_direct pass l e free =
    counted_grown (is_of pass) refl (length (state_in (record l { book = l.book ++ e ∷ [] })).actors) (released e l.claims)
    ∙ ap (count_by (is_of pass)) (released_free e l.claims free)

-- ---- of all

-- as many are listed as are out
pub counted_listed : (n : ℕ) (claims : List (Option ℕ)) → count_by is_some claims ≡ length (listed n claims)
counted_listed n [] = refl
counted_listed n (None ∷ claims) =
    let s = sum_by-cons (λ x. cond {A = ℕ} (is_some x) 1 0) None claims in let r = counted_listed (n + 1) claims in omega arith
counted_listed n (Some p ∷ claims) =
    let s = sum_by-cons (λ x. cond {A = ℕ} (is_some x) 1 0) (Some p) claims in let r = counted_listed (n + 1) claims in omega arith

-- where none is listed, none is out
pub none_out_listed : (n : ℕ) (claims : List (Option ℕ)) → listed n claims ≡ [] → (a : ℕ) → claim_in claims a ≡ None
none_out_listed n [] none a = refl
none_out_listed n (None ∷ claims) none zero = refl
none_out_listed n (None ∷ claims) none (suc a) = none_out_listed (n + 1) claims none a
none_out_listed n (Some p ∷ claims) none a = absurd (cc)

pub none_listed : (n : ℕ) (claims : List (Option ℕ)) → ((a : ℕ) → claim_in claims a ≡ None) → listed n claims ≡ []
none_listed n [] none = refl
none_listed n (None ∷ claims) none = none_listed (n + 1) claims (λ a. none (suc a))
none_listed n (Some p ∷ claims) none = absurd (let is = none 0 in cc)

-- one more than are out is no more than there are actors
pub one_more_fits : (claims : List (Option ℕ)) (a : ℕ) → a < length claims → claim_in claims a ≡ None
    → count_by is_some claims + 1 ≤ length claims
one_more_fits claims a within free =
    let s = counted_more is_some refl claims a (Some 0) within free refl in
    let l = length-set claims a (Some 0) in
    let c = count_by-le-length is_some (set claims a (Some 0)) in omega arith
