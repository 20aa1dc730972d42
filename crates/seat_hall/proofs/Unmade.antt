-- A number that was not given yet has no item and no claim.
use Rattle.std.proofs.Common.{◌≡◌, ◌≢◌, ◌⊎◌, ℕ, zero, suc, ◌<◌, ◌==◌, false, List, [], ◌∷◌, set, count_by, Option, Some, None, refl, sym, ap, ◌∙◌, ⊎_elim, inl, inr, arith}
use Rattle.std.specs.Prelude.{if◌then◌else◌}
use Rattle.std.specs.Option.{option_map_or}
use Rattle.std.proofs.lemmas.Bool.Decides.{nat_tests}
use Rattle.std.proofs.lemmas.List.Sums.{sum_by-cons}
use mathlib.Core.Bool.{cond}
use Rattle.event_rule.specs.Events.{actor_of}
use Rattle.seat_hall.specs.declared.item.Item.{Item}
use Rattle.seat_hall.specs.declared.item.Item.TheVariants.{Claimed, Entered, Ended, Stopped, Made}
use Rattle.seat_hall.specs.Log.{Legal, Logged, MayFollow, after, by, claim_in, hall_from, items_by, released}
use Rattle.seat_hall.specs.Passes.{is_of}
use Rattle.seat_hall.proofs.Claims.{claim_grown}
use Rattle.seat_hall.proofs.Holding.{pass_or}
use Rattle.seat_hall.proofs.Logs.{made_one, made_rises}

pub no_items : (l : Logged) (log : List Item) (q : ℕ) → Legal l log → (hall_from l log).made < q → items_by q log ≡ []
no_items l [] q legal more = refl
no_items l (i ∷ log) q legal more =
    let a = (made_one l i legal.0).1 in let b = made_rises (after l i) log legal.1 in
    let off : (by i == q) ≡ false = differ (by i) q (omega arith) in
    ap (λ b. if b then i ∷ items_by q log else items_by q log) off ∙ no_items (after l i) log q legal.1 more
  where
    differ : (n m : ℕ) → n < m → (n == m) ≡ false
    differ n m less = grind (arith, nat_tests)

-- no claim of this pass is out
abbrev pub NoneOf : ℕ → List (Option ℕ) → Type 0
NoneOf q claims = (b : ℕ) → claim_in claims b ≢ Some q

set_cases : (claims : List (Option ℕ)) (a b : ℕ) (c d : Option ℕ) → claim_in (set claims a c) b ≡ d
    → (c ≡ d) ⊎ (claim_in claims b ≡ d)
set_cases [] a b c d is = inr is
set_cases (x ∷ xs) zero zero c d is = inl is
set_cases (x ∷ xs) zero (suc b) c d is = inr is
set_cases (x ∷ xs) (suc a) zero c d is = inr is
set_cases (x ∷ xs) (suc a) (suc b) c d is = set_cases xs a b c d is

none_set : (q a : ℕ) (c : Option ℕ) (claims : List (Option ℕ)) → c ≢ Some q → NoneOf q claims → NoneOf q (set claims a c)
none_set q a c claims apart none b is = ⊎_elim apart (none b) (set_cases claims a b c (Some q) is)

none_released : (q : ℕ) (who : Option ℕ) (claims : List (Option ℕ)) → NoneOf q claims
    → NoneOf q (option_map_or (λ a. set claims a None) who claims)
none_released q None claims none = none
none_released q (Some a) claims none = none_set q a None claims (λ e. cc) none

none_one : (l : Logged) (i : Item) (q : ℕ) → MayFollow l i → (after l i).made < q → NoneOf q l.claims → NoneOf q (after l i).claims
none_one l (Claimed p a) q may more none =
    none_set q a (Some p) l.claims (λ e. let same : p ≡ q = ap (pass_or 0) e in let m = may.0 in absurd (omega arith)) none
none_one l (Entered p e) q may more none = λ b is.
    none_released q (actor_of e) l.claims none b (sym (claim_grown _ (released e l.claims) b) ∙ is)
none_one l (Ended p a) q may more none = none_set q a None l.claims (λ e. cc) none
none_one l (Stopped p) q may more none = none
none_one l (Made p) q may more none = none

none_all : (l : Logged) (log : List Item) (q : ℕ) → Legal l log → (hall_from l log).made < q → NoneOf q l.claims
    → NoneOf q (hall_from l log).claims
none_all l [] q legal more none = none
none_all l (i ∷ log) q legal more none =
    let b = made_rises (after l i) log legal.1 in
    none_all (after l i) log q legal.1 more (none_one l i q legal.0 (omega arith) none)

count_none : (q : ℕ) (claims : List (Option ℕ)) → NoneOf q claims → count_by (is_of q) claims ≡ 0
count_none q [] none = refl
count_none q (c ∷ claims) none =
    let s = sum_by-cons (λ x. cond {A = ℕ} (is_of q x) 1 0) c claims in
    let rest = count_none q claims (λ b. none (suc b)) in
    let first : cond {A = ℕ} (is_of q c) 1 0 ≡ 0 = ap (λ b. cond {A = ℕ} b 1 0) (off c (none 0)) in omega arith
  where
    differ : (p : ℕ) → p ≢ q → (p == q) ≡ false
    differ p apart = grind (arith, nat_tests)

    off : (c : Option ℕ) → c ≢ Some q → is_of q c ≡ false
    off None apart = refl
    off (Some p) apart = differ p (λ e. apart (ap Some e))

-- so none of its claims is counted
pub none_out : (l : Logged) (log : List Item) (q : ℕ) → Legal l log → (hall_from l log).made < q → NoneOf q l.claims
    → count_by (is_of q) (hall_from l log).claims ≡ 0
none_out l log q legal more none = count_none q (hall_from l log).claims (none_all l log q legal more none)
