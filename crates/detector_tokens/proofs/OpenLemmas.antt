-- Open tokens in rising order of their numbers.
use Rattle.std.proofs.Common.{◌≡◌, ◌≢◌, ℕ, zero, suc, ◌<◌, ◌≤◌, ◌==◌, ⊎_elim, not, Bool, true, false, cond, List, [], ◌∷◌, ◌++◌, ◌||◌, filter, map, length, get_or, set, refl, ap, sym, subst, ◌∙◌, arith, Option, Some, None, is_some, IfSome, IfNone, Result, Ok, Err, slice_get, eq-eqb}
use Rattle.std.proofs.lemmas.Bool.Decides.{nat_tests}
use Rattle.std.proofs.lemmas.Bool.{and_from, and_parts, cases_Bool, cond_both, false≢true, or_left, or_right}
use Rattle.std.proofs.lemmas.Cmp.{ranked}
use Rattle.std.specs.List.{AllByRecursion, find, list_all, remove}
use Rattle.std.specs.List.Sorted.{IsBinarySearchResult, IsNonDecreasingBy, IsSearchInRange, IsStrictlySortedBy}
use Rattle.std.specs.Ordering.{nat_cmp, ordering_index}
use Rattle.std.specs.Result.{result_ok}
use Rattle.letter_kinds.specs.Detector.{Token, has, in_token, note_ack, all_acked}
use Rattle.detector_tokens.specs.Open.{first_acked, HasMemberAt, IsNumberedAt, IsTold, first_with, lower_with, numbers}
use Rattle.detector_tokens.proofs.RisingLemmas.{AllAbove, first_above, none_rise, rest_rises, rising-cons}

-- ---- by number

above_number : (n : ℕ) (ts : List Token) (i : ℕ) (d : Token) → AllAbove n (numbers ts)
    → i < length ts → n < (get_or ts i d).number
above_number n [] i d h lt = absurd (omega arith)
above_number n (t ∷ ts) zero d h lt = h.0
above_number n (t ∷ ts) (suc i) d h lt = above_number n ts i d h.1 (omega arith)

numbers_rise : (ts : List Token) → IsStrictlySortedBy nat_cmp (numbers ts) → (i j : ℕ) (d : Token) → i ≤ j
    → j < length ts → (get_or ts i d).number ≤ (get_or ts j d).number
numbers_rise [] h i j d le lt = absurd (omega arith)
numbers_rise (t ∷ ts) h zero zero d le lt = omega arith
numbers_rise (t ∷ ts) h zero (suc j) d le lt = omega (arith, above_number t.number ts j d (first_above t.number (numbers ts) h) (omega arith))
numbers_rise (t ∷ ts) h (suc i) zero d le lt = absurd (omega arith)
numbers_rise (t ∷ ts) h (suc i) (suc j) d le lt = numbers_rise ts (rest_rises t.number (numbers ts) h) i j d (omega arith) (omega arith)

comparisons_rise : (ts : List Token) (n : ℕ) → IsStrictlySortedBy nat_cmp (numbers ts)
    → IsNonDecreasingBy (λ t. ordering_index (nat_cmp t.number n)) ts
comparisons_rise ts n h = λ i j d le lt. let rise = numbers_rise ts h i j d le lt in grind (arith, nat_tests)

pub find_at : (ts : List Token) (n i : ℕ) (d : Token) → IsStrictlySortedBy nat_cmp (numbers ts) → i < length ts
    → (get_or ts i d).number ≡ n → slice_get ts i ≡ find (λ t. t.number == n) ts
find_at [] n i d h lt e = absurd (omega arith)
find_at (t ∷ ts) n zero d h lt e = grind (arith, nat_tests)
find_at (t ∷ ts) n (suc i) d h lt e =
    let above = above_number t.number ts i d (first_above t.number (numbers ts) h) (omega arith) in
    grind (arith, nat_tests, find_at ts n i d (rest_rises t.number (numbers ts) h) (omega arith) e)

find_gap : (ts : List Token) (n i : ℕ) (d : Token) → ((k : ℕ) → k < i → (get_or ts k d).number < n)
    → ((k : ℕ) → i ≤ k → k < length ts → n < (get_or ts k d).number)
    → find (λ t. t.number == n) ts ≡ None
find_gap [] n i d below above = refl
find_gap (t ∷ ts) n zero d below above =
    let first = above 0 (omega arith) (omega arith) in
    grind (arith, nat_tests, find_gap ts n zero d (λ k lt. absurd (omega arith)) (λ k le lt. above (suc k) (omega arith) (omega arith)))
find_gap (t ∷ ts) n (suc i) d below above =
    let first = below 0 (omega arith) in
    grind (arith, nat_tests, find_gap ts n i d (λ k lt. below (suc k) (omega arith)) (λ k le lt. above (suc k) (omega arith) (omega arith)))

abbrev no_token : Token
no_token = record { number = 0; members = []; acked = [] }

pub number_found : (ts : List Token) (n : ℕ) (r : Result ℕ ℕ) → IsStrictlySortedBy nat_cmp (numbers ts)
    → IsSearchInRange r (length ts) → IsBinarySearchResult (λ t. nat_cmp t.number n) ts r
    → IfSome (result_ok r) (IsNumberedAt ts n)
number_found ts n (Ok i) h within s = record {
  within = within;
  same = λ d. ranked _ n _ (sym (s d));
  found = find_at ts n i no_token h within (ranked _ n _ (sym (s no_token)));
}
number_found ts n (Err i) h within s = tt

pub number_absent : (ts : List Token) (n : ℕ) (r : Result ℕ ℕ) → IsStrictlySortedBy nat_cmp (numbers ts)
    → IsSearchInRange r (length ts) → IsBinarySearchResult (λ t. nat_cmp t.number n) ts r
    → IfNone (result_ok r) (find (λ (t : Token). t.number == n) ts ≡ None)
number_absent ts n (Ok i) h within s = tt
number_absent ts n (Err i) h within s =
    let parted = s (comparisons_rise ts n h) in
    find_gap ts n i no_token (λ k lt. ranked _ n _ (sym (parted.0 k no_token (omega arith) lt))) (λ k le lt. ranked _ n _ (sym (parted.1 k no_token le lt)))

-- ---- one token goes

number_kept : (n : ℕ) (ts : List Token) → AllAbove n (numbers ts)
    → filter (λ u. not (u.number == n)) ts ≡ ts
number_kept n [] h = refl
number_kept n (t ∷ ts) h = grind (arith, nat_tests, h.0, number_kept n ts h.1)

pub remove-numbered : (ts : List Token) (n i : ℕ) (d : Token) → IsStrictlySortedBy nat_cmp (numbers ts) → i < length ts
    → (get_or ts i d).number ≡ n → remove ts i ≡ filter (λ u. not (u.number == n)) ts
remove-numbered [] n i d h lt e = absurd (omega arith)
remove-numbered (t ∷ ts) n zero d h lt e = grind (arith, nat_tests, number_kept t.number ts (first_above t.number (numbers ts) h))
remove-numbered (t ∷ ts) n (suc i) d h lt e =
    let above = above_number t.number ts i d (first_above t.number (numbers ts) h) (omega arith) in
    grind (arith, nat_tests, remove-numbered ts n i d (rest_rises t.number (numbers ts) h) (omega arith) e)

above-filter : (n : ℕ) (p : Token → Bool) (ts : List Token) → AllAbove n (numbers ts)
    → AllAbove n (numbers (filter p ts))
above-filter n p [] h = tt
above-filter n p (t ∷ ts) h = cond_both (p t) (t ∷ filter p ts) (filter p ts) (λ us. AllAbove n (numbers us)) (λ _. (h.0, above-filter n p ts h.1)) (λ _. above-filter n p ts h.1)

pub numbered-filter : (p : Token → Bool) (ts : List Token) → IsStrictlySortedBy nat_cmp (numbers ts)
    → IsStrictlySortedBy nat_cmp (numbers (filter p ts))
numbered-filter p [] h = none_rise
numbered-filter p (t ∷ ts) h = cond_both (p t) (t ∷ filter p ts) (filter p ts) (λ us. IsStrictlySortedBy nat_cmp (numbers us)) (λ _. rising-cons t.number (numbers (filter p ts)) (above-filter t.number p ts (first_above t.number (numbers ts) h)) (numbered-filter p ts (rest_rises t.number (numbers ts) h))) (λ _. numbered-filter p ts (rest_rises t.number (numbers ts) h))

-- the first that is acknowledged stays the first while another goes
pub first-filter : (n : ℕ) (ts : List Token) → first_acked ts ≢ Some n
    → first_acked (filter (λ u. not (u.number == n)) ts) ≡ first_acked ts
first-filter n [] h = refl
first-filter n (t ∷ ts) h = ⊎_elim
    (λ (on : all_acked t ≡ true).
    let other : t.number ≢ n = λ e. h (rw on (ap (λ k. Some k) e)) in
    grind (arith, nat_tests))
    (λ (off : all_acked t ≡ false). let rest = first-filter n ts (λ e. h (rw off e)) in grind (arith, nat_tests))
    (cases_Bool (all_acked t))

-- ---- an acknowledgement

other_ack : (n a : ℕ) (t : Token) → t.number ≢ n → note_ack n a t ≡ t
other_ack n a t h = rw (eqb-none n t.number (λ e. h (sym e))) refl
  where
    eqb-none : (n m : ℕ) → n ≢ m → (n == m) ≡ false
    eqb-none n m h = grind (arith, nat_tests)

acks_above : (n a : ℕ) (ts : List Token) → AllAbove n (numbers ts) → map (note_ack n a) ts ≡ ts
acks_above n a [] h = refl
acks_above n a (t ∷ ts) h = let same = other_ack n a t (λ e. let lt = h.0 in omega arith) in cc (acks_above n a ts h.1)

-- where no token has the number, the first has another, and so have the rest
pub none_first : (t : Token) (ts : List Token) (n : ℕ) → find (λ (u : Token). u.number == n) (t ∷ ts) ≡ None
    → ((t.number == n) ≡ false) × (find (λ (u : Token). u.number == n) ts ≡ None)
none_first t ts n h = by_head (t.number == n) h
  where
    by_head : (b : Bool) → cond b (Some t) (find (λ (u : Token). u.number == n) ts) ≡ None
        → (b ≡ false) × (find (λ (u : Token). u.number == n) ts ≡ None)
    by_head true e = absurd (cc)
    by_head false e = (refl, e)

pub acks_none : (n a : ℕ) (ts : List Token) → find (λ t. t.number == n) ts ≡ None
    → map (note_ack n a) ts ≡ ts
acks_none n a [] h = refl
acks_none n a (t ∷ ts) h =
    let (off, none) = none_first t ts n h in
    let rest = acks_none n a ts none in
    let same = other_ack n a t (λ e. false≢true (sym off ∙ eq-eqb t.number n e)) in
    cc (rest, same)

pub acks_at : (n a : ℕ) (ts : List Token) (i : ℕ) (d : Token) → IsStrictlySortedBy nat_cmp (numbers ts) → i < length ts
    → (get_or ts i d).number ≡ n → map (note_ack n a) ts ≡ set ts i (note_ack n a (get_or ts i d))
acks_at n a [] i d h lt e = absurd (omega arith)
acks_at n a (t ∷ ts) zero d h lt e = ap (λ us. note_ack n a t ∷ us) (acks_above n a ts (subst (λ k. AllAbove k (numbers ts)) e (first_above t.number (numbers ts) h)))
acks_at n a (t ∷ ts) (suc i) d h lt e =
    let above = above_number t.number ts i d (first_above t.number (numbers ts) h) (omega arith) in
    let same = other_ack n a t (λ e'. omega arith) in
    cc (acks_at n a ts i d (rest_rises t.number (numbers ts) h) (omega arith) e, same)

pub numbers-acks : (n a : ℕ) (ts : List Token) → numbers (map (note_ack n a) ts) ≡ numbers ts
numbers-acks n a [] = refl
numbers-acks n a (t ∷ ts) = ap (λ ns. t.number ∷ ns) (numbers-acks n a ts)

pub told-acks : (told : ℕ → Option ℕ) (n a : ℕ) (ts : List Token) → AllByRecursion (IsTold told) ts
    → AllByRecursion (IsTold told) (map (note_ack n a) ts)
told-acks told n a [] h = tt
told-acks told n a (t ∷ ts) h = (h.0, told-acks told n a ts h.1)

-- ---- the first that is acknowledged

pub first-above : (n : ℕ) (ts : List Token) → AllAbove n (numbers ts)
    → IfSome (first_acked ts) (λ k. n < k)
first-above n [] h = tt
first-above n (t ∷ ts) h = ⊎_elim
    (λ (on : all_acked t ≡ true). rw on h.0)
    (λ (off : all_acked t ≡ false). rw off (first-above n ts h.1))
    (cases_Bool (all_acked t))

-- who was acknowledged by all stays so
picked-stays : (p : ℕ → Bool) (ms : List ℕ) (m : ℕ) → has ms m ≡ true → p m ≡ true
    → has (filter p ms) m ≡ true
picked-stays p [] m h e = h
picked-stays p (x ∷ ms) m h e = grind (arith, nat_tests, picked-stays p ms m)

all-stays : (xs ms all : List ℕ) (a : ℕ) → ((m : ℕ) → has ms m ≡ true → has all m ≡ true)
    → list_all (has xs) ms ≡ true
    → list_all (has (filter (λ m. has xs m || (m == a)) all)) ms ≡ true
all-stays xs [] all a within h = refl
all-stays xs (m ∷ ms) all a within h =
    let parts = and_parts (has xs m) (list_all (has xs) ms) h in
    let here : (has xs m || (m == a)) ≡ true = or_left (has xs m) (m == a) parts.0 in
    and_from (has (filter (λ m. has xs m || (m == a)) all) m) (list_all (has (filter (λ m. has xs m || (m == a)) all)) ms)
    (picked-stays (λ m. has xs m || (m == a)) all m (within m (grind (arith, nat_tests))) here)
    (all-stays xs ms all a (λ k i. within k (or_right (m == k) (has ms k) i)) parts.1)

acked_stays : (n a : ℕ) (t : Token) → all_acked t ≡ true → all_acked (note_ack n a t) ≡ true
acked_stays n a t h = cond_both (n == t.number) (filter (λ m. has t.acked m || (m == a)) t.members) t.acked (λ xs. list_all (has xs) t.members ≡ true)
    (λ _. all-stays t.acked t.members t.members a (λ m i. i) h) (λ _. h)

not_before : (n a : ℕ) (t : Token) → all_acked (note_ack n a t) ≡ false → all_acked t ≡ false
not_before n a t h = ⊎_elim (λ on. absurd (false≢true (sym h ∙ acked_stays n a t on))) (λ off. off) (cases_Bool (all_acked t))

-- while the token that was noted is not acknowledged by all, the first stays
pub first-pending : (n a : ℕ) (ts : List Token) (i : ℕ) (d : Token) → i < length ts
    → all_acked (note_ack n a (get_or ts i d)) ≡ false
    → first_acked (set ts i (note_ack n a (get_or ts i d))) ≡ first_acked ts
first-pending n a [] i d lt h = absurd (omega arith)
first-pending n a (t ∷ ts) zero d lt h = rw (h, not_before n a t h) refl
first-pending n a (t ∷ ts) (suc i) d lt h =
    ⊎_elim (λ (on : all_acked t ≡ true). rw on refl) (λ (off : all_acked t ≡ false). rw off (first-pending n a ts i d (omega arith) h)) (cases_Bool (all_acked t))

lower_above : (o : Option ℕ) (n : ℕ) → IfSome o (λ k. n < k) → lower_with o n ≡ n
lower_above None n h = refl
lower_above (Some k) n h = grind arith

-- once it is, it may be the first
pub first-ready : (n : ℕ) (u : Token) (ts : List Token) (i : ℕ) (d : Token) → IsStrictlySortedBy nat_cmp (numbers ts)
    → i < length ts → (get_or ts i d).number ≡ n → u.number ≡ n → all_acked u ≡ true
    → first_acked (set ts i u) ≡ Some (lower_with (first_acked ts) n)
first-ready n u [] i d h lt e f on = absurd (omega arith)
first-ready n u (t ∷ ts) zero d h lt e f on =
    let above : AllAbove n (numbers ts) = subst (λ k. AllAbove k (numbers ts)) e (first_above t.number (numbers ts) h) in
    ⊎_elim
    (λ (was : all_acked t ≡ true). rw (on, was) (grind arith))
    (λ (was : all_acked t ≡ false). rw (on, was) (ap (λ k. Some k) (f ∙ sym (lower_above (first_acked ts) n (first-above n ts above)))))
    (cases_Bool (all_acked t))
first-ready n u (t ∷ ts) (suc i) d h lt e f on =
    let above = above_number t.number ts i d (first_above t.number (numbers ts) h) (omega arith) in
    ⊎_elim
    (λ (was : all_acked t ≡ true). rw was (grind arith))
    (λ (was : all_acked t ≡ false). rw was (first-ready n u ts i d (rest_rises t.number (numbers ts) h) (omega arith) e f on))
    (cases_Bool (all_acked t))

-- a further token is the last
pub first-push : (ts : List Token) (t : Token)
    → first_acked (ts ++ t ∷ []) ≡ first_with (first_acked ts) t
first-push [] t = grind arith
first-push (u ∷ ts) t = ⊎_elim (λ (on : all_acked u ≡ true). rw on refl) (λ (off : all_acked u ≡ false). rw off (first-push ts t)) (cases_Bool (all_acked u))

-- ---- by member

told_above : (told : ℕ → Option ℕ) (n a : ℕ) (ts : List Token) → told a ≡ Some n
    → AllAbove n (numbers ts) → AllByRecursion (IsTold told) ts → in_token ts a ≡ false
told_above told n a [] e up h = refl
told_above told n a (t ∷ ts) e up h = ⊎_elim
    (λ (on : has t.members a ≡ true). absurd (let same : Some n ≡ Some t.number = sym e ∙ h.0 a on in let lt = up.0 in let eq : n ≡ t.number = cc in omega arith))
    (λ (off : has t.members a ≡ false). rw off (told_above told n a ts e up.1 h.1))
    (cases_Bool (has t.members a))

pub in-untold : (told : ℕ → Option ℕ) (a : ℕ) (ts : List Token) → told a ≡ None
    → AllByRecursion (IsTold told) ts → in_token ts a ≡ false
in-untold told a [] e h = refl
in-untold told a (t ∷ ts) e h = ⊎_elim
    (λ (on : has t.members a ≡ true). absurd (let same : None ≡ Some t.number = sym e ∙ h.0 a on in cc))
    (λ (off : has t.members a ≡ false). rw off (in-untold told a ts e h.1))
    (cases_Bool (has t.members a))

-- who is told a token that is not open, or of which it is no member, is in none
pub in-closed : (told : ℕ → Option ℕ) (n a : ℕ) (ts : List Token) → told a ≡ Some n
    → find (λ t. t.number == n) ts ≡ None → AllByRecursion (IsTold told) ts → in_token ts a ≡ false
in-closed told n a [] e f h = refl
in-closed told n a (t ∷ ts) e f h =
    let (other, none) = none_first t ts n f in
    ⊎_elim
    (λ (on : has t.members a ≡ true). absurd (let same : Some n ≡ Some t.number = sym e ∙ h.0 a on in let eq : n ≡ t.number = cc in
    false≢true (sym other ∙ eq-eqb t.number n (sym eq))))
    (λ (off : has t.members a ≡ false). rw off (in-closed told n a ts e none h.1))
    (cases_Bool (has t.members a))

pub told_number : (told : ℕ → Option ℕ) (a : ℕ) (ts : List Token) (i : ℕ) (d : Token)
    → AllByRecursion (IsTold told) ts → i < length ts → has (get_or ts i d).members a ≡ true
    → told a ≡ Some (get_or ts i d).number
told_number told a [] i d h lt e = absurd (omega arith)
told_number told a (t ∷ ts) zero d h lt e = h.0 a e
told_number told a (t ∷ ts) (suc i) d h lt e = told_number told a ts i d h.1 (omega arith) e

pub in-other : (told : ℕ → Option ℕ) (n a : ℕ) (ts : List Token) (i : ℕ) (d : Token)
    → told a ≡ Some n → IsStrictlySortedBy nat_cmp (numbers ts) → AllByRecursion (IsTold told) ts → i < length ts
    → (get_or ts i d).number ≡ n → has (get_or ts i d).members a ≡ false → in_token ts a ≡ false
in-other told n a [] i d e up h lt same out = absurd (omega arith)
in-other told n a (t ∷ ts) zero d e up h lt same out = rw out (told_above told n a ts e (subst (λ k. AllAbove k (numbers ts)) same (first_above t.number (numbers ts) up)) h.1)
in-other told n a (t ∷ ts) (suc i) d e up h lt same out =
    let above = above_number t.number ts i d (first_above t.number (numbers ts) up) (omega arith) in
    ⊎_elim
    (λ (on : has t.members a ≡ true). absurd (let one : Some n ≡ Some t.number = sym e ∙ h.0 a on in let eq : n ≡ t.number = cc in omega arith))
    (λ (off : has t.members a ≡ false). rw off (in-other told n a ts i d e (rest_rises t.number (numbers ts) up) h.1 (omega arith) same out))
    (cases_Bool (has t.members a))

pub in-at : (a : ℕ) (ts : List Token) (i : ℕ) (d : Token) → i < length ts
    → has (get_or ts i d).members a ≡ true → in_token ts a ≡ true
in-at a [] i d lt e = absurd (omega arith)
in-at a (t ∷ ts) zero d lt e = rw e refl
in-at a (t ∷ ts) (suc i) d lt e = or_right (has t.members a) (in_token ts a) (in-at a ts i d (omega arith) e)

pub cancel-none : (a : ℕ) (ts : List Token) → in_token ts a ≡ false
    → filter (λ t. not (has t.members a)) ts ≡ ts
cancel-none a [] h = refl
cancel-none a (t ∷ ts) h = grind (arith, cancel-none a ts)

-- a member's token is the only one that goes with it
pub cancel-one : (told : ℕ → Option ℕ) (a : ℕ) (ts : List Token) (i : ℕ) (d : Token)
    → IsStrictlySortedBy nat_cmp (numbers ts) → AllByRecursion (IsTold told) ts → i < length ts
    → has (get_or ts i d).members a ≡ true
    → filter (λ u. not (u.number == (get_or ts i d).number)) ts ≡ filter (λ t. not (has t.members a)) ts
cancel-one told a [] i d up h lt e = absurd (omega arith)
cancel-one told a (t ∷ ts) zero d up h lt e =
    let rest = number_kept t.number ts (first_above t.number (numbers ts) up) in
    let out = cancel-none a ts (told_above told t.number a ts (h.0 a e) (first_above t.number (numbers ts) up) h.1) in
    grind (arith, nat_tests)
cancel-one told a (t ∷ ts) (suc i) d up h lt e =
    let above = above_number t.number ts i d (first_above t.number (numbers ts) up) (omega arith) in
    let is = told_number told a ts i d h.1 (omega arith) e in
    let more = cancel-one told a ts i d (rest_rises t.number (numbers ts) up) h.1 (omega arith) e in
    ⊎_elim
    (λ (on : has t.members a ≡ true). absurd (let one : Some (get_or ts i d).number ≡ Some t.number = sym is ∙ h.0 a on in let eq : (get_or ts i d).number ≡ t.number = cc in omega arith))
    (λ (off : has t.members a ≡ false). grind (arith, nat_tests))
    (cases_Bool (has t.members a))

-- and the first of which the actor is a member
pub first-member : (told : ℕ → Option ℕ) (a : ℕ) (ts : List Token) (i : ℕ) (d : Token)
    → IsStrictlySortedBy nat_cmp (numbers ts) → AllByRecursion (IsTold told) ts → i < length ts
    → has (get_or ts i d).members a ≡ true → find (λ t. has t.members a) ts ≡ Some (get_or ts i d)
first-member told a [] i d up h lt e = absurd (omega arith)
first-member told a (t ∷ ts) zero d up h lt e = rw e refl
first-member told a (t ∷ ts) (suc i) d up h lt e =
    let above = above_number t.number ts i d (first_above t.number (numbers ts) up) (omega arith) in
    let is = told_number told a ts i d h.1 (omega arith) e in
    let more = first-member told a ts i d (rest_rises t.number (numbers ts) up) h.1 (omega arith) e in
    ⊎_elim
    (λ (on : has t.members a ≡ true). absurd (let one : Some (get_or ts i d).number ≡ Some t.number = sym is ∙ h.0 a on in let eq : (get_or ts i d).number ≡ t.number = cc in omega arith))
    (λ (off : has t.members a ≡ false). rw off more)
    (cases_Bool (has t.members a))

pub no-member : (a : ℕ) (ts : List Token) → in_token ts a ≡ false → find (λ t. has t.members a) ts ≡ None
no-member a [] h = refl
no-member a (t ∷ ts) h = grind (arith, no-member a ts)

-- what holds of all holds of some
pub each-filter : (P : Token → Type 0) (p : Token → Bool) (ts : List Token) → AllByRecursion P ts
    → AllByRecursion P (filter p ts)
each-filter P p [] h = tt
each-filter P p (t ∷ ts) h = cond_both (p t) (t ∷ filter p ts) (filter p ts) (AllByRecursion P)
    (λ _. (h.0, each-filter P p ts h.1)) (λ _. each-filter P p ts h.1)

-- what is told of the members of a further token
pub told-push : (told later : ℕ → Option ℕ) (t : Token) (ts : List Token)
    → ((m : ℕ) → in_token ts m ≡ true → later m ≡ told m)
    → ((m : ℕ) → has t.members m ≡ true → later m ≡ Some t.number) → AllByRecursion (IsTold told) ts
    → AllByRecursion (IsTold later) (ts ++ t ∷ [])
told-push told later t [] same new h = (new, tt)
told-push told later t (u ∷ us) same new h =
    (λ m i. same m (or_left (has u.members m) (in_token us m) i) ∙ h.0 m i, told-push told later t us (λ m i. same m (or_right (has u.members m) (in_token us m) i)) new h.1)

above-push : (n m : ℕ) (ts : List Token) (t : Token) → n < t.number → AllAbove n (numbers ts)
    → AllAbove n (numbers (ts ++ t ∷ []))
above-push n m [] t lt h = (lt, tt)
above-push n m (u ∷ us) t lt h = (h.0, above-push n m us t lt h.1)

pub numbered-push : (ts : List Token) (t : Token) → AllByRecursion (λ u. u.number < t.number) ts
    → IsStrictlySortedBy nat_cmp (numbers ts) → IsStrictlySortedBy nat_cmp (numbers (ts ++ t ∷ []))
numbered-push [] t lt h = rising-cons t.number [] tt none_rise
numbered-push (u ∷ us) t lt h =
    rising-cons u.number (numbers (us ++ t ∷ [])) (above-push u.number 0 us t lt.0 (first_above u.number (numbers us) h)) (numbered-push us t lt.1 (rest_rises u.number (numbers us) h))

pub if_none : {A P : Type 0} (o : Option A) → P → IfNone o P
if_none None h = h
if_none (Some x) h = tt

pub member_found : (ts : List Token) (a : ℕ) (o : Option ℕ) → IfSome o (HasMemberAt ts a)
    → IfNone o (in_token ts a ≡ false) → is_some o ≡ in_token ts a
member_found ts a None some none = sym none
member_found ts a (Some i) some none = sym (in-at a ts i no_token some.within (some.member no_token))
