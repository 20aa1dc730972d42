-- Prefixes: what letters take from a count is there.
use Rattle.std.proofs.Common.{◌≡◌, ◌⊎◌, ℕ, suc, zero, ◌+◌, ◌<◌, ◌≤◌, min, Option, List, [], ◌∷◌, ◌++◌, length, take, drop, set, refl, ap, sym, ◌∙◌, subst, arith, inl, inr, ⊎_elim, take_all, drop_of_length-le, take-append-drop, length-append}
use Rattle.std.proofs.lemmas.Bool.{cases_eq, cases_lt}
use Rattle.std.proofs.lemmas.List.{take-append-le}
use Rattle.std.proofs.lemmas.List.Sums.{sum_by-cons, sum_by-append, sum_by_push}
use Rattle.letter_kinds.proofs.Sums.{sum-nil}
use Rattle.count_laws.proofs.balance.Seats.{at_same, at_other}
use Rattle.letter_kinds.specs.Sums.{inc_of, dec_of, load_count}
use Rattle.letter_kinds.specs.Letters.{Letter}
use Rattle.orca_names.specs.declared.trace.Trace.{Trace}
use Rattle.orca_names.specs.declared.trace.Trace.TheVariants.{Deep, Roots}
use Rattle.machine_rules.specs.Actors.{Seat, Actors, seat_at}
use Rattle.count_laws.specs.Prefixes.{IsCovered, IsCoveredAt, NeverOverdraws, spare}
use Rattle.orca_names.specs.Names.{owner_of}
use Rattle.orca_names.specs.declared.names.Thing.{Thing}
use Rattle.std.specs.Prelude.{sum_by}

pub sum-parts : {A : Type 0} (f : A → ℕ) (k : ℕ) (xs : List A) → sum_by f (take k xs) + sum_by f (drop k xs) ≡ sum_by f xs
sum-parts f k xs = sym (sum_by-append f (take k xs) (drop k xs)) ∙ ap (sum_by f) (take-append-drop k xs)

pub drop-push : {A : Type 0} (k : ℕ) (xs : List A) (y : A) → k ≤ length xs → drop k (xs ++ y ∷ []) ≡ drop k xs ++ y ∷ []
drop-push zero xs y h = refl
drop-push (suc k) [] y h = absurd (omega arith)
drop-push (suc k) (x ∷ xs) y h = drop-push k xs y (omega arith)

pub safe_nil : (trace : Trace) (x : Thing) (n : ℕ) → IsCovered trace x n []
unfolding IsCovered
safe_nil trace x n k = nil k
  where
    nil : (k : ℕ) → sum_by (dec_of x) (take k []) + sum_by (load_count x) (take k []) + min (spare trace) (sum_by (inc_of x) (drop k [])) ≤ n + sum_by (inc_of x) (take k [])
    nil zero = omega (arith, sum-nil (inc_of x), sum-nil (load_count x), sum-nil (dec_of x))
    nil (suc k) = omega (arith, sum-nil (inc_of x), sum-nil (load_count x), sum-nil (dec_of x))

pub safe_more : (trace : Trace) (x : Thing) (n n' : ℕ) (mail : List Letter) → n ≤ n' → IsCovered trace x n mail → IsCovered trace x n' mail
unfolding IsCovered
safe_more trace x n n' mail h safe k = let z = safe k in omega arith

-- the first letter was taken, and the count is what it leaves
pub safe_taken : (trace : Trace) (x : Thing) (n n' : ℕ) (l : Letter) (ls : List Letter) → n + inc_of x l ≤ n' + load_count x l + dec_of x l → IsCovered trace x n (l ∷ ls) → IsCovered trace x n' ls
unfolding IsCovered
safe_taken trace x n n' l ls h safe k =
    let z = safe (suc k) in
    omega (arith, sum_by-cons (inc_of x) l (take k ls), sum_by-cons (load_count x) l (take k ls), sum_by-cons (dec_of x) l (take k ls))

-- what the first letter asks of the count
pub safe_first : (trace : Trace) (x : Thing) (n : ℕ) (l : Letter) (ls : List Letter) → IsCovered trace x n (l ∷ ls) → load_count x l + dec_of x l ≤ n + inc_of x l
unfolding IsCovered
safe_first trace x n l ls safe =
    let o = safe 1 in
    omega (arith, sum_by-cons (inc_of x) l [], sum_by-cons (load_count x) l [], sum_by-cons (dec_of x) l [], sum-nil (inc_of x), sum-nil (load_count x), sum-nil (dec_of x))

-- with deep tracing an Inc is for what is counted
pub safe_inc : (x : Thing) (n : ℕ) (l : Letter) (ls : List Letter) → IsCovered Deep x n (l ∷ ls) → 0 < inc_of x l → 0 < n
unfolding IsCovered
safe_inc x n l ls safe some =
    let z = safe 0 in
    omega (arith, sum_by-cons (inc_of x) l ls, sum-nil (inc_of x), sum-nil (load_count x), sum-nil (dec_of x))

-- where the count is 0 no letter brings more
pub safe_zero : (x : Thing) (n : ℕ) (ls : List Letter) → IsCovered Deep x n ls → n ≡ 0 → sum_by (inc_of x) ls ≡ 0
unfolding IsCovered
safe_zero x n ls safe e = let z = safe 0 in omega (arith, sum-nil (inc_of x), sum-nil (load_count x), sum-nil (dec_of x))

pub safe_push : (trace : Trace) (x : Thing) (n : ℕ) (mail : List Letter) (l : Letter)
    → sum_by (dec_of x) (mail ++ l ∷ []) + sum_by (load_count x) (mail ++ l ∷ []) ≤ n + sum_by (inc_of x) (mail ++ l ∷ [])
    → (trace ≡ Deep → 0 < inc_of x l → sum_by (dec_of x) mail + sum_by (load_count x) mail < n + sum_by (inc_of x) mail)
    → IsCovered trace x n mail → IsCovered trace x n (mail ++ l ∷ [])
unfolding IsCovered
safe_push trace x n mail l whole strict safe k = ⊎_elim
    (λ h.
    let long : length (mail ++ l ∷ []) ≤ k = omega (arith, length-append mail (l ∷ [])) in
    rw (take_all k (mail ++ l ∷ []) long, drop_of_length-le (mail ++ l ∷ []) long) (omega (arith, sum-nil (inc_of x))))
    (λ h.
    let z = safe k in
    rw (take-append-le k mail (l ∷ []) h, drop-push k mail l h) (⊎_elim
    (λ none. omega (arith, sum_by_push (inc_of x) (drop k mail) l))
    (λ some. by_trace trace (λ deep. strict deep some) (safe k) some)
    (zero_or (inc_of x l))))
    (cases_lt (length mail) k)
  where
    by_trace : (trace : Trace) → (trace ≡ Deep → sum_by (dec_of x) mail + sum_by (load_count x) mail < n + sum_by (inc_of x) mail)
        → sum_by (dec_of x) (take k mail) + sum_by (load_count x) (take k mail) + min (spare trace) (sum_by (inc_of x) (drop k mail)) ≤ n + sum_by (inc_of x) (take k mail) → 0 < inc_of x l
        → sum_by (dec_of x) (take k mail) + sum_by (load_count x) (take k mail) + min (spare trace) (sum_by (inc_of x) (drop k mail ++ l ∷ [])) ≤ n + sum_by (inc_of x) (take k mail)
    by_trace Deep strict z some =
        let st = strict refl in
        let i = sum-parts (inc_of x) k mail in let d = sum-parts (dec_of x) k mail in let o = sum-parts (load_count x) k mail in
        omega (arith, sum_by_push (inc_of x) (drop k mail) l)
    by_trace Roots strict z some = omega (arith, sum_by_push (inc_of x) (drop k mail) l)

    zero_or : (m : ℕ) → (m ≡ 0) ⊎ (0 < m)
    zero_or zero = inl refl
    zero_or (suc m) = inr (omega arith)

module _ (trace : Trace) (s : Actors) (b : ℕ) (old new : Option Seat) (within : b < length s) (was : seat_at s b ≡ old) where
  pub prefix-set : ((x : Thing) → owner_of x ≡ b → IsCoveredAt trace x old → IsCoveredAt trace x new) → NeverOverdraws trace s → NeverOverdraws trace (set s b new)
  prefix-set mine p x = ⊎_elim
      (λ is.
      let o : seat_at s (owner_of x) ≡ old = rw is was in
      let z : IsCoveredAt trace x old = subst (IsCoveredAt trace x) o (p x) in
      subst (IsCoveredAt trace x) (sym (at_same s b old new within was (owner_of x) is)) (mine x is z))
      (λ not. subst (IsCoveredAt trace x) (sym (at_other s b old new within was (owner_of x) not)) (p x))
      (cases_eq (owner_of x) b)
