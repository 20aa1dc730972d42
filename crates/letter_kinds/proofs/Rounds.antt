-- The rounds end at a closed set, and lose no member of any closed set.
use Rattle.std.proofs.Common.{◌≡◌, ℕ, zero, suc, ◌≤◌, Bool, true, false, cond, ◌||◌, List, [], ◌∷◌, length, filter, sum_by, arith, refl, ap, sym, subst, ◌∙◌, le-leb, leb-true, ⊎_elim, le_trans}
use Rattle.std.specs.List.{AllByRecursion}
use Rattle.std.proofs.lemmas.List.Sums.{sum_by-cons}
use Rattle.std.proofs.lemmas.Bool.{cases_lt, or_left, or_right, or_cases}
use Rattle.letter_kinds.specs.declared.note.Report.{Report}
use Rattle.letter_kinds.specs.Reports.{told_on, told_on_by}
use Rattle.letter_kinds.specs.Closed.{IsClosed, IsLargest, is_covered, one_round, rounds, largest_closed}
use Rattle.letter_kinds.proofs.Filters.{filter_full, filter_all, all_filter, filter_commute, filter_twice, filter_true, sum_by-filter_le, passing_each, each_passing, each_of_two}

-- a round that removes nothing is the last
rounds_fixed : (n : ℕ) (rs : List Report) → one_round rs ≡ rs → rounds n rs ≡ rs
rounds_fixed zero rs h = refl
rounds_fixed (suc n) rs h = rw h (rounds_fixed n rs h)

rounds_end : (n : ℕ) (rs : List Report) → length rs ≤ n → one_round (rounds n rs) ≡ rounds n rs
rounds_end zero [] h = refl
rounds_end zero (r ∷ rs) h = absurd (omega arith)
rounds_end (suc n) rs h =
    ⊎_elim
    (λ short. rounds_end n (one_round rs) (omega arith))
    (λ long. let full : one_round rs ≡ rs = filter_full (is_covered rs) rs (omega arith) in
    subst (λ ys. one_round ys ≡ ys) (sym (rounds_fixed (suc n) rs full)) full)
    (cases_lt (length (one_round rs)) (length rs))

covered : (all members : List Report) → AllByRecursion (λ r. is_covered all r ≡ true) members → AllByRecursion (λ r. r.count ≤ told_on_by r.actor all) members
covered all [] h = tt
covered all (r ∷ rs) h = (leb-true r.count (told_on_by r.actor all) h.0, covered all rs h.1)

pub fixed_is_closed : (rs : List Report) → one_round rs ≡ rs → IsClosed rs
fixed_is_closed rs h = covered rs rs (all_filter (is_covered rs) rs h)

-- members of a closed set among all are covered by all
still_covered : (all set members : List Report) → ((x : ℕ) → told_on_by x set ≤ told_on_by x all) → AllByRecursion (λ r. r.count ≤ told_on_by r.actor set) members → AllByRecursion (λ r. is_covered all r ≡ true) members
still_covered all set [] le h = tt
still_covered all set (r ∷ rs) le h = (le-leb r.count (told_on_by r.actor all) (omega (arith, h.0, le r.actor)), still_covered all set rs le h.1)

-- a round keeps each closed set
pub round_keeps : (rs : List Report) (set : Report → Bool) → IsClosed (filter set rs) → filter set (one_round rs) ≡ filter set rs
round_keeps rs set h =
    filter_commute set (is_covered rs) rs ∙ filter_all (is_covered rs) (filter set rs) (still_covered rs (filter set rs) (filter set rs) (λ x. sum_by-filter_le (told_on x) set rs) h)

pub rounds_keep : (n : ℕ) (rs : List Report) (set : Report → Bool) → IsClosed (filter set rs) → filter set (rounds n rs) ≡ filter set rs
rounds_keep zero rs set h = refl
rounds_keep (suc n) rs set h =
    let e : filter set (one_round rs) ≡ filter set rs = round_keeps rs set h in
    rounds_keep n (one_round rs) set (subst IsClosed (sym e) h) ∙ e

pub rounds_among : (n : ℕ) (rs : List Report) → (kept : Report → Bool) × (rounds n rs ≡ filter kept rs)
rounds_among zero rs = (λ r. true, filter_true rs)
rounds_among (suc n) rs =
    let (kept, e) = rounds_among n (one_round rs) in
    (λ r. cond (is_covered rs r) (kept r) false, e ∙ filter_twice kept (is_covered rs) rs)

pub largest_by_rounds : (reports : List Report) → IsLargest reports (largest_closed reports)
largest_by_rounds rs = record {
  among = rounds_among (length rs) rs;
  closed = fixed_is_closed (largest_closed rs) (rounds_end (length rs) rs (omega arith));
  all = rounds_keep (length rs) rs;
}

-- each of two largest sets lies in the other
pub same_largest : (rs xs ys : List Report) → IsLargest rs xs → IsLargest rs ys → xs ≡ ys
same_largest rs xs ys a b =
    let (p, ep) = a.among in
    let (q, eq) = b.among in
    let inside : filter p ys ≡ xs = b.all p (subst IsClosed ep a.closed) ∙ sym ep in
    let inside' : filter q xs ≡ ys = a.all q (subst IsClosed eq b.closed) ∙ sym eq in
    sym inside ∙ (ap (filter p) eq ∙ (filter_commute p q rs ∙ (sym (ap (filter q) ep) ∙ inside')))

-- a larger test keeps more
sum_by-filter_more : (f : Report → ℕ) (p q : Report → Bool) → ((r : Report) → p r ≡ true → q r ≡ true) → (rs : List Report) → sum_by f (filter p rs) ≤ sum_by f (filter q rs)
sum_by-filter_more f p q le [] = omega arith
sum_by-filter_more f p q le (r ∷ rs) = grind (arith, le r, sum_by-cons f r (filter p rs), sum_by-cons f r (filter q rs), sum_by-filter_more f p q le rs)

pub union_closed : (reports : List Report) (one other : Report → Bool) → IsClosed (filter one reports) → IsClosed (filter other reports) → IsClosed (filter (λ r. one r || other r) reports)
union_closed rs one other h h' =
    let both = λ (r : Report). one r || other r in
    let le : (x : ℕ) → told_on_by x (filter one rs) ≤ told_on_by x (filter both rs) = λ x. sum_by-filter_more (told_on x) one both (λ r e. or_left (one r) (other r) e) rs in
    let le' : (x : ℕ) → told_on_by x (filter other rs) ≤ told_on_by x (filter both rs) = λ x. sum_by-filter_more (told_on x) other both (λ r e. or_right (one r) (other r) e) rs in
    each_passing (λ r. r.count ≤ told_on_by r.actor (filter both rs)) both rs
    (each_of_two
    (λ r. one r ≡ true → r.count ≤ told_on_by r.actor (filter one rs))
    (λ r. other r ≡ true → r.count ≤ told_on_by r.actor (filter other rs))
    (λ r. both r ≡ true → r.count ≤ told_on_by r.actor (filter both rs))
    rs
    (λ r a b e. ⊎_elim (λ e'. le_trans (a e') (le r.actor)) (λ e'. le_trans (b e') (le' r.actor)) (or_cases (one r) (other r) e))
    (passing_each (λ r. r.count ≤ told_on_by r.actor (filter one rs)) one rs h)
    (passing_each (λ r. r.count ≤ told_on_by r.actor (filter other rs)) other rs h'))
