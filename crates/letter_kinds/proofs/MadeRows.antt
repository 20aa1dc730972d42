-- Rows that were made, among those that an actor has.
use Rattle.std.proofs.Common.{◌≡◌, ◌≢◌, ◌⊎◌, ℕ, zero, suc, ◌+◌, ◌-◌, ◌<◌, ◌≤◌, Some, List, [], ◌∷◌, length, get_or, refl, ◌∙◌, arith, inl, inr, ⊎_elim, eq-eqb, ne_eqb}
use Rattle.std.proofs.lemmas.Bool.{cases_lt}
use Rattle.std.proofs.lemmas.Cmp.{nat_cmp_total}
use Rattle.std.specs.Ordering.{nat_cmp}
use Rattle.std.specs.Cmp.{unsigned_tied}
use Rattle.std.specs.FinMap as m
use Rattle.letter_kinds.specs.Holdings.{Row, add_rows}

get_same : (rows : m.FinMap nat_cmp (Row × ℕ)) (n k : ℕ) (v : Row × ℕ) → k ≡ n → m.get (m.insert rows n v) k ≡ Some v
get_same rows n k v e = rw (m.get-insert nat_cmp_total, unsigned_tied k n, eq-eqb k n e) refl

get_other : (rows : m.FinMap nat_cmp (Row × ℕ)) (n k : ℕ) (v : Row × ℕ) → k ≢ n → m.get (m.insert rows n v) k ≡ m.get rows k
get_other rows n k v e = rw (m.get-insert nat_cmp_total, unsigned_tied k n, ne_eqb k n e) refl

pub add_rows-below : (n : ℕ) (rs : List Row) (rows : m.FinMap nat_cmp (Row × ℕ)) (k : ℕ) → k < n → m.get (add_rows n rs rows) k ≡ m.get rows k
unfolding add_rows
add_rows-below n [] rows k h = refl
add_rows-below n (r ∷ rs) rows k h = add_rows-below (suc n) rs (m.insert rows n (r, 0)) k (omega arith) ∙ get_other rows n k (r, 0) (omega arith)

pub add_rows-made : (n : ℕ) (rs : List Row) (rows : m.FinMap nat_cmp (Row × ℕ)) (i k : ℕ) → i < length rs → k ≡ n + i → m.get (add_rows n rs rows) k ≡ Some (get_or rs i [], 0)
unfolding add_rows
add_rows-made n [] rows i k h e = absurd (omega arith)
add_rows-made n (r ∷ rs) rows zero k h e = add_rows-below (suc n) rs (m.insert rows n (r, 0)) k (omega arith) ∙ get_same rows n k (r, 0) (omega arith)
add_rows-made n (r ∷ rs) rows (suc i) k h e = add_rows-made (suc n) rs (m.insert rows n (r, 0)) i k (omega arith) (omega arith)

pub add_rows-past : (n : ℕ) (rs : List Row) (rows : m.FinMap nat_cmp (Row × ℕ)) (k : ℕ) → n + length rs ≤ k → m.get (add_rows n rs rows) k ≡ m.get rows k
unfolding add_rows
add_rows-past n [] rows k h = refl
add_rows-past n (r ∷ rs) rows k h = add_rows-past (suc n) rs (m.insert rows n (r, 0)) k (omega arith) ∙ get_other rows n k (r, 0) (omega arith)

-- where a serial stands: before the rows made, among them, or past them
pub cases_serial : (n len k : ℕ) → (k < n) ⊎ (((i : ℕ) × (i < len) × (k ≡ n + i)) ⊎ (n + len ≤ k))
cases_serial n len k = ⊎_elim
    (λ below. inl below)
    (λ from. ⊎_elim (λ within. inr (inl (k - n, omega arith, omega arith))) (λ past. inr (inr past)) (cases_lt k (n + len)))
    (cases_lt k n)
