-- Sums over all actors, and over some of them, each once.
use Rattle.std.proofs.Common.{◌≡◌, ℕ, zero, suc, ◌+◌, ◌≤◌, ◌<◌, ◌≢◌, ⊎_elim, List, [], ◌∷◌, sum_by, arith, refl, ap, sym, subst}
use Rattle.std.proofs.lemmas.Bool.{cases_eq}
use Rattle.std.proofs.lemmas.List.Sums.{sum_by-cons}
use Rattle.std.specs.List.{AllByRecursion}
use Rattle.letter_kinds.specs.declared.note.Report.{Report}
use Rattle.detector_laws.proofs.Maps.{at_same, at_other}
use Rattle.detector_laws.specs.Balance.{sum_below}
use Rattle.detector_laws.proofs.Order.{AllAbove, rising_parts}
use Rattle.detector_laws.specs.Reports.{IsRising}
use Rattle.detector_laws.specs.World.{at}

pub sum_below_same : (n : ℕ) (f g : ℕ → ℕ) → ((b : ℕ) → b < n → f b ≡ g b) → sum_below n f ≡ sum_below n g
sum_below_same zero f g h = refl
sum_below_same (suc n) f g h = omega (arith, h n (omega arith), sum_below_same n f g (λ b lt. h b (omega arith)))

pub sum_below_at : (n x : ℕ) (f : ℕ → ℕ) → x < n → sum_below n f ≡ f x + sum_below n (at f x 0)
sum_below_at zero x f h = absurd (omega arith)
sum_below_at (suc n) x f h = ⊎_elim
    (λ (e : x ≡ n). omega (arith, ap f e, subst (λ y. at f y 0 n ≡ 0) (sym e) (at_same f n 0), sum_below_same n (at f x 0) f (λ b lt. at_other f x 0 b (λ (eb : b ≡ x). omega arith))))
    (λ (ne : x ≢ n). omega (arith, at_other f x 0 n (λ e. ne (sym e)), sum_below_at n x f (omega arith)))
    (cases_eq x n)

pub above_same : (a : ℕ) (f : ℕ → ℕ) (rs : List Report) → AllAbove a rs → sum_by (λ r. at f a 0 r.actor) rs ≡ sum_by (λ r. f r.actor) rs
above_same a f [] h = refl
above_same a f (r ∷ rs) h =
    omega (arith, at_other f a 0 r.actor (λ e. omega (arith, h.0, e)), above_same a f rs h.1, sum_by-cons (λ q. at f a 0 q.actor) r rs, sum_by-cons (λ q. f q.actor) r rs)

pub some_le_all : (n : ℕ) (f : ℕ → ℕ) (rs : List Report) → IsRising rs → AllByRecursion (λ r. r.actor < n) rs → sum_by (λ r. f r.actor) rs ≤ sum_below n f
some_le_all n f [] h k = omega arith
some_le_all n f (r ∷ rs) h k =
    let (above, rest) = rising_parts r rs h in
    omega (arith, sum_by-cons (λ q. f q.actor) r rs, above_same r.actor f rs above, sum_below_at n r.actor f k.0, some_le_all n (at f r.actor 0) rs rest k.1)

-- and one more, which is none of them
pub some_and_one : (n : ℕ) (f : ℕ → ℕ) (b : ℕ) (rs : List Report) → b < n → IsRising rs → AllByRecursion (λ r. r.actor < n) rs → AllByRecursion (λ r. r.actor ≢ b) rs → sum_by (λ r. f r.actor) rs + f b ≤ sum_below n f
some_and_one n f b [] lt h k ne = omega (arith, sum_below_at n b f lt)
some_and_one n f b (r ∷ rs) lt h k ne =
    let (above, rest) = rising_parts r rs h in
    omega (
      arith,
      sum_by-cons (λ q. f q.actor) r rs,
      above_same r.actor f rs above,
      sum_below_at n r.actor f k.0,
      some_and_one n (at f r.actor 0) b rs lt rest k.1 ne.1,
      at_other f r.actor 0 b (λ e. ne.0 (sym e)),
    )
