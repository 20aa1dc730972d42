-- A key that would stand between two neighbours.
use Rattle.std.proofs.Common.{◌≡◌, inl, inr, ℕ, ◌-◌, ◌<◌, ◌≤◌, List, length, get_or, Ordering, ap, ◌∙◌, arith}
use Rattle.std.specs.Prelude.{T}
use Rattle.std.specs.Ordering.{nat_cmp, ordering_reverse}
use Rattle.std.specs.Cmp.{IsTotalOrder}
use Rattle.std.specs.declared.cmp.Ordering.TheVariants.{Less}
use Rattle.std.specs.FinMap.Entries.{is_sorted}
use Rattle.std.proofs.lemmas.Bool.{cases_lt}
use Rattle.std.proofs.lemmas.Bool.Decides.{nat_tests}
use Rattle.plain_list.specs.Rising.{IsGap}
use Rattle.plain_list.proofs.Rising.{rises}

module _ {K X : Type 0} {R : K → K → Ordering} (o : IsTotalOrder R) (es : List (K × X)) (h : T (is_sorted R es)) (q : K) (i : ℕ) (within : i ≤ length es)
    (low : 0 < i → (d : K × X) → R (get_or es (i - 1) d).0 q ≡ Less) (high : i < length es → (d : K × X) → R q (get_or es i d).0 ≡ Less) where
  lower : (j : ℕ) (d : K × X) → j < i → R (get_or es j d).0 q ≡ Less
  lower j d l = elim (cases_lt j (i - 1)) as (λ _. R (get_or es j d).0 q ≡ Less) [
    | inl n ↦ o.trans (get_or es j d).0 (get_or es (i - 1) d).0 q (rises o es h j (i - 1) d n (omega arith)) (low (omega arith) d)
    | inr n ↦ let last : j ≡ i - 1 = omega arith in ap (λ k. R (get_or es k d).0 q) last ∙ low (omega arith) d
  ]

  higher : (j : ℕ) (d : K × X) → i ≤ j → j < length es → R q (get_or es j d).0 ≡ Less
  higher j d l n = elim (cases_lt i j) as (λ _. R q (get_or es j d).0 ≡ Less) [
    | inl m ↦ o.trans q (get_or es i d).0 (get_or es j d).0 (high (omega arith) d) (rises o es h i j d m n)
    | inr m ↦ let first : j ≡ i = omega arith in ap (λ k. R q (get_or es k d).0) first ∙ high (omega arith) d
  ]

  pub gap_between : IsGap R es q i
  gap_between = record {
    in_range = within;
    before = λ j d l. o.antisymm q (get_or es j d).0 ∙ ap ordering_reverse (lower j d l);
    after = higher;
  }

pub less_number : (a b : ℕ) → a < b → nat_cmp a b ≡ Less
less_number a b l = grind (arith, nat_tests)
