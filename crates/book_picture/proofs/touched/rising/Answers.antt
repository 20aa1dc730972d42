use Rattle.std.proofs.Common.{◌≡◌, ℕ, nat_eq, List, [], ◌∷◌, arith, refl, ◌∙◌, ap, sym}
use Rattle.std.specs.List.{dedup, dedup_from}
use Rattle.std.specs.Ordering.{eq_by_cmp, nat_cmp}
use Rattle.std.proofs.lemmas.Bool.Decides.{nat_tests}
use Rattle.std.proofs.lemmas.Cmp.{nat_cmp_total}
use Rattle.std.proofs.lemmas.List.Filters.{dedup_is}
use Rattle.std.proofs.lemmas.List.Kept.{IsStrictlySortedBy-dedup}
use Rattle.std.proofs.lemmas.List.Sorted.{list_any-IsPermutation}
use Rattle.letter_kinds.specs.Detector.{has}
use Rattle.book_picture.proofs.touched.rising.Goals as goal

ties : (x y : ℕ) → nat_eq x y ≡ eq_by_cmp nat_cmp x y
ties x y = grind (arith, nat_tests)

has_from : (k : ℕ) (xs : List ℕ) (a : ℕ) → has (dedup_from nat_eq k xs) a ≡ has (k ∷ xs) a
has_from k [] a = refl
has_from k (x ∷ xs) a = grind (arith, nat_tests, has_from k xs a, has_from x xs a)

has_once : (xs : List ℕ) (a : ℕ) → has (dedup nat_eq xs) a ≡ has xs a
has_once [] a = refl
has_once (x ∷ xs) a = has_from x xs a

pub returns-clause-rising : goal.returns-clause-rising
returns-clause-rising c = rw (dedup_is nat_eq _ _ c.dedup.ensures.filtered) (IsStrictlySortedBy-dedup nat_cmp_total ties _ c.sort_unstable.ensures.sorted)

pub returns-clause-same : goal.returns-clause-same
returns-clause-same c a =
    ap (λ xs. has xs a) (dedup_is nat_eq _ _ c.dedup.ensures.filtered) ∙ has_once c.sort_unstable.new.self.items a
    ∙ sym (list_any-IsPermutation (λ x. nat_eq x a) _ _ c.sort_unstable.ensures.permutation)
