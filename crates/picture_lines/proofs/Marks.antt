-- The mark that stands beside a name.
use Rattle.std.proofs.Common.{◌≡◌, ℕ, zero, suc, ◌<◌, Bool, false, List, [], ◌∷◌, length, get_or, ◌∙◌, arith}
use Rattle.std.proofs.lemmas.Bool.Decides.{nat_tests}
use Rattle.std.specs.List.Sorted.{IsStrictlySortedBy}
use Rattle.std.specs.Ordering.{nat_cmp}
use Rattle.letter_kinds.specs.Detector.{has}
use Rattle.detector_tokens.specs.Marks.{mark_of, picked}
use Rattle.detector_tokens.proofs.MarksLemmas.{has-picked}
use Rattle.detector_tokens.proofs.RisingLemmas.{above-get, first_above, rest_rises}

mark_of-at : (xs : List ℕ) (bs : List Bool) (i x : ℕ) (b : Bool) → length bs ≡ length xs → IsStrictlySortedBy nat_cmp xs → i < length xs
    → get_or xs i 0 ≡ x → get_or bs i false ≡ b → mark_of xs bs x ≡ b
mark_of-at [] bs i x b l h lt e f = absurd (omega arith)
mark_of-at (y ∷ xs) [] i x b l h lt e f = absurd (omega arith)
mark_of-at (y ∷ xs) (c ∷ bs) zero x b l h lt e f = grind (arith, nat_tests, e, f)
mark_of-at (y ∷ xs) (c ∷ bs) (suc i) x b l h lt e f =
    let above = above-get y xs i (first_above y xs h) (omega arith) in
    grind (arith, nat_tests, e, mark_of-at xs bs i x b (omega arith) (rest_rises y xs h) (omega arith) e f)

-- a name is picked where the mark beside it is on
pub picked-at : (xs : List ℕ) (bs : List Bool) (i x : ℕ) (b : Bool) → length bs ≡ length xs → IsStrictlySortedBy nat_cmp xs → i < length xs
    → get_or xs i 0 ≡ x → get_or bs i false ≡ b → has (picked xs bs) x ≡ b
picked-at xs bs i x b l h lt e f = has-picked xs bs x h ∙ mark_of-at xs bs i x b l h lt e f
