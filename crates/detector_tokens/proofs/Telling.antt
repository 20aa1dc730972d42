-- Numbers that actors are told.
use Rattle.std.proofs.Common.{◌≡◌, ◌≢◌, ℕ, zero, suc, ◌+◌, ◌-◌, ◌<◌, ◌≤◌, ◌==◌, true, false, List, [], ◌∷◌, length, get_or, set, take, refl, sym, subst, ◌∙◌, ⊎_elim, arith, Some, slice_get}
use Rattle.std.proofs.lemmas.Bool.{cases_Bool, cases_eq, false≢true}
use Rattle.std.proofs.lemmas.Bool.Decides.{nat_tests}
use Rattle.std.proofs.lemmas.List.Folds.{list_any_more}
use Rattle.std.proofs.lemmas.Option.{slice_get_read, slice_get_within}
use Rattle.letter_kinds.specs.Detector.{has}
use Rattle.std.specs.List.Sorted.{IsStrictlySortedBy}
use Rattle.std.specs.Ordering.{nat_cmp}
use Rattle.detector_tokens.proofs.RisingLemmas.{first_above, has-at, rest_rises}

get-set_same : (xs : List ℕ) (a n : ℕ) → a < length xs → slice_get (set xs a n) a ≡ Some n
get-set_same [] a n lt = absurd (omega arith)
get-set_same (x ∷ xs) zero n lt = refl
get-set_same (x ∷ xs) (suc a) n lt = get-set_same xs a n (omega arith)

get-set_other : (xs : List ℕ) (a b n : ℕ) → b ≢ a → slice_get (set xs a n) b ≡ slice_get xs b
get-set_other [] a b n other = refl
get-set_other (x ∷ xs) zero zero n other = absurd (other refl)
get-set_other (x ∷ xs) zero (suc b) n other = refl
get-set_other (x ∷ xs) (suc a) zero n other = refl
get-set_other (x ∷ xs) (suc a) (suc b) n other = get-set_other xs a b n (λ e. other (omega arith))

-- the actor at a place is among them
pub actor_among : (xs : List ℕ) (i a : ℕ) → i < length xs → a ≡ get_or xs i a → has xs a ≡ true
actor_among xs i a lt is = has-at xs i a (slice_get_read xs (length xs) i a refl lt is)

-- one more actor is told
pub told_more : (told xs : List ℕ) (i a n : ℕ) → i < length xs → a ≡ get_or xs i a → a < length told
    → ((b : ℕ) → has (take i xs) b ≡ true → slice_get told b ≡ Some n) → (b : ℕ)
    → has (take (i + 1) xs) b ≡ true → slice_get (set told a n) b ≡ Some n
told_more told xs i a n lt is in_range before b h = ⊎_elim
    (λ (same : b ≡ a). subst (λ x. slice_get (set told a n) x ≡ Some n) (sym same) (get-set_same told a n in_range))
    (λ (other : b ≢ a). get-set_other told a b n other ∙ before b (grind (arith, nat_tests, list_any_more (λ x. x == b) xs i a lt)))
    (cases_eq b a)

pub told_others : (told xs : List ℕ) (i a n : ℕ) → i < length xs → a ≡ get_or xs i a → (b : ℕ)
    → has xs b ≡ false → slice_get (set told a n) b ≡ slice_get told b
told_others told xs i a n lt is b out =
    get-set_other told a b n (λ same. false≢true (sym out ∙ subst (λ x. has xs x ≡ true) (sym same) (actor_among xs i a lt is)))

below_last : (xs : List ℕ) (n last : ℕ) → IsStrictlySortedBy nat_cmp xs → suc n ≡ length xs → slice_get xs n ≡ Some last
    → (a : ℕ) → has xs a ≡ true → a ≤ last
below_last [] n last up long at a h = absurd (false≢true h)
below_last (x ∷ []) zero last up long at a h = grind (arith, nat_tests)
below_last (x ∷ []) (suc n) last up long at a h = absurd (omega arith)
below_last (x ∷ y ∷ ys) zero last up long at a h = absurd (omega arith)
below_last (x ∷ y ∷ ys) (suc n) last up long at a h =
    let rest = below_last (y ∷ ys) n last (rest_rises x (y ∷ ys) up) (omega arith) at in
    let above : x < y = (first_above x (y ∷ ys) up).0 in
    let le = rest y (grind (arith, nat_tests)) in
    ⊎_elim
    (λ (on : (x == a) ≡ true). grind (arith, nat_tests))
    (λ (off : (x == a) ≡ false). rest a (grind (arith, nat_tests)))
    (cases_Bool (x == a))

-- where the last of them has a place, all have
pub room_for : (xs : List ℕ) (last total : ℕ) → IsStrictlySortedBy nat_cmp xs → slice_get xs (length xs - 1) ≡ Some last
    → last + 1 ≤ total → (a : ℕ) → has xs a ≡ true → a < total
room_for xs last total up at le a h =
    let within = slice_get_within xs (length xs - 1) last at in
    let below = below_last xs (length xs - 1) last up (omega arith) at a h in
    omega arith

-- the element of this value
pub at_value : (xs : List ℕ) (i x a : ℕ) → a ≡ x → x ≡ get_or xs i x → a ≡ get_or xs i a
at_value xs i x a e is = subst (λ y. y ≡ get_or xs i y) (sym e) is
