-- Marks beside names: what they pick, and how many are off.
use Rattle.std.proofs.Common.{◌≡◌, ℕ, zero, suc, ◌+◌, ◌<◌, ◌≤◌, ◌==◌, Bool, true, false, ◌||◌, List, [], ◌∷◌, length, length-set, get_or, set, filter, replicate, refl, ap, sym, ◌∙◌, arith}
use Rattle.std.proofs.lemmas.Bool.Decides.{nat_tests}
use Rattle.std.specs.List.{list_all}
use Rattle.letter_kinds.specs.Detector.{has}
use Rattle.detector_tokens.specs.Marks.{picked, off_count, mark_of}
use Rattle.std.specs.List.Sorted.{IsStrictlySortedBy}
use Rattle.std.specs.Ordering.{nat_cmp}
use Rattle.detector_tokens.proofs.RisingLemmas.{above-get, AllAbove, first_above, rest_rises}

-- who is below all of them is not among them
pub has-above : (a b : ℕ) (xs : List ℕ) → a ≤ b → AllAbove b xs → has xs a ≡ false
has-above a b [] le h = refl
has-above a b (x ∷ xs) le h = grind (arith, nat_tests, h.0, has-above a b xs le h.1)

picked-above : (a : ℕ) (xs : List ℕ) (bs : List Bool) → AllAbove a xs → has (picked xs bs) a ≡ false
picked-above a [] bs h = refl
picked-above a (x ∷ xs) [] h = refl
picked-above a (x ∷ xs) (b ∷ bs) h = grind (arith, nat_tests, h.0, picked-above a xs bs h.1)

mark_of-above : (a : ℕ) (xs : List ℕ) (bs : List Bool) → AllAbove a xs → mark_of xs bs a ≡ false
mark_of-above a [] bs h = refl
mark_of-above a (x ∷ xs) [] h = refl
mark_of-above a (x ∷ xs) (b ∷ bs) h = grind (arith, nat_tests, h.0, mark_of-above a xs bs h.1)

-- a name is picked where its mark is on
pub has-picked : (xs : List ℕ) (bs : List Bool) (a : ℕ) → IsStrictlySortedBy nat_cmp xs
    → has (picked xs bs) a ≡ mark_of xs bs a
has-picked [] bs a h = refl
has-picked (x ∷ xs) [] a h = refl
has-picked (x ∷ xs) (b ∷ bs) a h = grind (arith, nat_tests, has-picked xs bs a (rest_rises x xs h), picked-above x xs bs (first_above x xs h), mark_of-above x xs bs (first_above x xs h))

filter-agree_above : (p q : ℕ → Bool) (a : ℕ) (xs : List ℕ) → ((x : ℕ) → a < x → p x ≡ q x)
    → AllAbove a xs → filter p xs ≡ filter q xs
filter-agree_above p q a [] f h = refl
filter-agree_above p q a (x ∷ xs) f h = grind (arith, f x h.0, filter-agree_above p q a xs f h.1)

pub filter-agree : (p q : ℕ → Bool) (xs : List ℕ) → ((x : ℕ) → p x ≡ q x) → filter p xs ≡ filter q xs
filter-agree p q [] f = refl
filter-agree p q (x ∷ xs) f = grind (arith, f x, filter-agree p q xs f)

-- the marks pick what they mark
pub filter-mark_of : (xs : List ℕ) (bs : List Bool) → length bs ≡ length xs → IsStrictlySortedBy nat_cmp xs
    → filter (mark_of xs bs) xs ≡ picked xs bs
filter-mark_of [] bs l h = refl
filter-mark_of (x ∷ xs) [] l h = absurd (omega arith)
filter-mark_of (x ∷ xs) (b ∷ bs) l h =
    let rest = filter-agree_above (mark_of (x ∷ xs) (b ∷ bs)) (mark_of xs bs) x xs (λ y lt. grind (arith, nat_tests)) (first_above x xs h) in
    grind (arith, nat_tests, filter-mark_of xs bs (omega arith) (rest_rises x xs h))

-- one mark is set
pub mark_of-set : (xs : List ℕ) (bs : List Bool) (i a y : ℕ) → length bs ≡ length xs → IsStrictlySortedBy nat_cmp xs
    → i < length xs → get_or xs i 0 ≡ y
    → mark_of xs (set bs i true) a ≡ (mark_of xs bs a || (a == y))
mark_of-set [] bs i a y l h lt e = absurd (omega arith)
mark_of-set (x ∷ xs) [] i a y l h lt e = absurd (omega arith)
mark_of-set (x ∷ xs) (b ∷ bs) zero a y l h lt e = grind (arith, nat_tests)
mark_of-set (x ∷ xs) (b ∷ bs) (suc i) a y l h lt e =
    let above = above-get x xs i (first_above x xs h) (omega arith) in
    grind (arith, nat_tests, mark_of-set xs bs i a y (omega arith) (rest_rises x xs h) (omega arith) e)

-- who is acknowledged now: those before, and the member
pub acked-set : (xs : List ℕ) (bs : List Bool) (i a : ℕ) → length bs ≡ length xs → IsStrictlySortedBy nat_cmp xs
    → i < length xs → get_or xs i 0 ≡ a
    → picked xs (set bs i true) ≡ filter (λ m. has (picked xs bs) m || (m == a)) xs
acked-set xs bs i a l h lt e =
    sym (filter-mark_of xs (set bs i true) (simp length-set (omega arith)) h)
    ∙ filter-agree (mark_of xs (set bs i true)) (λ m. has (picked xs bs) m || (m == a)) xs
    (λ x. mark_of-set xs bs i x a l h lt e ∙ ap (λ c. c || (x == a)) (sym (has-picked xs bs x h)))

filter-other : (p : ℕ → Bool) (a : ℕ) (xs : List ℕ) → has xs a ≡ false
    → filter (λ m. p m || (m == a)) xs ≡ filter p xs
filter-other p a [] h = refl
filter-other p a (x ∷ xs) h = grind (arith, nat_tests, filter-other p a xs)

-- who is no member, or acknowledged before, changes nothing
pub acked-other : (xs : List ℕ) (bs : List Bool) (a : ℕ) → length bs ≡ length xs → IsStrictlySortedBy nat_cmp xs
    → has xs a ≡ false → picked xs bs ≡ filter (λ m. has (picked xs bs) m || (m == a)) xs
acked-other xs bs a l h n =
    sym (filter-mark_of xs bs l h) ∙ (filter-agree (mark_of xs bs) (has (picked xs bs)) xs (λ x. sym (has-picked xs bs x h))
    ∙ sym (filter-other (has (picked xs bs)) a xs n))

set-same : (bs : List Bool) (i : ℕ) → i < length bs → get_or bs i false ≡ true → set bs i true ≡ bs
set-same [] i lt e = refl
set-same (b ∷ bs) zero lt e = ap (λ c. c ∷ bs) (sym e)
set-same (b ∷ bs) (suc i) lt e = ap (λ cs. b ∷ cs) (set-same bs i (omega arith) e)

pub acked-again : (xs : List ℕ) (bs : List Bool) (i a : ℕ) → length bs ≡ length xs → IsStrictlySortedBy nat_cmp xs
    → i < length xs → get_or xs i 0 ≡ a → get_or bs i false ≡ true
    → picked xs bs ≡ filter (λ m. has (picked xs bs) m || (m == a)) xs
acked-again xs bs i a l h lt e on = ap (picked xs) (sym (set-same bs i (omega arith) on)) ∙ acked-set xs bs i a l h lt e

pub off_count-set : (bs : List Bool) (i : ℕ) → i < length bs → get_or bs i false ≡ false
    → off_count (set bs i true) + 1 ≡ off_count bs
off_count-set [] i lt e = absurd (omega arith)
off_count-set (b ∷ bs) zero lt e = grind arith
off_count-set (b ∷ bs) (suc i) lt e = grind (arith, off_count-set bs i (omega arith) e)

pub picked-none : (xs : List ℕ) (n : ℕ) → picked xs (replicate n false) ≡ []
picked-none [] n = refl
picked-none (x ∷ xs) zero = refl
picked-none (x ∷ xs) (suc n) = picked-none xs n

pub off_count-none : (n : ℕ) → off_count (replicate n false) ≡ n
off_count-none zero = refl
off_count-none (suc n) = ap suc (off_count-none n)

-- all are picked where no mark is off
all_picked : (xs ys : List ℕ) (bs : List Bool) → length bs ≡ length xs → IsStrictlySortedBy nat_cmp xs → (p : ℕ → Bool)
    → ((x : ℕ) → has xs x ≡ true → p x ≡ mark_of xs bs x) → list_all p xs ≡ (off_count bs == 0)
all_picked [] ys [] l h p f = refl
all_picked [] ys (b ∷ bs) l h p f = absurd (omega arith)
all_picked (x ∷ xs) ys [] l h p f = absurd (omega arith)
all_picked (x ∷ xs) ys (b ∷ bs) l h p f =
    let none = has-above x x xs (omega arith) (first_above x xs h) in
    let head : p x ≡ b = f x (grind (arith, nat_tests)) ∙ grind (arith, nat_tests) in
    let rest = all_picked xs ys bs (omega arith) (rest_rises x xs h) p (λ y i. f y (grind (arith, nat_tests)) ∙ grind (arith, nat_tests, none)) in
    grind (arith, nat_tests)

pub acked_all : (xs : List ℕ) (bs : List Bool) → length bs ≡ length xs → IsStrictlySortedBy nat_cmp xs
    → list_all (has (picked xs bs)) xs ≡ (off_count bs == 0)
acked_all xs bs l h = all_picked xs xs bs l h (has (picked xs bs)) (λ x _. has-picked xs bs x h)
