-- Sums of what reports tell: one entry is added or taken off.
use Rattle.std.proofs.Common.{◌≡◌, ◌≢◌, ℕ, zero, suc, ◌+◌, ◌-◌, ◌≤◌, ◌<◌, ◌==◌, false, if◌then◌else◌, List, [], ◌∷◌, length, get_or, set, take, map, add-one, refl, ap, sym, subst, ◌∙◌, ⊎_elim, arith, Some, slice_get}
use Rattle.std.proofs.lemmas.Bool.{cases_eq}
use Rattle.std.proofs.lemmas.Bool.Decides.{nat_tests}
use Rattle.std.proofs.lemmas.List.{get_or-set_same, get_or-set_other}
use Rattle.std.proofs.lemmas.List.Sums.{sum_by-cons}
use Rattle.letter_kinds.specs.Reports.{told_on, report_told}
use Rattle.letter_kinds.specs.declared.note.Report.{Report}
use Rattle.cycle_detect.specs.Falling.{count_at, held_count, told_in}
use Rattle.cycle_detect.specs.Kept.{actors_of}
use Rattle.std.specs.List.Sorted.{IsStrictlySortedBy}
use Rattle.std.specs.Ordering.{nat_cmp}
use Rattle.detector_tokens.proofs.RisingLemmas.{above-get, first_above, place_is, rest_rises}

-- names at two places differ
pub apart : (ns : List ℕ) (i j : ℕ) → IsStrictlySortedBy nat_cmp ns → i < length ns → j < length ns → i ≢ j
    → get_or ns i 0 ≢ get_or ns j 0
apart [] i j h lt lt' n = absurd (omega arith)
apart (x ∷ xs) zero zero h lt lt' n = absurd (n refl)
apart (x ∷ xs) zero (suc j) h lt lt' n = λ e. let above = above-get x xs j (first_above x xs h) (omega arith) in omega arith
apart (x ∷ xs) (suc i) zero h lt lt' n = λ e. let above = above-get x xs i (first_above x xs h) (omega arith) in omega arith
apart (x ∷ xs) (suc i) (suc j) h lt lt' n = apart xs i j (rest_rises x xs h) (omega arith) (omega arith) (λ e. n (ap suc e))

-- the entry tells on the actor at one place, and on no other
pub told_here : (ns : List ℕ) (e : ℕ × ℕ) (t k : ℕ) → (e.0 == t) ≡ false → slice_get ns k ≡ Some e.0
    → told_in e t (get_or ns k 0) ≡ e.1
told_here ns e t k other at = let is : get_or ns k 0 ≡ e.0 = (place_is ns k e.0 at).1 in rw is (grind (arith, nat_tests))

pub told_elsewhere : (ns : List ℕ) (e : ℕ × ℕ) (t k j : ℕ) → IsStrictlySortedBy nat_cmp ns → slice_get ns k ≡ Some e.0
    → j < length ns → j ≢ k → told_in e t (get_or ns j 0) ≡ 0
told_elsewhere ns e t k j h at lt n =
    let p = place_is ns k e.0 at in
    let other : e.0 ≢ get_or ns j 0 = λ same. apart ns j k h lt p.0 n (sym same ∙ sym p.1) in
    grind (arith, nat_tests)

pub entry_added : (ns told : List ℕ) (e : ℕ × ℕ) (t k v : ℕ) → IsStrictlySortedBy nat_cmp ns → length told ≡ length ns
    → (e.0 == t) ≡ false → slice_get ns k ≡ Some e.0 → v ≡ get_or told k 0 + e.1 → (j : ℕ)
    → j < length ns → get_or (set told k v) j 0 ≡ get_or told j 0 + told_in e t (get_or ns j 0)
entry_added ns told e t k v h long other at is j lt = ⊎_elim
    (λ (same : j ≡ k). subst (λ i. get_or (set told k v) i 0 ≡ get_or told i 0 + told_in e t (get_or ns i 0)) (sym same)
    (let in_range = (place_is ns k e.0 at).0 in get_or-set_same told k v 0 (omega arith) ∙ (is ∙ ap (λ n. get_or told k 0 + n) (sym (told_here ns e t k other at)))))
    (λ (n : j ≢ k). get_or-set_other told k j v 0 n ∙ omega (arith, told_elsewhere ns e t k j h at lt n))
    (cases_eq j k)

pub entry_taken : (ns told : List ℕ) (e : ℕ × ℕ) (t k v : ℕ) → IsStrictlySortedBy nat_cmp ns → length told ≡ length ns
    → (e.0 == t) ≡ false → slice_get ns k ≡ Some e.0 → v + e.1 ≡ get_or told k 0 → (j : ℕ)
    → j < length ns → get_or (set told k v) j 0 + told_in e t (get_or ns j 0) ≡ get_or told j 0
entry_taken ns told e t k v h long other at is j lt = ⊎_elim
    (λ (same : j ≡ k). subst (λ i. get_or (set told k v) i 0 + told_in e t (get_or ns i 0) ≡ get_or told i 0) (sym same)
    (let in_range = (place_is ns k e.0 at).0 in ap (λ n. n + told_in e t (get_or ns k 0)) (get_or-set_same told k v 0 (omega arith)) ∙ (ap (λ n. v + n) (told_here ns e t k other at) ∙ is)))
    (λ (n : j ≢ k). let gone = told_elsewhere ns e t k j h at lt n in let same = get_or-set_other told k j v 0 n in omega arith)
    (cases_eq j k)

-- ---- how many counts reports tell

pub held_upto : {X : Type 0} (g : X → Report) (xs : List X) (i : ℕ) (d : X) → i < length xs
    → d ≡ get_or xs i d → held_count (map g (take i xs)) + length (g d).held ≤ held_count (map g xs)
held_upto g [] i d lt e = absurd (omega arith)
held_upto g (x ∷ xs) zero d lt e = rw (ap g e) (omega (arith, sum_by-cons (λ (r : Report). length r.held) (g x) (map g xs)))
held_upto g (x ∷ xs) (suc i) d lt e =
    omega (arith, sum_by-cons (λ (r : Report). length r.held) (g x) (map g xs), sum_by-cons (λ (r : Report). length r.held) (g x) (map g (take i xs)), held_upto g xs i d (omega arith) e)

-- ---- an entry at its place

pub at_default : (xs : List ℕ) (k v : ℕ) → k < length xs → v ≡ get_or xs k v → v ≡ get_or xs k 0
at_default [] k v lt e = absurd (omega arith)
at_default (x ∷ xs) zero v lt e = e
at_default (x ∷ xs) (suc k) v lt e = at_default xs k v (omega arith) e

pub left_value : (ns told : List ℕ) (e : ℕ × ℕ) (t k w f : ℕ) → IsStrictlySortedBy nat_cmp ns → length told ≡ length ns
    → (e.0 == t) ≡ false → slice_get ns k ≡ Some e.0 → w ≡ get_or told k w → f ≡ e.1
    → ((j : ℕ) → j < length ns → told_in e t (get_or ns j 0) ≤ get_or told j 0)
    → (w - f) + e.1 ≡ get_or told k 0
left_value ns told e t k w f h long other at is same enough =
    let p = place_is ns k e.0 at in
    let here = told_here ns e t k other at in
    let le = enough k p.0 in
    let w_is = at_default told k w (omega arith) is in
    omega arith

told_next : (x a : ℕ) (es : List (ℕ × ℕ)) (j : ℕ) (e : ℕ × ℕ) → j < length es → e ≡ get_or es j e
    → told_on x (report_told a 0 (take (suc j) es)) ≡ told_on x (report_told a 0 (take j es)) + told_in e a x
told_next x a [] j e lt is = absurd (omega arith)
told_next x a (y ∷ ys) zero e lt is = grind (arith, nat_tests)
told_next x a (y ∷ ys) (suc j) e lt is =
    grind (arith, nat_tests, sum_by-cons (λ (p : ℕ × ℕ). if p.0 == x then p.1 else 0) y (take j ys), sum_by-cons (λ (p : ℕ × ℕ). if p.0 == x then p.1 else 0) y (take (suc j) ys), told_next x a ys j e (omega arith) is)

pub told_more : (x a : ℕ) (es : List (ℕ × ℕ)) (j : ℕ) (e : ℕ × ℕ) → j < length es
    → e ≡ get_or es j e
    → told_on x (report_told a 0 (take (j + 1) es)) ≡ told_on x (report_told a 0 (take j es)) + told_in e a x
told_more x a es j e lt is = rw add-one (told_next x a es j e lt is)

pub told_upto : (x a c : ℕ) (es : List (ℕ × ℕ)) (j : ℕ) (e : ℕ × ℕ) → j < length es
    → e ≡ get_or es j e
    → told_on x (report_told a 0 (take j es)) + told_in e a x ≤ told_on x (report_told a c es)
told_upto x a c [] j e lt is = absurd (omega arith)
told_upto x a c (y ∷ ys) zero e lt is = grind (arith, nat_tests, sum_by-cons (λ (p : ℕ × ℕ). if p.0 == x then p.1 else 0) y ys)
told_upto x a c (y ∷ ys) (suc j) e lt is =
    grind (arith, nat_tests, sum_by-cons (λ (p : ℕ × ℕ). if p.0 == x then p.1 else 0) y (take j ys), sum_by-cons (λ (p : ℕ × ℕ). if p.0 == x then p.1 else 0) y ys, told_upto x a c ys j e (omega arith) is)

pub count_of : {X : Type 0} (g : X → Report) (xs : List X) (k : ℕ) (d : X) → k < length xs
    → d ≡ get_or xs k d → (g d).count ≡ count_at (map g xs) k
count_of g [] k d lt e = absurd (omega arith)
count_of g (x ∷ xs) zero d lt e = ap (λ y. (g y).count) e
count_of g (x ∷ xs) (suc k) d lt e = count_of g xs k d (omega arith) e

pub report_of_place : {X : Type 0} (g : X → Report) (xs : List X) (k : ℕ) (d : X) (r : Report)
    → k < length xs → d ≡ get_or xs k d → get_or (map g xs) k r ≡ g d
report_of_place g [] k d r lt e = absurd (omega arith)
report_of_place g (x ∷ xs) zero d r lt e = ap g (sym e)
report_of_place g (x ∷ xs) (suc k) d r lt e = report_of_place g xs k d r (omega arith) e

pub told_part : (r : Report) (x : ℕ) (es : List (ℕ × ℕ)) (j : ℕ) (e : ℕ × ℕ) → es ≡ r.held
    → j < length es → e ≡ get_or es j e
    → told_on x (report_told r.actor 0 (take j es)) + told_in e r.actor x ≤ told_on x r
told_part r x es j e same lt is = subst (λ hs. told_on x (report_told r.actor 0 (take j es)) + told_in e r.actor x ≤ told_on x (report_told r.actor r.count hs)) same (told_upto x r.actor r.count es j e lt is)

pub length-names : {X : Type 0} (g : X → Report) (xs : List X) (ns : List ℕ)
    → ns ≡ actors_of (map g xs) → length ns ≡ length xs
length-names {X = X} g xs ns e = ap length e ∙ go xs
  where
    go : (ys : List X) → length (actors_of (map g ys)) ≡ length ys
    go [] = refl
    go (y ∷ ys) = ap suc (go ys)
