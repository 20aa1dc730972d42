-- Reports fall, one after another, until those that are left cover one another.
use Rattle.std.proofs.Common.{◌≡◌, ◌≢◌, ℕ, zero, suc, ◌+◌, ◌≤◌, ◌<◌, ◌==◌, not, Bool, true, false, ◌||◌, ◌⊎◌, inl, inr, ⊎_elim, List, [], ◌∷◌, ◌++◌, length, length-set, length-append, get_or, set, filter, replicate, arith, refl, ap, sym, subst, ◌∙◌, eq-eqb, Result, Ok, Err, OnOk, Some, slice_get}
use Rattle.std.specs.List.{AllByRecursion}
use Rattle.std.proofs.lemmas.Bool.{cases_Bool, cases_eq, cases_lt, false≢true, ne_eqb}
use Rattle.std.proofs.lemmas.Bool.Decides.{nat_tests}
use Rattle.std.proofs.lemmas.List.{get_or-set_same, get_or-set_other, length-replicate}
use Rattle.std.proofs.lemmas.List.Sums.{sum_by-cons}
use Rattle.letter_kinds.specs.Detector.{has}
use Rattle.letter_kinds.specs.Reports.{told_on, told_on_by}
use Rattle.letter_kinds.specs.declared.note.Report.{Report}
use Rattle.cycle_detect.specs.Falling.{AreFalling, LosesNone, count_at, held_count, held_left, is_unmarked, told_in, told_without}
use Rattle.cycle_detect.specs.Kept.{actors_of}
use Rattle.detector_tokens.specs.Marks.{mark_of, off_count}
use Rattle.std.specs.List.Sorted.{IsStrictlySortedBy}
use Rattle.std.specs.Ordering.{nat_cmp}
use Rattle.detector_tokens.proofs.MarksLemmas.{mark_of-set, off_count-none, off_count-set}
use Rattle.cycle_detect.proofs.Sums.{told_here}
use Rattle.cycle_detect.proofs.Work.{In, less_kept, lowered, take_out, without}
use Rattle.detector_tokens.proofs.RisingLemmas.{above-get, first_above, place_is, rest_rises}

pub on_ok : {A E P : Type 0} (r : Result A E) → P → OnOk r P
on_ok (Ok x) h = h
on_ok (Err x) h = tt

pub on_ok_one : {A E P Q : Type 0} (r : Result A E) → (P → Q) → OnOk r P → OnOk r Q
on_ok_one (Ok x) f p = f p
on_ok_one (Err x) f p = tt

pub on_ok_two : {A E P Q R : Type 0} (r : Result A E) → (P → Q → R) → OnOk r P → OnOk r Q → OnOk r R
on_ok_two (Ok x) f p q = f p q
on_ok_two (Err x) f p q = tt

-- ---- reports by their places

pub actor_at : (rs : List Report) (k : ℕ) (d : Report) → k < length rs
    → get_or (actors_of rs) k 0 ≡ (get_or rs k d).actor
actor_at [] k d lt = absurd (omega arith)
actor_at (r ∷ rs) zero d lt = refl
actor_at (r ∷ rs) (suc k) d lt = actor_at rs k d (omega arith)

pub count_is : (rs : List Report) (k : ℕ) (d : Report) → k < length rs
    → count_at rs k ≡ (get_or rs k d).count
count_is [] k d lt = absurd (omega arith)
count_is (r ∷ rs) zero d lt = refl
count_is (r ∷ rs) (suc k) d lt = count_is rs k d (omega arith)

In_at : (rs : List Report) (k : ℕ) (d : Report) → k < length rs → In (get_or rs k d) rs
In_at [] k d lt = absurd (omega arith)
In_at (r ∷ rs) zero d lt = inl refl
In_at (r ∷ rs) (suc k) d lt = inr (In_at rs k d (omega arith))

pub length-actors : (rs : List Report) → length (actors_of rs) ≡ length rs
length-actors [] = refl
length-actors (r ∷ rs) = ap suc (length-actors rs)

pub mark_at : (ns : List ℕ) (bs : List Bool) (k : ℕ) → IsStrictlySortedBy nat_cmp ns → k < length ns
    → mark_of ns bs (get_or ns k 0) ≡ get_or bs k false
mark_at [] bs k h lt = absurd (omega arith)
mark_at (x ∷ xs) [] k h lt = refl
mark_at (x ∷ xs) (b ∷ bs) zero h lt = rw (eq-eqb x x refl) refl
mark_at (x ∷ xs) (b ∷ bs) (suc k) h lt =
    let above = above-get x xs k (first_above x xs h) (omega arith) in
    rw (ne_eqb x (get_or xs k 0) (λ e. omega arith)) (mark_at xs bs k (rest_rises x xs h) (omega arith))

mark_within : (ns : List ℕ) (off out : List Bool) (a : ℕ) → length out ≡ length ns
    → ((k : ℕ) → get_or off k false ≡ true → get_or out k false ≡ true) → mark_of ns off a ≡ true
    → mark_of ns out a ≡ true
mark_within [] off out a l h e = absurd (cc)
mark_within (x ∷ xs) [] out a l h e = absurd (cc)
mark_within (x ∷ xs) (b ∷ bs) [] a l h e = absurd (omega arith)
mark_within (x ∷ xs) (b ∷ bs) (c ∷ cs) a l h e =
    grind (arith, nat_tests, h 0, mark_within xs bs cs a (omega arith) (λ k. h (suc k)))

-- who is not out was not taken off
unmarked_within : (rs : List Report) (off out : List Bool) → length out ≡ length rs
    → ((k : ℕ) → get_or off k false ≡ true → get_or out k false ≡ true) → (q : Report)
    → is_unmarked rs out q ≡ true → is_unmarked rs off q ≡ true
unmarked_within rs off out l h q e =
    let within = mark_within (actors_of rs) off out q.actor (l ∙ sym (length-actors rs)) h in
    grind arith

pub unmarked-set : (rs : List Report) (out : List Bool) (k : ℕ) (d : Report) → IsStrictlySortedBy nat_cmp (actors_of rs)
    → length out ≡ length rs → k < length rs → (q : Report)
    → is_unmarked rs (set out k true) q ≡ without (get_or rs k d).actor (is_unmarked rs out) q
unmarked-set rs out k d up l lt q =
    let is = mark_of-set (actors_of rs) out k q.actor (get_or rs k d).actor (l ∙ sym (length-actors rs)) up (let e = length-actors rs in omega arith) (actor_at rs k d lt) in
    grind (arith)

pub filter-alike : (p q : Report → Bool) (rs : List Report) → ((r : Report) → p r ≡ q r)
    → filter p rs ≡ filter q rs
filter-alike p q [] h = refl
filter-alike p q (r ∷ rs) h = grind (arith, h r, filter-alike p q rs h)

-- ---- one falls

fell : (rs : List Report) (off out : List Bool) (k v : ℕ) (d : Report) → IsStrictlySortedBy nat_cmp (actors_of rs)
    → length out ≡ length rs → ((j : ℕ) → get_or off j false ≡ true → get_or out j false ≡ true)
    → LosesNone rs (is_unmarked rs out) → k < length rs
    → told_without rs off (get_or (actors_of rs) k 0) ≤ v → v < count_at rs k
    → LosesNone rs (is_unmarked rs (set out k true))
fell rs off out k v d up l within loses lt le low =
    let r = get_or rs k d in
    let name = actor_at rs k d lt in
    let fewer : told_on_by r.actor (filter (is_unmarked rs out) rs) ≤ told_on_by r.actor (filter (is_unmarked rs off) rs) =
    less_kept (told_on r.actor) (is_unmarked rs out) (is_unmarked rs off) rs (λ q i. unmarked_within rs off out l within q) in
    let told : told_without rs off r.actor ≤ v = subst (λ x. told_without rs off x ≤ v) name le in
    let count = count_is rs k d lt in
    let left = take_out rs (is_unmarked rs out) r up (In_at rs k d lt) (omega arith) loses in
    λ set' closed q i t. unmarked-set rs out k d up l lt q ∙ left set' closed q i t

set_true : (bs : List Bool) (k j : ℕ) → k < length bs → get_or bs j false ≡ true
    → get_or (set bs k true) j false ≡ true
set_true bs k j lt e = ⊎_elim (λ (s : j ≡ k). rw s (get_or-set_same bs k true false lt)) (λ n. get_or-set_other bs k j true false n ∙ e) (cases_eq j k)

places_kept : (n k : ℕ) (out : List Bool) (ws : List ℕ) → k < length out
    → AllByRecursion (λ j. (j < n) × (get_or out j false ≡ true)) ws
    → AllByRecursion (λ j. (j < n) × (get_or (set out k true) j false ≡ true)) ws
places_kept n k out [] lt h = tt
places_kept n k out (w ∷ ws) lt h = ((h.0.0, set_true out k w lt h.0.1), places_kept n k out ws lt h.1)

places_push : (n k : ℕ) (out : List Bool) (ws : List ℕ) → k < n → get_or out k false ≡ true
    → AllByRecursion (λ j. (j < n) × (get_or out j false ≡ true)) ws
    → AllByRecursion (λ j. (j < n) × (get_or out j false ≡ true)) (ws ++ k ∷ [])
places_push n k out [] lt e h = ((lt, e), tt)
places_push n k out (w ∷ ws) lt e h = (h.0, places_push n k out ws lt e h.1)

has-append : (xs : List ℕ) (y a : ℕ) → has (xs ++ y ∷ []) a ≡ (has xs a || (y == a))
has-append [] y a = grind arith
has-append (x ∷ xs) y a = grind (arith, has-append xs y a)

module _ (rs : List Report) (up : IsStrictlySortedBy nat_cmp (actors_of rs)) (limit later : ℕ) (off out : List Bool) (told sums : List ℕ) (work : List ℕ) (k : ℕ)
    (h : AreFalling rs limit off out told work) (lt : k < length rs) (long : length sums ≡ length told) (same : (j : ℕ) → j ≢ k → get_or sums j 0 ≡ get_or told j 0)
    (upto : (j : ℕ) → j < later → j ≢ k → j < limit) where
  stays : (get_or out k false ≡ true) ⊎ (count_at rs k ≤ get_or sums k 0)
      → AreFalling rs later off out sums work
  stays why = record {
    long_sums = long ∙ h.long_sums;
    long_out = h.long_out;
    loses = h.loses;
    covered = λ j in_range lt' on. ⊎_elim
        (λ (s : j ≡ k). subst (λ i. count_at rs i ≤ get_or sums i 0) (sym s) (⊎_elim (λ is. absurd (false≢true (sym (ap (λ i. get_or out i false) (sym s) ∙ on) ∙ is))) (λ le. le) why))
        (λ n. let le = h.covered j (upto j in_range n) lt' on in let eq = same j n in omega arith)
        (cases_eq j k);
    within = h.within;
    pending = h.pending;
    places = h.places;
  }

  falls : told_without rs off (get_or (actors_of rs) k 0) ≤ get_or sums k 0
      → get_or sums k 0 < count_at rs k → (d : Report)
      → AreFalling rs later off (set out k true) sums (work ++ k ∷ [])
  falls le low d = let in_out : k < length out = (let l = h.long_out in omega arith) in record {
    long_sums = long ∙ h.long_sums;
    long_out = length-set out k true ∙ h.long_out;
    loses = fell rs off out k (get_or sums k 0) d up h.long_out h.within h.loses lt le low;
    covered = λ j in_range lt' on. ⊎_elim
        (λ (s : j ≡ k). absurd (false≢true (sym on ∙ (rw s (get_or-set_same out k true false in_out)))))
        (λ n. let le' = h.covered j (upto j in_range n) lt' (sym (get_or-set_other out k j true false n) ∙ on) in let eq = same j n in omega arith)
        (cases_eq j k);
    within = λ j on. set_true out k j in_out (h.within j on);
    pending = λ j on waits. ⊎_elim
        (λ (s : j ≡ k). has-append work k j ∙ rw s (grind (arith, nat_tests)))
        (λ n. has-append work k j ∙ rw (h.pending j (sym (get_or-set_other out k j true false n) ∙ on) waits) refl)
        (cases_eq j k);
    places = places_push (length rs) k (set out k true) work lt (get_or-set_same out k true false in_out) (places_kept (length rs) k out work in_out h.places);
  }

  pub after_check : (out' : List Bool) (work' : List ℕ) (count : ℕ) → count ≡ count_at rs k
      → told_without rs off (get_or (actors_of rs) k 0) ≤ get_or sums k 0
      → ((get_or out k false ≡ true) ⊎ (count ≤ get_or sums k 0) → (out' ≡ out) × (work' ≡ work))
      → (get_or out k false ≡ false → get_or sums k 0 < count → (out' ≡ set out k true) × (work' ≡ work ++ k ∷ []))
      → (d : Report) → AreFalling rs later off out' sums work'
  after_check out' work' count is le one two d = ⊎_elim
      (λ (on : get_or out k false ≡ true). let (a, b) = one (inl on) in rw (a, b) (stays (inl on)))
      (λ (off' : get_or out k false ≡ false). ⊎_elim
      (λ (low : get_or sums k 0 < count). let (a, b) = two off' low in rw (a, b) (falls le (omega arith) d))
      (λ (high : count ≤ get_or sums k 0). let (a, b) = one (inr high) in rw (a, b) (stays (inr (omega arith))))
      (cases_lt (get_or sums k 0) count))
      (cases_Bool (get_or out k false))

pub check_size : (out out' : List Bool) (work work' : List ℕ) (k count sum : ℕ) → k < length out
    → ((get_or out k false ≡ true) ⊎ (count ≤ sum) → (out' ≡ out) × (work' ≡ work))
    → (get_or out k false ≡ false → sum < count → (out' ≡ set out k true) × (work' ≡ work ++ k ∷ []))
    → off_count out' + length work' ≡ off_count out + length work
check_size out out' work work' k count sum lt one two = ⊎_elim
    (λ (on : get_or out k false ≡ true). let (a, b) = one (inl on) in rw (a, b) refl)
    (λ (off : get_or out k false ≡ false). ⊎_elim
    (λ (low : sum < count). let (a, b) = two off low in rw (a, b) (omega (arith, off_count-set out k lt off, length-append work (k ∷ []))))
    (λ (high : count ≤ sum). let (a, b) = one (inr high) in rw (a, b) refl)
    (cases_lt sum count))
    (cases_Bool (get_or out k false))

-- ---- an entry of one that fell is taken off

by_names : (rs : List Report) (e : ℕ × ℕ) (t k v : ℕ) (off out out' : List Bool) (told work work' : List ℕ) (count : ℕ)
    → IsStrictlySortedBy nat_cmp (actors_of rs) → length told ≡ length (actors_of rs) → (e.0 == t) ≡ false
    → slice_get (actors_of rs) k ≡ Some e.0 → v + e.1 ≡ get_or told k 0 → count ≡ count_at rs k
    → ((get_or out k false ≡ true) ⊎ (count ≤ get_or (set told k v) k 0) → (out' ≡ out) × (work' ≡ work))
    → (get_or out k false ≡ false → get_or (set told k v) k 0 < count → (out' ≡ set out k true) × (work' ≡ work ++ k ∷ []))
    → (d : Report) → AreFalling rs (length (actors_of rs)) off out told work
    → ((j : ℕ) → j < length (actors_of rs) → told_without rs off (get_or (actors_of rs) j 0) + told_in e t (get_or (actors_of rs) j 0) ≤ get_or told j 0)
    → AreFalling rs (length (actors_of rs)) off out' (set told k v) work'
by_names rs e t k v off out out' told work work' count up long other at left is one two d h floor =
    let p = place_is (actors_of rs) k e.0 at in
    let here = told_here (actors_of rs) e t k other at in
    let now : get_or (set told k v) k 0 ≡ v = get_or-set_same told k v 0 (omega arith) in
    let le = floor k p.0 in
    after_check rs up (length (actors_of rs)) (length (actors_of rs)) off out told (set told k v) work k h (let l = length-actors rs in omega arith) (length-set told k v) (λ j n. get_or-set_other told k j v 0 n) (λ j in_range n. in_range)
    out' work' count is (omega arith) one two d

pub take_falls : (rs : List Report) (ns : List ℕ) → ns ≡ actors_of rs
    → (e : ℕ × ℕ) (t k v : ℕ) (off out out' : List Bool) (told work work' : List ℕ) (count : ℕ)
    → IsStrictlySortedBy nat_cmp ns → length told ≡ length ns → (e.0 == t) ≡ false → slice_get ns k ≡ Some e.0
    → v + e.1 ≡ get_or told k 0 → count ≡ count_at rs k
    → ((get_or out k false ≡ true) ⊎ (count ≤ get_or (set told k v) k 0) → (out' ≡ out) × (work' ≡ work))
    → (get_or out k false ≡ false → get_or (set told k v) k 0 < count → (out' ≡ set out k true) × (work' ≡ work ++ k ∷ []))
    → (d : Report) → AreFalling rs (length ns) off out told work
    → ((j : ℕ) → j < length ns → told_without rs off (get_or ns j 0) + told_in e t (get_or ns j 0) ≤ get_or told j 0)
    → AreFalling rs (length ns) off out' (set told k v) work'
take_falls rs ns same e t k v off out out' told work work' count =
    rw same (by_names rs e t k v off out out' told work work' count)

-- ---- one that fell is taken off

last_other : (ws : List ℕ) (i k : ℕ) → has (ws ++ i ∷ []) k ≡ true → k ≢ i → has ws k ≡ true
last_other ws i k h n = let e = has-append ws i k in grind (arith, nat_tests)

places_front : (n : ℕ) (out : List Bool) (ws : List ℕ) (i : ℕ)
    → AllByRecursion (λ j. (j < n) × (get_or out j false ≡ true)) (ws ++ i ∷ [])
    → AllByRecursion (λ j. (j < n) × (get_or out j false ≡ true)) ws × (get_or out i false ≡ true)
places_front n out [] i h = (tt, h.0.1)
places_front n out (w ∷ ws) i h = let (a, b) = places_front n out ws i h.1 in ((h.0, a), b)

pub popped_again : (rs : List Report) (limit : ℕ) (off out : List Bool) (told ws : List ℕ) (i : ℕ)
    → AreFalling rs limit off out told (ws ++ i ∷ []) → get_or off i false ≡ true
    → AreFalling rs limit off out told ws
popped_again rs limit off out told ws i h on = record {
  long_sums = h.long_sums;
  long_out = h.long_out;
  loses = h.loses;
  covered = h.covered;
  within = h.within;
  pending = λ k is waits. last_other ws i k (h.pending k is waits) (λ e. false≢true (sym waits ∙ (ap (λ j. get_or off j false) e ∙ on)));
  places = (places_front (length rs) out ws i h.places).0;
}

pub popped_off : (rs : List Report) (limit : ℕ) (off out : List Bool) (told ws : List ℕ) (i : ℕ)
    → AreFalling rs limit off out told (ws ++ i ∷ []) → i < length off
    → AreFalling rs limit (set off i true) out told ws
popped_off rs limit off out told ws i h lt = record {
  long_sums = h.long_sums;
  long_out = h.long_out;
  loses = h.loses;
  covered = h.covered;
  within = λ k on. ⊎_elim (λ (e : k ≡ i). ap (λ j. get_or out j false) e ∙ (places_front (length rs) out ws i h.places).1) (λ n. h.within k (sym (get_or-set_other off i k true false n) ∙ on)) (cases_eq k i);
  pending = λ k is waits. ⊎_elim
      (λ (e : k ≡ i). absurd (false≢true (sym waits ∙ (rw e (get_or-set_same off i true false lt)))))
      (λ n. last_other ws i k (h.pending k is (sym (get_or-set_other off i k true false n) ∙ waits)) n)
      (cases_eq k i);
  places = (places_front (length rs) out ws i h.places).0;
}

by_one : (rs : List Report) (off : List Bool) (i x : ℕ) (d : Report) → IsStrictlySortedBy nat_cmp (actors_of rs)
    → length off ≡ length rs → i < length rs → get_or off i false ≡ false
    → told_without rs (set off i true) x + told_on x (get_or rs i d) ≡ told_without rs off x
by_one rs off i x d up l lt on =
    let r = get_or rs i d in
    let stands : is_unmarked rs off r ≡ true = ap (λ y. not (mark_of (actors_of rs) off y)) (sym (actor_at rs i d lt)) ∙ ap not (mark_at (actors_of rs) off i up (let e = length-actors rs in omega arith) ∙ on) in
    let same : told_without rs (set off i true) x ≡ told_on_by x (filter (without r.actor (is_unmarked rs off)) rs) = ap (told_on_by x) (filter-alike (is_unmarked rs (set off i true)) (without r.actor (is_unmarked rs off)) rs (unmarked-set rs off i d up l lt)) in
    ap (λ n. n + told_on x r) same ∙ lowered (told_on x) rs (is_unmarked rs off) r up (In_at rs i d lt) stands

-- without one more, what it told is missing
pub without_one : (rs : List Report) (ns : List ℕ) → ns ≡ actors_of rs
    → (off : List Bool) (i x : ℕ) (r : Report) → IsStrictlySortedBy nat_cmp ns → length off ≡ length ns → i < length ns
    → get_or off i false ≡ false → get_or rs i r ≡ r
    → told_without rs (set off i true) x + told_on x r ≡ told_without rs off x
without_one rs ns e off i x r up l lt on is =
    let long = length-actors rs in
    let same = ap length e in
    subst (λ q. told_without rs (set off i true) x + told_on x q ≡ told_without rs off x) is (by_one rs off i x r (subst (IsStrictlySortedBy nat_cmp) e up) (omega arith) (omega arith) on)

pub held_left-set : (rs : List Report) (off : List Bool) (i : ℕ) (r : Report) → i < length rs
    → length off ≡ length rs → get_or off i false ≡ false → get_or rs i r ≡ r
    → held_left rs (set off i true) + length r.held ≡ held_left rs off
held_left-set [] off i r lt l on is = absurd (omega arith)
held_left-set (q ∷ rs) [] i r lt l on is = absurd (omega arith)
held_left-set (q ∷ rs) (b ∷ bs) zero r lt l on is = rw is (grind arith)
held_left-set (q ∷ rs) (b ∷ bs) (suc i) r lt l on is = let more = held_left-set rs bs i r (omega arith) (omega arith) on is in omega arith

pub held_left-none : (rs : List Report) (n : ℕ) → held_left rs (replicate n false) ≡ held_count rs
held_left-none [] n = refl
held_left-none (r ∷ rs) zero = refl
held_left-none (r ∷ rs) (suc n) = omega (arith, held_left-none rs n, sum_by-cons (λ (q : Report). length q.held) r rs)

-- ---- at first none has fallen

none_marked : (ns : List ℕ) (n a : ℕ) → mark_of ns (replicate n false) a ≡ false
none_marked [] n a = refl
none_marked (x ∷ xs) zero a = refl
none_marked (x ∷ xs) (suc n) a = grind (arith, none_marked xs n a)

filter_all : (p : Report → Bool) (rs : List Report) → ((r : Report) → p r ≡ true) → filter p rs ≡ rs
filter_all p [] h = refl
filter_all p (r ∷ rs) h = grind (arith, h r, filter_all p rs h)

pub none_without : (rs : List Report) (n x : ℕ) → told_without rs (replicate n false) x ≡ told_on_by x rs
none_without rs n x = ap (told_on_by x) (filter_all (is_unmarked rs (replicate n false)) rs (λ r. ap not (none_marked (actors_of rs) n r.actor)))

pub none_falling : (rs : List Report) (n : ℕ) (out : List Bool) (told work : List ℕ)
    → length told ≡ length rs → n ≡ length rs → out ≡ replicate n false → work ≡ []
    → AreFalling rs 0 (replicate n false) out told work
none_falling rs n out told work l e o w = rw (o, w) record {
  long_sums = l;
  long_out = length-replicate n false ∙ e;
  loses = λ set' closed q i t. ap not (none_marked (actors_of rs) n q.actor);
  covered = λ k lt. absurd (omega arith);
  within = λ k on. on;
  pending = λ k on off. absurd (false≢true (sym off ∙ on));
  places = tt;
}

pub none_size : (n : ℕ) (out : List Bool) (work : List ℕ) → out ≡ replicate n false → work ≡ []
    → off_count out + length work ≡ n
none_size n out work o w = rw (o, w) (omega (arith, off_count-none n))

-- one look at a report that was not looked at
pub looked : (rs : List Report) (ns : List ℕ) → ns ≡ actors_of rs
    → (k : ℕ) (off out out' : List Bool) (told sums work work' : List ℕ) (count : ℕ) → IsStrictlySortedBy nat_cmp ns
    → k < length ns → sums ≡ told → (off ≡ replicate (length ns) false) → count ≡ count_at rs k
    → ((j : ℕ) → j < length ns → get_or told j 0 ≡ told_on_by (get_or ns j 0) rs)
    → ((get_or out k false ≡ true) ⊎ (count ≤ get_or told k 0) → (out' ≡ out) × (work' ≡ work))
    → (get_or out k false ≡ false → get_or told k 0 < count → (out' ≡ set out k true) × (work' ≡ work ++ k ∷ []))
    → (d : Report) → AreFalling rs k off out told work → AreFalling rs (k + 1) off out' sums work'
looked rs ns e k off out out' told sums work work' count up lt same none is all one two d h =
    let long = length-actors rs in
    let names = ap length e in
    subst (λ ss. AreFalling rs (k + 1) off out' ss work') (sym same)
    (after_check rs (subst (IsStrictlySortedBy nat_cmp) e up) k (k + 1) off out told told work k h (omega arith) refl (λ j n. refl) (λ j in_range n. omega arith) out' work' count is
    (subst (λ xs. told_without rs off (get_or xs k 0) ≤ get_or told k 0) e (let t = all k lt in let w = ap (λ o. told_without rs o (get_or ns k 0)) none ∙ none_without rs (length ns) (get_or ns k 0) in omega arith))
    one two d)
