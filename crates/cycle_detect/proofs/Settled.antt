-- Once nothing waits, those that stand are the largest closed set; and the steps of the whole.
use Rattle.std.proofs.Common.{◌≡◌, ℕ, suc, ◌+◌, ◌*◌, ◌≤◌, ◌<◌, not, Bool, true, false, cond, inl, inr, ⊎_elim, List, [], ◌∷◌, ◌++◌, length, append-nil, get_or, take, filter, map, replicate, arith, refl, ap, sym, subst, ◌∙◌, Result, Ok, Err, IfOk}
use Rattle.std.specs.List.{AllByRecursion}
use Rattle.std.proofs.lemmas.Bool.{cases_Bool, cond_both, false≢true}
use Rattle.std.proofs.lemmas.Bool.Decides.{nat_tests}
use Rattle.std.proofs.lemmas.List.Elements.{filter_more}
use Rattle.std.proofs.lemmas.List.Sums.{sum_by-cons}
use Rattle.letter_kinds.specs.Closed.{IsClosed, largest_closed}
use Rattle.letter_kinds.specs.Detector.{has}
use Rattle.letter_kinds.specs.Reports.{told_on_by}
use Rattle.letter_kinds.specs.declared.note.Report.{Report}
use Rattle.letter_kinds.proofs.Rounds.{largest_by_rounds, rounds_among, same_largest}
use Rattle.cycle_detect.specs.Falling.{AreFalling, count_at, held_count, is_unmarked, told_without}
use Rattle.cycle_detect.specs.Kept.{actors_of}
use Rattle.detector_tokens.specs.Marks.{mark_of}
use Rattle.std.specs.List.Sorted.{IsStrictlySortedBy}
use Rattle.std.specs.Ordering.{nat_cmp}
use Rattle.cycle_detect.proofs.Sums.{at_default, length-names}
use Rattle.cycle_detect.proofs.Work.{In, place_In, work_done}
use Rattle.cycle_detect.proofs.Falls.{actor_at, count_is, length-actors, mark_at, filter-alike, none_without}
use Rattle.detector_tokens.proofs.RisingLemmas.{AllAbove, first_above, none_rise, rest_rises, rising-cons}

-- ---- at last

each_filter : (P : Report → Type 0) (p : Report → Bool) (rs : List Report)
    → ((r : Report) → In r rs → p r ≡ true → P r) → AllByRecursion P (filter p rs)
each_filter P p [] h = tt
each_filter P p (r ∷ rs) h = cond_both (p r) (r ∷ filter p rs) (filter p rs) (AllByRecursion P)
    (λ e. (h r (inl refl) e, each_filter P p rs (λ q i. h q (inr i)))) (λ _. each_filter P p rs (λ q i. h q (inr i)))

marks_agree : (ns : List ℕ) (off out : List Bool) (a : ℕ) → length off ≡ length ns
    → length out ≡ length ns → ((k : ℕ) → get_or off k false ≡ get_or out k false)
    → mark_of ns off a ≡ mark_of ns out a
marks_agree [] off out a l l' h = refl
marks_agree (x ∷ xs) [] out a l l' h = absurd (omega arith)
marks_agree (x ∷ xs) (b ∷ bs) [] a l l' h = absurd (omega arith)
marks_agree (x ∷ xs) (b ∷ bs) (c ∷ cs) a l l' h = grind (arith, h 0, marks_agree xs bs cs a (omega arith) (omega arith) (λ k. h (suc k)))

agree_at : (b c : Bool) → (b ≡ true → c ≡ true) → (c ≡ true → b ≡ false → ⊥) → b ≡ c
agree_at b c f g = ⊎_elim (λ (on : b ≡ true). on ∙ sym (f on)) (λ (off : b ≡ false). ⊎_elim (λ (on : c ≡ true). absurd (g on off)) (λ (off' : c ≡ false). off ∙ sym off') (cases_Bool c)) (cases_Bool b)

at_last : (rs : List Report) (off out : List Bool) (told : List ℕ) → IsStrictlySortedBy nat_cmp (actors_of rs)
    → length off ≡ length rs → AreFalling rs (length rs) off out told []
    → ((k : ℕ) → k < length rs → get_or told k 0 ≡ told_without rs off (get_or (actors_of rs) k 0))
    → filter (is_unmarked rs out) rs ≡ largest_closed rs
at_last rs off out told up l h exact =
    let long = length-actors rs in
    let same : (k : ℕ) → get_or off k false ≡ get_or out k false = λ k. agree_at (get_or off k false) (get_or out k false) (h.within k) (λ on off'. false≢true (h.pending k on off')) in
    let alike : filter (is_unmarked rs off) rs ≡ filter (is_unmarked rs out) rs = filter-alike (is_unmarked rs off) (is_unmarked rs out) rs (λ r. ap not (marks_agree (actors_of rs) off out r.actor (l ∙ sym long) (h.long_out ∙ sym long) same)) in
    let closed : IsClosed (filter (is_unmarked rs out) rs) = each_filter (λ r. r.count ≤ told_on_by r.actor (filter (is_unmarked rs out) rs)) (is_unmarked rs out) rs (λ r i e.
    let (k, lt, is) = place_In rs r i in
    let name : get_or (actors_of rs) k 0 ≡ r.actor = actor_at rs k r lt ∙ ap (λ (q : Report). q.actor) is in
    let count : count_at rs k ≡ r.count = count_is rs k r lt ∙ ap (λ (q : Report). q.count) is in
    let stands : get_or out k false ≡ false = not_not (get_or out k false) (ap not (sym (mark_at (actors_of rs) out k up (omega arith))) ∙ (ap (λ y. not (mark_of (actors_of rs) out y)) name ∙ e)) in
    let le = h.covered k lt lt stands in
    let told_is : get_or told k 0 ≡ told_on_by r.actor (filter (is_unmarked rs out) rs) = exact k lt ∙ (ap (told_without rs off) name ∙ ap (told_on_by r.actor) alike) in
    omega arith) in
    same_largest rs (filter (is_unmarked rs out) rs) (largest_closed rs) (work_done rs (is_unmarked rs out) h.loses closed) (largest_by_rounds rs)
  where
    not_not : (b : Bool) → not b ≡ true → b ≡ false
    not_not b e = grind arith

-- once nothing waits, those that stand are the largest closed set
pub settled : (rs : List Report) (ns : List ℕ) → ns ≡ actors_of rs
    → (off out : List Bool) (told work : List ℕ) → IsStrictlySortedBy nat_cmp ns → length off ≡ length ns → work ≡ []
    → AreFalling rs (length ns) off out told work
    → ((k : ℕ) → k < length ns → get_or told k 0 ≡ told_without rs off (get_or ns k 0))
    → filter (is_unmarked rs out) rs ≡ largest_closed rs
settled rs ns e off out told work up l w h exact =
    let long : length ns ≡ length rs = ap length e ∙ length-actors rs in
    at_last rs off out told (subst (IsStrictlySortedBy nat_cmp) e up) (l ∙ long)
    (subst (λ n. AreFalling rs n off out told []) long (subst (AreFalling rs (length ns) off out told) w h))
    (λ k lt. exact k (omega arith) ∙ ap (λ xs. told_without rs off (get_or xs k 0)) e)

-- the actors of those that stand
pub actors-filter : (p : ℕ → Bool) (rs : List Report)
    → actors_of (filter (λ r. p r.actor) rs) ≡ filter p (actors_of rs)
actors-filter p [] = refl
actors-filter p (r ∷ rs) = grind (arith, actors-filter p rs)

unmarked_here : (ns : List ℕ) (bs : List Bool) (k : ℕ) → IsStrictlySortedBy nat_cmp ns → k < length ns
    → not (mark_of ns bs (get_or ns k 0)) ≡ not (get_or bs k false)
unmarked_here ns bs k up lt = ap not (mark_at ns bs k up lt)

pub unmarked_more : (ns : List ℕ) (bs : List Bool) (k a : ℕ) (found later : List ℕ) → IsStrictlySortedBy nat_cmp ns
    → k < length ns → get_or bs k false ≡ false → a ≡ get_or ns k a
    → found ≡ filter (λ x. not (mark_of ns bs x)) (take k ns) → later ≡ found ++ a ∷ []
    → later ≡ filter (λ x. not (mark_of ns bs x)) (take (k + 1) ns)
unmarked_more ns bs k a found later up lt off is was now =
    let name = at_default ns k a lt is in
    let here : not (mark_of ns bs (get_or ns k 0)) ≡ true = unmarked_here ns bs k up lt ∙ ap not off in
    now ∙ (ap (λ xs. xs ++ a ∷ []) was ∙ (ap (λ y. filter (λ x. not (mark_of ns bs x)) (take k ns) ++ y ∷ []) name
    ∙ sym (filter_more (λ x. not (mark_of ns bs x)) ns k 0 lt ∙ ap (λ b. filter (λ x. not (mark_of ns bs x)) (take k ns) ++ (cond b (get_or ns k 0 ∷ []) [])) here)))

pub unmarked_same : (ns : List ℕ) (bs : List Bool) (k : ℕ) (found later : List ℕ) → IsStrictlySortedBy nat_cmp ns
    → k < length ns → get_or bs k false ≡ true
    → found ≡ filter (λ x. not (mark_of ns bs x)) (take k ns) → later ≡ found
    → later ≡ filter (λ x. not (mark_of ns bs x)) (take (k + 1) ns)
unmarked_same ns bs k found later up lt on was now =
    let here : not (mark_of ns bs (get_or ns k 0)) ≡ false = unmarked_here ns bs k up lt ∙ ap not on in
    now ∙ (was ∙ sym (filter_more (λ x. not (mark_of ns bs x)) ns k 0 lt ∙ (ap (λ b. filter (λ x. not (mark_of ns bs x)) (take k ns) ++ (cond b (get_or ns k 0 ∷ []) [])) here ∙ append-nil (filter (λ x. not (mark_of ns bs x)) (take k ns)))))

-- ---- the whole

pub if_ok_one : {A E : Type 0} (r : Result A E) (P Q : A → Type 0) → ((x : A) → P x → Q x)
    → IfOk r P → IfOk r Q
if_ok_one (Ok x) P Q f h = f x h
if_ok_one (Err e) P Q f h = tt

-- nothing was taken off yet
pub told_at_first : (rs : List Report) (ns : List ℕ) (off : List Bool) (told sums : List ℕ)
    → off ≡ replicate (length ns) false → told ≡ sums
    → ((k : ℕ) → k < length ns → get_or sums k 0 ≡ told_on_by (get_or ns k 0) rs) → (k : ℕ)
    → k < length ns → get_or told k 0 ≡ told_without rs off (get_or ns k 0)
told_at_first rs ns off told sums o e h k lt =
    ap (λ ss. get_or ss k 0) e ∙ (h k lt ∙ sym (ap (λ bs. told_without rs bs (get_or ns k 0)) o ∙ none_without rs (length ns) (get_or ns k 0)))

pub standing_actors : (rs : List Report) (ns : List ℕ) (out : List Bool) (found : List ℕ)
    → ns ≡ actors_of rs → filter (is_unmarked rs out) rs ≡ largest_closed rs
    → found ≡ filter (λ a. not (mark_of ns out a)) ns → found ≡ actors_of (largest_closed rs)
standing_actors rs ns out found e closed f =
    f ∙ (ap (λ xs. filter (λ a. not (mark_of xs out a)) xs) e ∙ (sym (actors-filter (λ a. not (mark_of (actors_of rs) out a)) rs) ∙ ap actors_of closed))

above_some : (n : ℕ) (p : Report → Bool) (rs : List Report) → AllAbove n (actors_of rs)
    → AllAbove n (actors_of (filter p rs))
above_some n p [] h = tt
above_some n p (r ∷ rs) h = cond_both (p r) (r ∷ filter p rs) (filter p rs) (λ qs. AllAbove n (actors_of qs)) (λ _. (h.0, above_some n p rs h.1)) (λ _. above_some n p rs h.1)

pub rising_some : (p : Report → Bool) (rs : List Report) → IsStrictlySortedBy nat_cmp (actors_of rs)
    → IsStrictlySortedBy nat_cmp (actors_of (filter p rs))
rising_some p [] h = none_rise
rising_some p (r ∷ rs) h = cond_both (p r) (r ∷ filter p rs) (filter p rs) (λ qs. IsStrictlySortedBy nat_cmp (actors_of qs)) (λ _. rising-cons r.actor (actors_of (filter p rs)) (above_some r.actor p rs (first_above r.actor (actors_of rs) h)) (rising_some p rs (rest_rises r.actor (actors_of rs) h))) (λ _. rising_some p rs (rest_rises r.actor (actors_of rs) h))

has_some : (p : Report → Bool) (rs : List Report) (m : ℕ) → has (actors_of (filter p rs)) m ≡ true
    → has (actors_of rs) m ≡ true
has_some p [] m h = h
has_some p (r ∷ rs) m h = grind (arith, has_some p rs m)

free_only : (free : ℕ → Bool) (rs : List Report) (m : ℕ)
    → has (actors_of (filter (λ r. free r.actor) rs)) m ≡ true → free m ≡ true
free_only free [] m h = absurd (cc)
free_only free (r ∷ rs) m h = grind (arith, nat_tests, free_only free rs m)

-- the largest closed set among reports of free actors rises, and its members are free
pub largest_rises : (rs : List Report) → IsStrictlySortedBy nat_cmp (actors_of rs) → IsStrictlySortedBy nat_cmp (actors_of (largest_closed rs))
largest_rises rs up = let (p, e) = rounds_among (length rs) rs in subst (λ qs. IsStrictlySortedBy nat_cmp (actors_of qs)) (sym e) (rising_some p rs up)

pub largest_free : (free : ℕ → Bool) (ks : List Report) (m : ℕ)
    → has (actors_of (largest_closed (filter (λ r. free r.actor) ks))) m ≡ true → free m ≡ true
largest_free free ks m h =
    let rs = filter (λ (r : Report). free r.actor) ks in
    let (p, e) = rounds_among (length rs) rs in
    free_only free ks m (has_some p rs m (ap (λ qs. has (actors_of qs) m) (sym e) ∙ h))

pub length-some : (p : Report → Bool) (rs : List Report) → length (filter p rs) ≤ length rs
length-some p [] = omega arith
length-some p (r ∷ rs) = grind (arith, length-some p rs)

pub held-some : (p : Report → Bool) (rs : List Report) → held_count (filter p rs) ≤ held_count rs
held-some p [] = omega arith
held-some p (r ∷ rs) = grind (arith, sum_by-cons (λ (q : Report). length q.held) r rs, sum_by-cons (λ (q : Report). length q.held) r (filter p rs), held-some p rs)

pub few : {X : Type 0} (g : X → Report) (xs : List X) (p : Report → Bool) (ks : List Report)
    → map g xs ≡ filter p ks → (length xs ≤ length ks) × (held_count (map g xs) ≤ held_count ks)
few g xs p ks e =
    let a = length-names g xs (actors_of (map g xs)) refl in
    let b = length-actors (map g xs) in
    let c = ap length e in
    let d = length-some p ks in
    (omega arith, subst (λ rs. held_count rs ≤ held_count ks) (sym e) (held-some p ks))

pub not_true : (b : Bool) → not b ≡ true → b ≡ false
not_true b e = grind arith

-- the steps of all walks together
pub steps_settled : (n m h l u s0 s1 s2 s3 : ℕ) → s1 ≤ s0 + m + 2 * h → s2 ≤ s1 + n → u ≡ n
    → s3 ≤ s2 + u + 2 * l → l ≡ h → n ≡ m → s3 ≤ s0 + 4 * n + 4 * h
steps_settled n m h l u s0 s1 s2 s3 told first size settle left long = omega arith

pub steps_all : (n m h l u s0 s1 s2 s3 s4 : ℕ) → s1 ≤ s0 + m + 2 * h → s2 ≤ s1 + n → u ≡ n
    → s3 ≤ s2 + u + 2 * l → l ≡ h → n ≡ m → s4 ≤ s3 + n → s4 ≤ s0 + 4 * n + 4 * h
steps_all n m h l u s0 s1 s2 s3 s4 told first size settle left long last = omega arith
