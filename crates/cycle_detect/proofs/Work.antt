-- A worklist: one report after another is taken out.
use Rattle.std.proofs.Common.{◌≡◌, ℕ, zero, suc, ◌+◌, ◌≤◌, ◌<◌, ◌==◌, not, Bool, true, false, cond, ◌&&◌, ◌⊎◌, inl, inr, ⊎_elim, length, get_or, List, [], ◌∷◌, filter, sum_by, arith, refl, ap, sym, subst, ◌∙◌, eq-eqb, eqb-true}
use Rattle.std.specs.List.{AllByRecursion, Contains}
use Rattle.std.proofs.lemmas.Bool.{cases_Bool, cond_both, ne_eqb}
use Rattle.std.proofs.lemmas.List.Sums.{sum_by-cons}
use Rattle.letter_kinds.specs.Closed.{IsClosed, IsLargest}
use Rattle.letter_kinds.specs.Reports.{told_on, told_on_by}
use Rattle.letter_kinds.specs.declared.note.Report.{Report}
use Rattle.cycle_detect.specs.Falling.{LosesNone}
use Rattle.cycle_detect.specs.Kept.{actors_of}
use Rattle.std.specs.List.Sorted.{IsStrictlySortedBy}
use Rattle.std.specs.Ordering.{nat_cmp}
use Rattle.detector_tokens.proofs.RisingLemmas.{AllAbove, first_above, rest_rises}

-- the report is among these, by cases
abbrev pub In : Report → List Report → Type 0
In q [] = ⊥
In q (r ∷ rs) = (q ≡ r) ⊎ In q rs

pub place_In : (rs : List Report) (q : Report) → In q rs → Contains rs q
place_In [] q i = absurd i
place_In (r ∷ rs) q i = ⊎_elim (λ e. (0, omega arith, sym e)) (λ j. let (k, lt, is) = place_In rs q j in (suc k, omega arith, is)) i

In_place : (rs : List Report) (q : Report) (k : ℕ) → k < length rs → get_or rs k q ≡ q → In q rs
In_place [] q k lt e = absurd (omega arith)
In_place (r ∷ rs) q zero lt e = inl (sym e)
In_place (r ∷ rs) q (suc k) lt e = inr (In_place rs q k (omega arith) e)

pub In_from : (rs : List Report) (q : Report) → Contains rs q → In q rs
In_from rs q c = let (k, lt, is) = c in In_place rs q k lt is

-- those that are left once the actor's report is taken out
abbrev pub without : ℕ → (Report → Bool) → Report → Bool
without a alive q = alive q && not (q.actor == a)

above_In : (a : ℕ) (rs : List Report) (r : Report) → AllAbove a (actors_of rs) → In r rs → a < r.actor
above_In a [] r h i = absurd i
above_In a (q ∷ rs) r h i = ⊎_elim (λ e. subst (λ (x : Report). a < x.actor) (sym e) h.0) (λ j. above_In a rs r h.1 j) i

one_name : (rs : List Report) (r s : Report) → IsStrictlySortedBy nat_cmp (actors_of rs) → In r rs → In s rs
    → r.actor ≡ s.actor → r ≡ s
one_name [] r s h i j e = absurd i
one_name (q ∷ rs) r s h i j e = ⊎_elim
    (λ a. ⊎_elim (λ b. a ∙ sym b) (λ b. absurd (let lt = above_In q.actor rs s (first_above q.actor (actors_of rs) h) b in let is : r.actor ≡ q.actor = ap (λ (x : Report). x.actor) a in omega (arith, lt))) j)
    (λ a. ⊎_elim (λ b. absurd (let lt = above_In q.actor rs r (first_above q.actor (actors_of rs) h) a in let is : s.actor ≡ q.actor = ap (λ (x : Report). x.actor) b in omega (arith, lt))) (λ b. one_name rs r s (rest_rises q.actor (actors_of rs) h) a b e) j)
    i

In-filter_from : (p : Report → Bool) (rs : List Report) (q : Report) → In q rs → p q ≡ true
    → In q (filter p rs)
In-filter_from p [] q i t = absurd i
In-filter_from p (r ∷ rs) q i t = ⊎_elim
    (λ (e : q ≡ r). let t' : p r ≡ true = ap p (sym e) ∙ t in subst (λ b. In q (cond b (r ∷ filter p rs) (filter p rs))) (sym t') (inl e))
    (λ j. cond_both (p r) (r ∷ filter p rs) (filter p rs) (In q) (λ _. inr (In-filter_from p rs q j t)) (λ _. In-filter_from p rs q j t)) i

each_In : (P : Report → Type 0) (rs : List Report) → AllByRecursion P rs → (q : Report) → In q rs → P q
each_In P [] h q i = absurd i
each_In P (r ∷ rs) h q i = ⊎_elim (λ e. subst P (sym e) h.0) (λ j. each_In P rs h.1 q j) i

pub less_kept : (f : Report → ℕ) (p q : Report → Bool) (rs : List Report)
    → ((r : Report) → In r rs → p r ≡ true → q r ≡ true)
    → sum_by f (filter p rs) ≤ sum_by f (filter q rs)
less_kept f p q [] h = omega arith
less_kept f p q (r ∷ rs) h =
    grind (arith, h r (inl refl), sum_by-cons f r (filter p rs), sum_by-cons f r (filter q rs), less_kept f p q rs (λ x i. h x (inr i)))

-- whom the rest does not cover is in no closed set
pub take_out : (rs : List Report) (alive : Report → Bool) (r : Report) → IsStrictlySortedBy nat_cmp (actors_of rs)
    → In r rs → told_on_by r.actor (filter alive rs) < r.count → LosesNone rs alive
    → LosesNone rs (without r.actor alive)
take_out rs alive r rising i low h = λ set closed q j t.
    let lives : alive q ≡ true = h set closed q j t in
    ⊎_elim
    (λ (y : (q.actor == r.actor) ≡ true).
    let same : q ≡ r = one_name rs q r rising (In_from rs q j) i (eqb-true q.actor r.actor y) in
    let member : set r ≡ true = ap set (sym same) ∙ t in
    let covered : r.count ≤ told_on_by r.actor (filter set rs) = each_In (λ x. x.count ≤ told_on_by x.actor (filter set rs)) (filter set rs) closed r (In-filter_from set rs r i member) in
    let fewer : told_on_by r.actor (filter set rs) ≤ told_on_by r.actor (filter alive rs) = less_kept (told_on r.actor) set alive rs (λ x m. h set closed x (place_In rs x m)) in
    absurd (omega arith))
    (λ (n : (q.actor == r.actor) ≡ false). grind arith)
    (cases_Bool (q.actor == r.actor))

above_rest : (a : ℕ) (alive : Report → Bool) (rs : List Report) → AllAbove a (actors_of rs)
    → filter (without a alive) rs ≡ filter alive rs
above_rest a alive [] h = refl
above_rest a alive (r ∷ rs) h =
    let ne : (r.actor == a) ≡ false = ne_eqb r.actor a (λ e. let lt = h.0 in omega arith) in
    grind (arith, above_rest a alive rs h.1)

-- what is taken out lowers each sum by what it told
pub lowered : (f : Report → ℕ) (rs : List Report) (alive : Report → Bool) (r : Report)
    → IsStrictlySortedBy nat_cmp (actors_of rs) → In r rs → alive r ≡ true
    → sum_by f (filter (without r.actor alive) rs) + f r ≡ sum_by f (filter alive rs)
lowered f [] alive r h i t = absurd i
lowered f (q ∷ rs) alive r h i t = ⊎_elim
    (λ (e : r ≡ q). subst (λ x. sum_by f (filter (without x.actor alive) (q ∷ rs)) + f x ≡ sum_by f (filter alive (q ∷ rs))) (sym e)
    (let t' : alive q ≡ true = ap alive (sym e) ∙ t in
    let here : (q.actor == q.actor) ≡ true = eq-eqb q.actor q.actor refl in
    let rest : filter (without q.actor alive) rs ≡ filter alive rs = above_rest q.actor alive rs (first_above q.actor (actors_of rs) h) in
    grind (arith, sum_by-cons f q (filter alive rs))))
    (λ j. let ne : (q.actor == r.actor) ≡ false = ne_eqb q.actor r.actor (λ e'. let lt = above_In q.actor rs r (first_above q.actor (actors_of rs) h) j in omega arith) in
    grind (arith, lowered f rs alive r (rest_rises q.actor (actors_of rs) h) j t, sum_by-cons f q (filter alive rs), sum_by-cons f q (filter (without r.actor alive) rs)))
    i

same_rest : (set alive : Report → Bool) (rs : List Report)
    → ((q : Report) → In q rs → set q ≡ true → alive q ≡ true)
    → filter set (filter alive rs) ≡ filter set rs
same_rest set alive [] h = refl
same_rest set alive (r ∷ rs) h = grind (arith, h r (inl refl), same_rest set alive rs (λ q i. h q (inr i)))

-- once the rest covers all that are left, they are the largest closed set
pub work_done : (rs : List Report) (alive : Report → Bool) → LosesNone rs alive
    → IsClosed (filter alive rs) → IsLargest rs (filter alive rs)
work_done rs alive h closed = record {
  among = (alive, refl);
  closed = closed;
  all = λ set c. same_rest set alive rs (λ x m. h set c x (place_In rs x m));
}
