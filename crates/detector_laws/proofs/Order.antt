-- Reports in rising order, and reports that are found in it.
use Rattle.std.proofs.Common.{◌≡◌, ℕ, ◌≤◌, ◌<◌, ◌==◌, nat_lt, Bool, if◌then◌else◌, ⊎_elim, List, [], ◌∷◌, filter, Some, arith, sym, subst, ◌∙◌, eqb-true, Contains}
use Rattle.std.proofs.lemmas.Bool.{cond_both, eqb-false, ltb-true, ltb-false}
use Rattle.std.proofs.lemmas.Bool.Decides.{nat_tests}
use Rattle.std.proofs.lemmas.List.Kept.{IsStrictlySortedBy-filter}
use Rattle.std.specs.Cmp.{nat_cmp_is, ranked}
use Rattle.std.specs.List.{AllByRecursion}
use Rattle.std.specs.List.Sorted.{IsStrictlySortedBy}
use Rattle.std.specs.Ordering.{nat_cmp, on}
use Rattle.std.specs.declared.cmp.Ordering.TheVariants.{Less}
use Rattle.letter_kinds.specs.Reports.{kept_report, keep_report}
use Rattle.letter_kinds.specs.declared.note.Report.{Report}
use Rattle.detector_laws.proofs.Members.{each_contained, first_or_later, none_in_empty}
use Rattle.detector_laws.specs.Reports.{IsRising}

-- these are reports of actors with higher numbers
abbrev pub AllAbove : ℕ → List Report → Type 0
AllAbove a reports = AllByRecursion (λ r. a < r.actor) reports

pub rising_none : IsRising []
unfolding IsStrictlySortedBy
rising_none = tt

pub rising_parts : (r : Report) (rs : List Report) → IsRising (r ∷ rs) → AllAbove r.actor rs × IsRising rs
unfolding IsStrictlySortedBy
rising_parts r rs h = (numbers rs h.0, h.1)
  where
    numbers : (rs : List Report) → AllByRecursion (λ q. nat_cmp r.actor q.actor ≡ Less) rs → AllAbove r.actor rs
    numbers [] h = tt
    numbers (q ∷ rs) h = (ranked r.actor q.actor Less (sym h.0), numbers rs h.1)

rising_more : (r : Report) (rs : List Report) → AllAbove r.actor rs → IsRising rs → IsRising (r ∷ rs)
unfolding IsStrictlySortedBy
rising_more r rs above h = (orders rs above, h)
  where
    orders : (rs : List Report) → AllAbove r.actor rs → AllByRecursion (λ q. nat_cmp r.actor q.actor ≡ Less) rs
    orders [] h = tt
    orders (q ∷ rs) h = (sym (nat_cmp_is r.actor q.actor Less h.0), orders rs h.1)

pub filter_rising : (p : Report → Bool) (rs : List Report) → IsRising rs → IsRising (filter p rs)
filter_rising p rs h = IsStrictlySortedBy-filter (on (λ r. r.actor) nat_cmp) p rs h

-- a report that is kept is found
pub kept_report-contained : (rs : List Report) (r : Report) → IsRising rs → Contains rs r → kept_report rs r.actor ≡ Some r
kept_report-contained [] r h i = absurd (none_in_empty r i)
kept_report-contained (q ∷ rs) r h i =
    let parts = rising_parts q rs h in
    ⊎_elim
    (λ (e : r ≡ q). subst (λ x. kept_report (q ∷ rs) x.actor ≡ Some x) (sym e) (found q rs))
    (λ j. later q rs r.actor (each_contained (λ (x : Report). q.actor < x.actor) rs parts.0 r j) ∙ kept_report-contained rs r parts.1 j)
    (first_or_later q rs r i)
  where
    found : (q : Report) (rs : List Report) → kept_report (q ∷ rs) q.actor ≡ Some q
    found q rs = grind (arith, nat_tests)

    later : (q : Report) (rs : List Report) (a : ℕ) → q.actor < a → kept_report (q ∷ rs) a ≡ kept_report rs a
    later q rs a lt = grind (arith, nat_tests)

above_keep : (r : Report) (a : ℕ) (ks : List Report) → a < r.actor → AllAbove a ks → AllAbove a (keep_report r ks)
above_keep r a [] lt h = (lt, tt)
above_keep r a (k ∷ ks) lt h =
    cond_both (r.actor == k.actor) (r ∷ ks) (if nat_lt r.actor k.actor then r ∷ (k ∷ ks) else k ∷ keep_report r ks) (AllAbove a)
    (λ _. (lt, h.1))
    (λ _. cond_both (nat_lt r.actor k.actor) (r ∷ (k ∷ ks)) (k ∷ keep_report r ks) (AllAbove a) (λ _. (lt, h)) (λ _. (h.0, above_keep r a ks lt h.1)))

above_less : (a b : ℕ) (ks : List Report) → a ≤ b → AllAbove b ks → AllAbove a ks
above_less a b [] le h = tt
above_less a b (k ∷ ks) le h = (omega (arith, h.0), above_less a b ks le h.1)

pub keep_rising : (r : Report) (ks : List Report) → IsRising ks → IsRising (keep_report r ks)
keep_rising r [] h = rising_more r [] tt rising_none
keep_rising r (k ∷ ks) h =
    let (above, rest) = rising_parts k ks h in
    cond_both (r.actor == k.actor) (r ∷ ks) (if nat_lt r.actor k.actor then r ∷ (k ∷ ks) else k ∷ keep_report r ks) IsRising
    (λ e. rising_more r ks (above_less r.actor k.actor ks (omega (arith, eqb-true r.actor k.actor e)) above) rest)
    (λ ne. cond_both (nat_lt r.actor k.actor) (r ∷ (k ∷ ks)) (k ∷ keep_report r ks) IsRising
    (λ lt. rising_more r (k ∷ ks) (ltb-true r.actor k.actor lt, above_less r.actor k.actor ks (omega (arith, ltb-true r.actor k.actor lt)) above) h)
    (λ ge. rising_more k (keep_report r ks) (above_keep r k.actor ks (omega (arith, ltb-false r.actor k.actor ge, eqb-false r.actor k.actor ne)) above) (keep_rising r ks rest)))
