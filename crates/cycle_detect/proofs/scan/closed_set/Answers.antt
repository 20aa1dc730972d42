use Rattle.std.proofs.Common.{◌∙◌, ap, sym, subst, arith, not, List}
use Rattle.letter_kinds.specs.Closed.{largest_closed}
use Rattle.letter_kinds.specs.Detector.{has, in_token}
use Rattle.letter_kinds.specs.declared.note.Report.{Report}
use Rattle.cycle_detect.specs.Kept.{actors_of, reports_at}
use Rattle.std.specs.List.Sorted.{IsStrictlySortedBy}
use Rattle.std.specs.Ordering.{nat_cmp}
use Rattle.cycle_detect.proofs.Settled.{few, if_ok_one, largest_free, largest_rises, not_true, rising_some}
use Rattle.cycle_detect.proofs.Sums.{length-names}
use Rattle.cycle_detect.proofs.scan.closed_set.Goals as goal

pub returns-in_err-names-clause-cost : goal.returns-in_err-names-clause-cost
returns-in_err-names-clause-cost g c =
    let found = ap reports_at c.deref.ensures.value ∙ c.in_ok-candidates.ensures.found in
    let less = few (λ r. r.now) c.deref.result.now (λ (r : Report). not (in_token c.args.tokens.now.list r.actor)) c.args.reports.now.list found in
    let a = c.candidates.ensures.cost in
    let b = c.actors.ensures.cost in
    omega arith

pub largest_among-requires-clause-rising : goal.largest_among-requires-clause-rising
largest_among-requires-clause-rising g c =
    let found = ap reports_at c.deref.ensures.value ∙ c.in_ok-candidates.ensures.found in
    subst (IsStrictlySortedBy nat_cmp) (sym (c.deref-2.ensures.value ∙ (c.in_ok-names.ensures.found ∙ ap actors_of found)))
    (rising_some (λ (r : Report). not (in_token c.args.tokens.now.list r.actor)) c.args.reports.now.list c.candidates.ensures.rising)

pub returns-clause-rising : goal.returns-clause-rising
returns-clause-rising g c =
    let found = ap reports_at c.deref-3.ensures.value ∙ c.in_ok-candidates.ensures.found in
    if_ok_one c.largest_among.result _ _ (λ v is.
    subst (IsStrictlySortedBy nat_cmp) (sym (is ∙ ap (λ (rs : List Report). actors_of (largest_closed rs)) found))
    (largest_rises _ (rising_some (λ (r : Report). not (in_token c.args.tokens.now.list r.actor)) c.args.reports.now.list c.candidates.ensures.rising)))
    c.largest_among.ensures.found

pub returns-clause-apart : goal.returns-clause-apart
returns-clause-apart g c =
    let found = ap reports_at c.deref-3.ensures.value ∙ c.in_ok-candidates.ensures.found in
    if_ok_one c.largest_among.result _ _ (λ v is m h.
    not_true (in_token c.args.tokens.now.list m) (largest_free (λ a. not (in_token c.args.tokens.now.list a)) c.args.reports.now.list m
    (ap (λ xs. has xs m) (sym (is ∙ ap (λ (rs : List Report). actors_of (largest_closed rs)) found)) ∙ h)))
    c.largest_among.ensures.found

pub returns-clause-cost : goal.returns-clause-cost
returns-clause-cost g c =
    let found = ap reports_at c.deref.ensures.value ∙ c.in_ok-candidates.ensures.found in
    let less = few (λ r. r.now) c.deref.result.now (λ (r : Report). not (in_token c.args.tokens.now.list r.actor)) c.args.reports.now.list found in
    let same = c.deref-3.ensures.value ∙ sym c.deref.ensures.value in
    let long = length-names (λ r. r.now) c.deref.result.now c.deref-2.result.now (c.deref-2.ensures.value ∙ c.in_ok-names.ensures.found) in
    let a = c.candidates.ensures.cost in
    let b = c.actors.ensures.cost in
    let d = rw same at c.largest_among.ensures.cost in
    omega arith
