-- A book has one verdict.
use Rattle.std.proofs.Common.{◌≡◌, ◌≢◌, ◌↔◌, ℕ, suc, List, [], ◌∷◌, ◌++◌, length, refl, sym, ap, ap₂, subst, inl, inr, ◌∙◌}
use Rattle.behaviour_code.specs.declared.code.Program.{Program}
use Rattle.event_rule.specs.Runs.{Goes, IsFull, Leads, NotEnabled}
use Rattle.event_rule.specs.declared.event.Event.{Event}
use Rattle.event_rule.proofs.OneRun.{leads_to_one}
use Rattle.event_rule.proofs.Steps.{goes_to, not_enabled, not_full}
use Rattle.machine_rules.specs.Next.{next}
use Rattle.machine_rules.specs.Run.{IsRun}
use Rattle.machine_rules.specs.State.{State, first_state}
use Rattle.machine_laws.proofs.StayingFreed.{split_leads}
use Rattle.run_book.specs.Books.{BookValue, options_of_book}
use Rattle.book_audit.specs.Verdicts.{IsARun, IsCause, IsRefuted, IsVerdict, SaysRun}
use Rattle.book_audit.specs.declared.auditing.Verdict.{Verdict}
use Rattle.book_audit.specs.declared.auditing.Verdict.TheVariants.{Run, Not}

-- ---- an entry that is refused

leads_nowhere : (cause : ℕ) (s t : State) (e : Event) → IsCause cause s e → next s e ≢ Goes t
leads_nowhere cause s t e (inl off) goes = not_enabled t (sym off.1 ∙ goes)
leads_nowhere cause s t e (inr full) goes = not_full t (sym full.1 ∙ goes)

off_or_full : (s : State) (e : Event) → next s e ≡ NotEnabled → next s e ≢ IsFull
off_or_full s e off full = let same = sym off ∙ full in cc

one_cause : (c d : ℕ) (s : State) (e : Event) → IsCause c s e → IsCause d s e → c ≡ d
one_cause c d s e (inl off) (inl still) = off.0 ∙ sym still.0
one_cause c d s e (inl off) (inr full) = absurd (off_or_full s e off.1 full.1)
one_cause c d s e (inr full) (inl off) = absurd (off_or_full s e off.1 full.1)
one_cause c d s e (inr full) (inr still) = full.0 ∙ sym still.0

-- ---- a run has none, and else there is one

same_first : (e f : Event) (es fs : List Event) → e ∷ es ≡ f ∷ fs → e ≡ f
same_first e f es fs same = cc

same_later : (e f : Event) (es fs : List Event) → e ∷ es ≡ f ∷ fs → es ≡ fs
same_later e f es fs same = cc

-- where one stretch ends with a refused entry, a longer one doesn't go on
goes_no_further : (s u t : State) (e f : Event) (es fs : List Event) (cause : ℕ) → s ≡ u → IsCause cause u e → e ∷ es ≡ f ∷ fs → next s f ≢ Goes t
goes_no_further s u t e f es fs cause here refused same goes =
    leads_nowhere cause s t f (subst (λ x. IsCause cause s x) (same_first e f es fs same) (subst (λ v. IsCause cause v e) (sym here) refused)) goes

one_refusal : (front other : List Event) (s u v : State) (e f : Event) (later rest : List Event) (c d : ℕ) → Leads next s front u → Leads next s other v
    → IsCause c u e → IsCause d v f → front ++ e ∷ later ≡ other ++ f ∷ rest → (length front ≡ length other) × (c ≡ d)
one_refusal [] [] s u v e f later rest c d here there one two same = (
  refl,
  one_cause c d s f (subst (λ x. IsCause c s x) (same_first e f later rest same) (subst (λ w. IsCause c w e) (sym here) one)) (subst (λ w. IsCause d w f) (sym there) two),
)
one_refusal [] (g ∷ other) s u v e f later rest c d here (t, goes, leads) one two same =
    absurd (goes_no_further s u t e g later (other ++ f ∷ rest) c here one same goes)
one_refusal (g ∷ front) [] s u v e f later rest c d (t, goes, leads) there one two same =
    absurd (goes_no_further s v t f g rest (front ++ e ∷ later) d there two (sym same) goes)
one_refusal (g ∷ front) (h ∷ other) s u v e f later rest c d (t, goes, leads) (r, went, led) one two same =
    let on : r ≡ t = goes_to r t (sym went ∙ ap (next s) (sym (same_first g h (front ++ e ∷ later) (other ++ f ∷ rest) same)) ∙ goes) in
    let more = one_refusal front other t u v e f later rest c d leads (subst (λ w. Leads next w other v) on led) one two
    (same_later g h (front ++ e ∷ later) (other ++ f ∷ rest) same) in
    (ap suc more.0, more.1)

no_run_is_refuted : (program : Program) (book : BookValue) (place cause : ℕ) → IsRefuted program book place cause → ¬ IsARun program book
no_run_is_refuted program book place cause r (s, run) =
    let whole = subst (λ es. IsRun program (options_of_book book) es s) r.whole run in
    let first = first_state program (options_of_book book) in
    let parts = split_leads r.front (r.entry ∷ r.later) first s whole in
    let same = leads_to_one next r.front first parts.0 r.state parts.1 r.run in
    leads_nowhere cause r.state parts.2.0 r.entry r.refused (subst (λ w. next w r.entry ≡ Goes parts.2.0) same parts.2.1)

-- ---- so a right verdict is the only one

pub run_exactly : (program : Program) (book : BookValue) (v : Verdict) → IsVerdict program book v → SaysRun v ↔ IsARun program book
run_exactly program book (Run m) right = (λ _. (m.state, right.run), λ _. tt)
run_exactly program book (Not place cause) right = (λ no. absurd no, λ run. absurd (no_run_is_refuted program book place cause right run))

pub refuted_exactly : (program : Program) (book : BookValue) (v : Verdict) → IsVerdict program book v → (place cause : ℕ) → v ≡ Not place cause ↔ IsRefuted program book place cause
refuted_exactly program book (Run m) right place cause = (
  λ same. subst (IsVerdict program book) same right,
  λ r. absurd (no_run_is_refuted program book place cause r (m.state, right.run)),
)
refuted_exactly program book (Not p c) right place cause = (
  λ same. subst (IsVerdict program book) same right,
  λ r.
      let first = first_state program (options_of_book book) in
      let one = one_refusal right.front r.front first right.state r.state right.entry r.entry right.later r.later c cause right.run r.run right.refused r.refused (sym right.whole ∙ r.whole) in
      ap₂ Not (right.at ∙ one.0 ∙ sym r.at) one.1,
)
