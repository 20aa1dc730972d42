-- When each answer to an audit comes, from the promise of the call.
use Rattle.std.proofs.Common.{◌≡◌, ◌⊎◌, inl, inr, ℕ, ◌<◌, ◌≤◌, List, length, sym, ap, ap₂, ◌∙◌, subst, arith}
use Rattle.event_rule.specs.declared.event.Event.{Event}
use Rattle.run_book.specs.Books.{BookValue, options_of_book}
use Rattle.run_book.specs.Reading.{AreAlike, IsBookText, IsFirstFault}
use Rattle.run_book.specs.Splits.{IsSplit}
use Rattle.run_book.proofs.Alike.{one_book}
use Rattle.run_book.proofs.Faults.{faultless}
use Rattle.run_book.proofs.Marks.{one_way}
use Rattle.report_text.specs.declared.status.Status.{Status}
use Rattle.report_text.specs.declared.status.Status.TheVariants as status
use Rattle.word_line.specs.declared.order.Job.{Job}
use Rattle.word_line.specs.declared.order.Job.TheVariants.{Audit}
use Rattle.word_line.specs.declared.order.Order.{Order}
use Rattle.behaviour_code.specs.declared.code.Program.{Program}
use Rattle.behaviour_text.specs.Faults.{told_fault}
use Rattle.behaviour_check.specs.Rules.{first_broken}
use Rattle.machine_rules.specs.Options.{Options}
use Rattle.machine_rules.specs.Run.{IsRun}
use Rattle.orca_parts.specs.Parts.{options_of}
use Rattle.book_audit.specs.Verdicts.{IsARun, IsRefuted}
use Rattle.book_audit.specs.declared.auditing.Verdict.TheVariants.{Not}
use Rattle.book_audit.proofs.Exactly.{refuted_exactly, run_exactly}
use Rattle.pony_run.specs.Causes.{AuditCauses, IsGiven, IsGivenAudit, IsOfAudit, IsUnlessMemory}
use Rattle.job_input.specs.Inputs.{HasText, IsInput, IsProgramText, Spells}
use Rattle.job_input.specs.Streams.{CountsNoFault, HasFailed, Sides}
use Rattle.pony_run.proofs.Given.{no_fault, no_run, one_program, one_text, read_is}
use Rattle.pony_run.proofs.Seen.{AuditSeen, HasProgram, Seen, of_audit}

-- ---- what is the same of the same bytes

least_both : (a b c d : ℕ) → (a < c) ⊎ ((a ≡ c) × (b ≤ d)) → (c < a) ⊎ ((c ≡ a) × (d ≤ b)) → (a ≡ c) × (b ≡ d)
least_both a b c d (inl one) (inl other) = absurd (omega arith)
least_both a b c d (inl one) (inr other) = let same = other.0 in absurd (omega arith)
least_both a b c d (inr one) (inl other) = let same = one.0 in absurd (omega arith)
least_both a b c d (inr one) (inr other) = let low = one.1 in let high = other.1 in (one.0, omega arith)

one_fault : (bytes : List ℕ) (line kind l k : ℕ) → IsFirstFault bytes line kind → IsFirstFault bytes l k → status.BadBook l k ≡ status.BadBook line kind
one_fault bytes line kind l k one other =
    let same = least_both line kind l k (one.first l k other.there) (other.first line kind one.there) in
    sym (ap₂ status.BadBook same.0 same.1)

module _ (program : Program) (a b : BookValue) (alike : AreAlike a b) where
  same_options : options_of_book a ≡ options_of_book b
  same_options = ap₂ options_of alike.weight alike.trace

  run_alike : IsARun program a → IsARun program b
  run_alike (s, run) =
      (s, subst (λ (o : Options). IsRun program o b.entries s) same_options (subst (λ (es : List Event). IsRun program (options_of_book a) es s) alike.entries run))

  refuted_alike : (place cause : ℕ) → IsRefuted program a place cause → IsRefuted program b place cause
  refuted_alike place cause r = record {
    front = r.front;
    entry = r.entry;
    later = r.later;
    whole = sym alike.entries ∙ r.whole;
    at = r.at;
    state = r.state;
    run = subst (λ (o : Options). IsRun program o r.front r.state) same_options r.run;
    refused = r.refused;
  }

-- a run is not refuted
not_both : (program : Program) (book : BookValue) (place cause : ℕ) → IsRefuted program book place cause → ¬ IsARun program book
not_both program book place cause refuted run = (run_exactly program book (Not place cause) refuted).1 run

one_refusal : (program : Program) (book : BookValue) (place cause p c : ℕ) → IsRefuted program book place cause → IsRefuted program book p c
    → status.NotARun p c ≡ status.NotARun place cause
one_refusal program book place cause p c one other = let same = (refuted_exactly program book (Not place cause) one p c).1 other in cc

-- ---- what was found

-- want of memory; the report of a run that was cut; or what the audit found
data Found (program : Program) (bytes : List ℕ) (sink : Sides) (book : BookValue) (answer : Status) : Type 0 where
  starved : answer ≡ status.NoMemory → Found program bytes sink book answer
  cut : IsBookText bytes book → IsARun program book → HasFailed sink → answer ≡ status.WriteFault → Found program bytes sink book answer
  found : AuditSeen program bytes sink book answer → Found program bytes sink book answer

module _ (order : Order) (source sink : Sides) (book : BookValue) (answer : Status) (program : Program) (bytes : List ℕ) (audits : order.job ≡ Audit)
    (given : IsGivenAudit source program bytes) where
  same_input : (read : List ℕ) → IsInput order.job source read → read ≡ given.input
  same_input read h = read_is order.job source given.input read (subst (λ (j : Job). IsGiven j source given.input) (sym audits) given.given) h

  same_text : (read text : List ℕ) → IsInput order.job source read → HasText order.job read text → text ≡ given.text
  same_text read text h has =
      one_text order.job given.input text given.text (subst (λ (i : List ℕ). IsProgramText order.job i text) (same_input read h) has.part)
      (subst (λ (j : Job). IsProgramText j given.input given.text) (sym audits) (bytes, given.behind))

  same_program : (read text : List ℕ) → IsInput order.job source read → HasText order.job read text → (p : Program) → Spells text p → p ≡ program
  same_program read text h has p spells = one_program given.text program p given.spells (subst (λ (t : List ℕ). Spells t p) (same_text read text h has) spells)

  same_bytes : (p : Program) (of : HasProgram order source p) (behind : List ℕ) → IsSplit of.input of.text behind → behind ≡ bytes
  same_bytes p of behind split =
      (one_way given.input of.text behind given.text bytes (subst (λ (i : List ℕ). IsSplit i of.text behind) (same_input of.input of.read) split) given.behind).1

  what_is_found : Seen order source sink book answer → Found program bytes sink book answer
  what_is_found (Seen.no_memory e unfailed) = Found.starved e
  what_is_found (Seen.failed takes fails e) = absurd (given.well fails)
  what_is_found (Seen.long read h is e) = let same = ap length (same_input read h) in let short = given.short in absurd (omega arith)
  what_is_found (Seen.faulty read h text has l k faulty e) =
      let clean = no_fault given.text program given.spells in
      let first = faulty.first in
      let same = ap told_fault (same_text read text h has) in
      absurd (cc)
  what_is_found (Seen.broken read h text has p spells k b s r breaks e) =
      let kept = given.kept in let same = ap first_broken (same_program read text h has p spells) in absurd (cc)
  what_is_found (Seen.cut p of runs fails e) = absurd (no_run order.job runs audits)
  what_is_found (Seen.ended p of ended) = absurd (no_run order.job ended.runs audits)
  what_is_found (Seen.audit is p of behind split audit) =
      Found.found (subst (λ (q : Program). AuditSeen q bytes sink book answer) (same_program of.input of.text of.read of.has p of.spells)
      (subst (λ (x : List ℕ). AuditSeen p x sink book answer) (same_bytes p of behind split) audit))
  what_is_found (Seen.audit_cut is p of behind split written run fails e) =
      Found.cut (subst (λ (x : List ℕ). IsBookText x book) (same_bytes p of behind split) written)
      (subst (λ (q : Program). IsARun q book) (same_program of.input of.text of.read of.has p of.spells) run) fails e

-- ---- so each answer has its cause

module _ (program : Program) (bytes : List ℕ) (sink : Sides) (book : BookValue) (answer : Status) where
  bad_book_only : (line kind : ℕ) → answer ≡ status.BadBook line kind → Found program bytes sink book answer → IsFirstFault bytes line kind
  bad_book_only line kind e (Found.starved m) = absurd (cc)
  bad_book_only line kind e (Found.cut of run fails w) = absurd (cc)
  bad_book_only line kind e (Found.found (AuditSeen.no_book l k fault w)) =
      let one : l ≡ line = cc in
      let two : k ≡ kind = cc in
      subst (IsFirstFault bytes line) two (subst (λ (x : ℕ). IsFirstFault bytes x k) one fault.first)
  bad_book_only line kind e (Found.found (AuditSeen.refuted of p c wrong w)) = absurd (cc)
  bad_book_only line kind e (Found.found (AuditSeen.audited of run well w)) = absurd (cc)

  bad_book : (line kind : ℕ) → IsFirstFault bytes line kind → Found program bytes sink book answer → IsUnlessMemory answer (status.BadBook line kind)
  bad_book line kind first (Found.starved m) = inr m
  bad_book line kind first (Found.cut of run fails w) = absurd (faultless bytes book of line kind first.there)
  bad_book line kind first (Found.found (AuditSeen.no_book l k fault w)) = inl (w ∙ one_fault bytes line kind l k first fault.first)
  bad_book line kind first (Found.found (AuditSeen.refuted of p c wrong w)) = absurd (faultless bytes book of line kind first.there)
  bad_book line kind first (Found.found (AuditSeen.audited of run well w)) = absurd (faultless bytes book of line kind first.there)

  one_comes : ¬ HasFailed sink → Found program bytes sink book answer → IsOfAudit answer ⊎ (answer ≡ status.NoMemory)
  one_comes able (Found.starved m) = inr m
  one_comes able (Found.cut of run fails w) = absurd (able fails)
  one_comes able (Found.found audit) = inl (of_audit program bytes sink book answer audit)

  module _ (b : BookValue) (of_b : IsBookText bytes b) where
    alike : IsBookText bytes book → AreAlike book b
    alike of = one_book bytes book b of of_b

    not_a_run_only : (place cause : ℕ) → answer ≡ status.NotARun place cause → Found program bytes sink book answer → IsRefuted program b place cause
    not_a_run_only place cause e (Found.starved m) = absurd (cc)
    not_a_run_only place cause e (Found.cut of run fails w) = absurd (cc)
    not_a_run_only place cause e (Found.found (AuditSeen.no_book l k fault w)) = absurd (cc)
    not_a_run_only place cause e (Found.found (AuditSeen.refuted of p c wrong w)) =
        let one : p ≡ place = cc in
        let two : c ≡ cause = cc in
        refuted_alike program book b (alike of) place cause (subst (IsRefuted program book place) two (subst (λ (x : ℕ). IsRefuted program book x c) one wrong))
    not_a_run_only place cause e (Found.found (AuditSeen.audited of run well w)) = absurd (cc)

    not_a_run : (place cause : ℕ) → IsRefuted program b place cause → Found program bytes sink book answer → IsUnlessMemory answer (status.NotARun place cause)
    not_a_run place cause refuted (Found.starved m) = inr m
    not_a_run place cause refuted (Found.cut of run fails w) = absurd (not_both program b place cause refuted (run_alike program book b (alike of) run))
    not_a_run place cause refuted (Found.found (AuditSeen.no_book l k fault w)) = absurd (fault.no_book b of_b)
    not_a_run place cause refuted (Found.found (AuditSeen.refuted of p c other w)) =
        inl (w ∙ one_refusal program b place cause p c refuted (refuted_alike program book b (alike of) p c other))
    not_a_run place cause refuted (Found.found (AuditSeen.audited of run well w)) =
        absurd (not_both program b place cause refuted (run_alike program book b (alike of) run))

    audited_only : answer ≡ status.Audited → Found program bytes sink book answer → IsARun program b × CountsNoFault sink
    audited_only e (Found.starved m) = absurd (cc)
    audited_only e (Found.cut of run fails w) = absurd (cc)
    audited_only e (Found.found (AuditSeen.no_book l k fault w)) = absurd (cc)
    audited_only e (Found.found (AuditSeen.refuted of p c wrong w)) = absurd (cc)
    audited_only e (Found.found (AuditSeen.audited of run well w)) = (run_alike program book b (alike of) run, well)

    audited : IsARun program b → ¬ HasFailed sink → Found program bytes sink book answer → IsUnlessMemory answer status.Audited
    audited run able (Found.starved m) = inr m
    audited run able (Found.cut of same fails w) = absurd (able fails)
    audited run able (Found.found (AuditSeen.no_book l k fault w)) = absurd (fault.no_book b of_b)
    audited run able (Found.found (AuditSeen.refuted of p c wrong w)) =
        absurd (not_both program b p c (refuted_alike program book b (alike of) p c wrong) run)
    audited run able (Found.found (AuditSeen.audited of same well w)) = inl w

pub audit_caused : (order : Order) (source sink : Sides) (book : BookValue) (answer : Status) (program : Program) (bytes : List ℕ) → order.job ≡ Audit
    → IsGivenAudit source program bytes → Seen order source sink book answer → AuditCauses sink answer program bytes
audit_caused order source sink book answer program bytes audits given seen =
    let found = what_is_found order source sink book answer program bytes audits given seen in
    record {
      bad_book_only = λ line kind e. bad_book_only program bytes sink book answer line kind e found;
      bad_book = λ line kind first. bad_book program bytes sink book answer line kind first found;
      not_a_run_only = λ b place cause of e. not_a_run_only program bytes sink book answer b of place cause e found;
      not_a_run = λ b place cause of refuted. not_a_run program bytes sink book answer b of place cause refuted found;
      audited_only = λ b of e. audited_only program bytes sink book answer b of e found;
      audited = λ b of run able. audited program bytes sink book answer b of run able found;
      one_comes = λ able. one_comes program bytes sink book answer able found;
    }
