-- When each answer comes, from the promise of the call.
use Rattle.std.proofs.Common.{◌≡◌, ◌≢◌, ◌⊎◌, inl, inr, ℕ, List, length, Some, None, refl, sym, ap, ◌∙◌, subst, arith}
use Rattle.std.specs.declared.option.Option.{Option}
use Rattle.run_book.specs.Books.{BookValue}
use Rattle.report_text.specs.Ends.{IsEnd}
use Rattle.report_text.specs.Refusals.{HasRefusal}
use Rattle.report_text.specs.declared.status.Status.{Status}
use Rattle.report_text.specs.declared.status.Status.TheVariants as status
use Rattle.word_line.specs.declared.order.Job.TheVariants.{Audit}
use Rattle.word_line.specs.declared.order.Order.{Order}
use Rattle.behaviour_code.specs.declared.code.Program.{Program}
use Rattle.behaviour_text.specs.Faults.{told_fault}
use Rattle.behaviour_check.specs.Rules.{fault_at, first_broken}
use Rattle.behaviour_check.specs.declared.checked.CheckFault.{CheckFault}
use Rattle.pony_run.specs.Causes.{Causes, ComesOnly, ComesWherever, IsGiven, IsOfAudit, IsUnlessMemory, OrderCauses, ReadsWell}
use Rattle.job_input.specs.Inputs.{HasText, IsInput, IsProgramText, RunsProgram, Spells, TakesInput}
use Rattle.pony_run.specs.Headline.{Answers, EndsWith, EveryRun}
use Rattle.job_input.specs.Streams.{CountsFault, CountsNoFault, HasFailed, Sides, most_bytes}
use Rattle.pony_run.proofs.AuditCaused.{audit_caused}
use Rattle.pony_run.proofs.Given.{ends_no_audit, input_is_well, no_fault, no_run, one_program, one_text, read_is, well_read}
use Rattle.pony_run.proofs.Seen.{AuditSeen, HasProgram, Seen, of_audit, see}

module _ (order : Order) (source sink : Sides) (book : BookValue) (answer : Status) where
  module _ (input : List ℕ) (given : IsGiven order.job source input) where
    is_input : (read : List ℕ) → IsInput order.job source read → read ≡ input
    is_input read h = read_is order.job source input read given h

    -- an input that has a text of a program is not too long
    not_long : (read text : List ℕ) → IsInput order.job source read → HasText order.job read text → length input ≢ most_bytes
    not_long read text h has long = let same = ap length (is_input read h) in let short = has.short in omega arith

    -- the text that was read is the one that was given
    is_text : (text read other : List ℕ) → IsProgramText order.job input text → IsInput order.job source read → HasText order.job read other → other ≡ text
    is_text text read other part h has =
        one_text order.job input other text (subst (λ (i : List ℕ). IsProgramText order.job i other) (is_input read h) has.part) part

    -- ---- where a cause is there, its answer comes

    when_too_long : ReadsWell order.job source → length input ≡ most_bytes → Seen order source sink book answer → IsUnlessMemory answer status.TooLong
    when_too_long well long (Seen.no_memory e unfailed) = inr e
    when_too_long well long (Seen.failed takes fails e) = absurd (well_read order.job source well takes fails)
    when_too_long well long (Seen.long read h is e) = inl e
    when_too_long well long (Seen.faulty read h text has line kind fault e) = absurd (not_long read text h has long)
    when_too_long well long (Seen.broken read h text has p of k b s r breaks e) = absurd (not_long read text h has long)
    when_too_long well long (Seen.cut p of runs fails e) = absurd (not_long of.input of.text of.read of.has long)
    when_too_long well long (Seen.audit_cut is p of bytes behind written run fails e) = absurd (not_long of.input of.text of.read of.has long)
    when_too_long well long (Seen.ended p of end) = absurd (not_long of.input of.text of.read of.has long)
    when_too_long well long (Seen.audit is p of bytes behind audit) = absurd (not_long of.input of.text of.read of.has long)

    module _ (text : List ℕ) (has : HasText order.job input text) where
      same_text : (read other : List ℕ) → IsInput order.job source read → HasText order.job read other → other ≡ text
      same_text read other h of = is_text text read other has.part h of

      -- a short input is not read as a long one
      short_read : (read : List ℕ) → IsInput order.job source read → length read ≢ most_bytes
      short_read read h long = let same = ap length (is_input read h) in let short = has.short in omega arith

      -- a text with a fault is that of no program
      no_program_read : (line kind : ℕ) → told_fault text ≡ Some (line, kind) → (read other : List ℕ) → IsInput order.job source read → HasText order.job read other
          → (p : Program) → Spells other p → ⊥
      no_program_read line kind fault read other h of p spells =
          let clean = no_fault other p spells in let same = ap told_fault (same_text read other h of) in absurd (cc)

      when_bad_text : (line kind : ℕ) → ReadsWell order.job source → told_fault text ≡ Some (line, kind)
          → Seen order source sink book answer → IsUnlessMemory answer (status.BadText line kind)
      when_bad_text line kind well fault (Seen.no_memory e unfailed) = inr e
      when_bad_text line kind well fault (Seen.failed takes fails e) = absurd (well_read order.job source well takes fails)
      when_bad_text line kind well fault (Seen.long read h is e) = absurd (short_read read h is)
      when_bad_text line kind well fault (Seen.faulty read h other of l k faulty e) =
          let both : ◌≡◌ {A = Option (ℕ × ℕ)} (Some (l, k)) (Some (line, kind)) = sym faulty.first ∙ (ap told_fault (same_text read other h of) ∙ fault) in
          let same : ◌≡◌ {A = ℕ × ℕ} (l, k) (line, kind) = cc in
          inl (e ∙ ap (λ (p : ℕ × ℕ). status.BadText p.0 p.1) same)
      when_bad_text line kind well fault (Seen.broken read h other of p spells k b s r breaks e) = absurd (no_program_read line kind fault read other h of p spells)
      when_bad_text line kind well fault (Seen.cut p of runs fails e) = absurd (no_program_read line kind fault of.input of.text of.read of.has p of.spells)
      when_bad_text line kind well fault (Seen.audit_cut is p of bytes behind written run fails e) = absurd (no_program_read line kind fault of.input of.text of.read of.has p of.spells)
      when_bad_text line kind well fault (Seen.ended p of end) = absurd (no_program_read line kind fault of.input of.text of.read of.has p of.spells)
      when_bad_text line kind well fault (Seen.audit is p of bytes behind audit) = absurd (no_program_read line kind fault of.input of.text of.read of.has p of.spells)

      module _ (program : Program) (spells : Spells text program) where
        -- the program that was read is the one that was given
        is_program : (read other : List ℕ) → IsInput order.job source read → HasText order.job read other → (p : Program) → Spells other p → p ≡ program
        is_program read other h of p p_spells = one_program text program p spells (subst (λ (t : List ℕ). Spells t p) (same_text read other h of) p_spells)

        -- what is read has no fault
        not_faulty : (read other : List ℕ) → IsInput order.job source read → HasText order.job read other → (line kind : ℕ) → told_fault other ≢ Some (line, kind)
        not_faulty read other h of line kind first =
            let clean = no_fault text program spells in let same = ap told_fault (same_text read other h of) in absurd (cc)

        -- and what holds of its program's rules
        same_rules : (read other : List ℕ) → IsInput order.job source read → HasText order.job read other → (p : Program) → Spells other p → first_broken p ≡ first_broken program
        same_rules read other h of p p_spells = ap first_broken (is_program read other h of p p_spells)

        rules_are_broken : (fault : CheckFault) → first_broken program ≡ Some fault → (p : Program) → HasProgram order source p → ⊥
        rules_are_broken fault broken p of = let kept = of.kept in let same = same_rules of.input of.text of.read of.has p of.spells in absurd (cc)

        when_bad_program : (kind behaviour step rule : ℕ) → ReadsWell order.job source → first_broken program ≡ Some (fault_at kind behaviour step rule)
            → Seen order source sink book answer → IsUnlessMemory answer (status.BadProgram kind behaviour step rule)
        when_bad_program kind behaviour step rule well fault (Seen.no_memory e unfailed) = inr e
        when_bad_program kind behaviour step rule well fault (Seen.failed takes fails e) = absurd (well_read order.job source well takes fails)
        when_bad_program kind behaviour step rule well fault (Seen.long read h is e) = absurd (short_read read h is)
        when_bad_program kind behaviour step rule well fault (Seen.faulty read h other of l k faulty e) = absurd (not_faulty read other h of l k faulty.first)
        when_bad_program kind behaviour step rule well fault (Seen.broken read h other of p p_spells k b s r breaks e) =
            let both : ◌≡◌ {A = Option CheckFault} (Some (fault_at k b s r)) (Some (fault_at kind behaviour step rule)) = sym breaks ∙ (same_rules read other h of p p_spells ∙ fault) in
            let same : fault_at k b s r ≡ fault_at kind behaviour step rule = cc in
            inl (e ∙ ap (λ (f : CheckFault). status.BadProgram f.kind f.behaviour f.step f.rule) same)
        when_bad_program kind behaviour step rule well fault (Seen.cut p of runs fails e) = absurd (rules_are_broken _ fault p of)
        when_bad_program kind behaviour step rule well fault (Seen.audit_cut is p of bytes behind written run fails e) = absurd (rules_are_broken _ fault p of)
        when_bad_program kind behaviour step rule well fault (Seen.ended p of end) = absurd (rules_are_broken _ fault p of)
        when_bad_program kind behaviour step rule well fault (Seen.audit is p of bytes behind audit) = absurd (rules_are_broken _ fault p of)

        kept_not_broken : first_broken program ≡ None → (read other : List ℕ) → IsInput order.job source read → HasText order.job read other
            → (p : Program) → Spells other p → (fault : CheckFault) → first_broken p ≢ Some fault
        kept_not_broken kept read other h of p p_spells fault broken = let same = same_rules read other h of p p_spells in absurd (cc)

        when_it_ends : RunsProgram order.job → ReadsWell order.job source → ¬ HasFailed sink → first_broken program ≡ None → Seen order source sink book answer
            → IsEnd answer ⊎ (answer ≡ status.NoMemory)
        when_it_ends runs well able kept (Seen.no_memory e unfailed) = inr e
        when_it_ends runs well able kept (Seen.failed takes fails e) = absurd (well_read order.job source well takes fails)
        when_it_ends runs well able kept (Seen.long read h is e) = absurd (short_read read h is)
        when_it_ends runs well able kept (Seen.faulty read h other of l k faulty e) = absurd (not_faulty read other h of l k faulty.first)
        when_it_ends runs well able kept (Seen.broken read h other of p p_spells k b s r breaks e) = absurd (kept_not_broken kept read other h of p p_spells _ breaks)
        when_it_ends runs well able kept (Seen.cut p of same fails e) = absurd (able fails)
        when_it_ends runs well able kept (Seen.audit_cut is p of bytes behind written run fails e) = absurd (able fails)
        when_it_ends runs well able kept (Seen.ended p of end) = inl end.is_end
        when_it_ends runs well able kept (Seen.audit is p of bytes behind audit) = absurd (no_run order.job runs is)

        of_end : IsEnd answer → Seen order source sink book answer
            → (first_broken program ≡ None) × (run : EveryRun order program book) × EndsWith answer run.state run.blocks book.entries order.budget
        of_end end (Seen.no_memory e unfailed) = absurd (subst IsEnd e end)
        of_end end (Seen.failed takes fails e) = absurd (subst IsEnd e end)
        of_end end (Seen.long read h is e) = absurd (subst IsEnd e end)
        of_end end (Seen.faulty read h other of l k faulty e) = absurd (subst IsEnd e end)
        of_end end (Seen.broken read h other of p p_spells k b s r breaks e) = absurd (subst IsEnd e end)
        of_end end (Seen.cut p of runs fails e) = absurd (subst IsEnd e end)
        of_end end (Seen.audit_cut is p of bytes behind written run fails e) = absurd (subst IsEnd e end)
        of_end end (Seen.ended p of ended) =
            subst (λ (q : Program). (first_broken q ≡ None) × (run : EveryRun order q book) × EndsWith answer run.state run.blocks book.entries order.budget)
            (is_program of.input of.text of.read of.has p of.spells) (of.kept, ended.run, ended.ends)
        of_end end (Seen.audit is p of bytes behind audit) = absurd (ends_no_audit answer end (of_audit p bytes sink book answer audit))

  when_read_fails : CountsFault source → Seen order source sink book answer → IsUnlessMemory answer status.ReadFault
  when_read_fails fault (Seen.no_memory e unfailed) = inr e
  when_read_fails fault (Seen.failed takes fails e) = inl e
  when_read_fails fault (Seen.long read h is e) = let well = input_is_well order.job source read h in absurd (omega arith)
  when_read_fails fault (Seen.faulty read h other of l k faulty e) = let well = input_is_well order.job source read h in absurd (omega arith)
  when_read_fails fault (Seen.broken read h other of p spells k b s r breaks e) = let well = input_is_well order.job source read h in absurd (omega arith)
  when_read_fails fault (Seen.cut p of runs fails e) = let well = input_is_well order.job source of.input of.read in absurd (omega arith)
  when_read_fails fault (Seen.audit_cut is p of bytes behind written run fails e) = let well = input_is_well order.job source of.input of.read in absurd (omega arith)
  when_read_fails fault (Seen.ended p of end) = let well = input_is_well order.job source of.input of.read in absurd (omega arith)
  when_read_fails fault (Seen.audit is p of bytes behind audit) = let well = input_is_well order.job source of.input of.read in absurd (omega arith)

  -- ---- each answer comes only where its cause is there

  at_end : IsEnd answer → Seen order source sink book answer → RunsProgram order.job × CountsNoFault source × CountsNoFault sink
  at_end end (Seen.no_memory e unfailed) = absurd (subst IsEnd e end)
  at_end end (Seen.failed takes fails e) = absurd (subst IsEnd e end)
  at_end end (Seen.long read h is e) = absurd (subst IsEnd e end)
  at_end end (Seen.faulty read h other of l k faulty e) = absurd (subst IsEnd e end)
  at_end end (Seen.broken read h other of p spells k b s r breaks e) = absurd (subst IsEnd e end)
  at_end end (Seen.cut p of runs fails e) = absurd (subst IsEnd e end)
  at_end end (Seen.audit_cut is p of bytes behind written run fails e) = absurd (subst IsEnd e end)
  at_end end (Seen.ended p of ended) = (ended.runs, input_is_well order.job source of.input of.read, ended.well)
  at_end end (Seen.audit is p of bytes behind audit) = absurd (ends_no_audit answer end (of_audit p bytes sink book answer audit))

  at_audit : IsOfAudit answer → Seen order source sink book answer → order.job ≡ Audit
  at_audit audits (Seen.no_memory e unfailed) = absurd (subst IsOfAudit e audits)
  at_audit audits (Seen.failed takes fails e) = absurd (subst IsOfAudit e audits)
  at_audit audits (Seen.long read h is e) = absurd (subst IsOfAudit e audits)
  at_audit audits (Seen.faulty read h other of l k faulty e) = absurd (subst IsOfAudit e audits)
  at_audit audits (Seen.broken read h other of p spells k b s r breaks e) = absurd (subst IsOfAudit e audits)
  at_audit audits (Seen.cut p of runs fails e) = absurd (subst IsOfAudit e audits)
  at_audit audits (Seen.audit_cut is p of bytes behind written run fails e) = absurd (subst IsOfAudit e audits)
  at_audit audits (Seen.ended p of ended) = absurd (ends_no_audit answer ended.is_end audits)
  at_audit audits (Seen.audit is p of bytes behind audit) = is

  -- where the sink failed, a report or the line of a refusal was cut
  sink_failed : CountsFault sink → Seen order source sink book answer → (answer ≡ status.WriteFault) ⊎ HasRefusal answer
  sink_failed fault (Seen.no_memory e unfailed) = absurd (omega arith)
  sink_failed fault (Seen.failed takes fails e) = inr (subst HasRefusal (sym e) tt)
  sink_failed fault (Seen.long read h is e) = inr (subst HasRefusal (sym e) tt)
  sink_failed fault (Seen.faulty read h other of l k faulty e) = inr (subst HasRefusal (sym e) tt)
  sink_failed fault (Seen.broken read h other of p spells k b s r breaks e) = inr (subst HasRefusal (sym e) tt)
  sink_failed fault (Seen.cut p of runs fails e) = inl e
  sink_failed fault (Seen.audit_cut is p of bytes behind written run fails e) = inl e
  sink_failed fault (Seen.ended p of ended) = let well = ended.well in absurd (omega arith)
  sink_failed fault (Seen.audit is p of bytes behind (AuditSeen.no_book line kind first e)) = inr (subst HasRefusal (sym e) tt)
  sink_failed fault (Seen.audit is p of bytes behind (AuditSeen.refuted written place cause wrong e)) = inr (subst HasRefusal (sym e) tt)
  sink_failed fault (Seen.audit is p of bytes behind (AuditSeen.audited written run well e)) = absurd (omega arith)

-- ---- both, for an order

module _ (order : Order) (source sink : Sides) (book : BookValue) where
  -- each answer with a refusal, or of a failed sink, tells its cause
  no_bad_words : ¬ Seen order source sink book status.BadWords
  no_bad_words (Seen.no_memory e unfailed) = cc
  no_bad_words (Seen.failed takes fails e) = cc
  no_bad_words (Seen.long read h is e) = cc
  no_bad_words (Seen.faulty read h other of l k faulty e) = cc
  no_bad_words (Seen.broken read h other of p p_spells k b s r breaks e) = cc
  no_bad_words (Seen.cut p of runs fails e) = cc
  no_bad_words (Seen.audit_cut is p of bytes behind written run fails e) = cc
  no_bad_words (Seen.ended p of ended) = ended.is_end
  no_bad_words (Seen.audit is p of bytes behind audit) = of_audit p bytes sink book status.BadWords audit

  of_read_fault : Seen order source sink book status.ReadFault → TakesInput order.job × HasFailed source
  of_read_fault (Seen.no_memory e unfailed) = absurd (cc)
  of_read_fault (Seen.failed takes fails e) = (takes, fails)
  of_read_fault (Seen.long read h is e) = absurd (cc)
  of_read_fault (Seen.faulty read h other of l k faulty e) = absurd (cc)
  of_read_fault (Seen.broken read h other of p p_spells k b s r breaks e) = absurd (cc)
  of_read_fault (Seen.cut p of runs fails e) = absurd (cc)
  of_read_fault (Seen.audit_cut is p of bytes behind written run fails e) = absurd (cc)
  of_read_fault (Seen.ended p of ended) = absurd ended.is_end
  of_read_fault (Seen.audit is p of bytes behind audit) = absurd (of_audit p bytes sink book status.ReadFault audit)

  of_write_fault : Seen order source sink book status.WriteFault → HasFailed sink
  of_write_fault (Seen.no_memory e unfailed) = absurd (cc)
  of_write_fault (Seen.failed takes fails e) = absurd (cc)
  of_write_fault (Seen.long read h is e) = absurd (cc)
  of_write_fault (Seen.faulty read h other of l k faulty e) = absurd (cc)
  of_write_fault (Seen.broken read h other of p p_spells k b s r breaks e) = absurd (cc)
  of_write_fault (Seen.cut p of runs fails e) = fails
  of_write_fault (Seen.audit_cut is p of bytes behind written run fails e) = fails
  of_write_fault (Seen.ended p of ended) = absurd ended.is_end
  of_write_fault (Seen.audit is p of bytes behind audit) = absurd (of_audit p bytes sink book status.WriteFault audit)

  module _ (input : List ℕ) (given : IsGiven order.job source input) where
    of_too_long : Seen order source sink book status.TooLong → length input ≡ most_bytes
    of_too_long (Seen.no_memory e unfailed) = absurd (cc)
    of_too_long (Seen.failed takes fails e) = absurd (cc)
    of_too_long (Seen.long read h is e) = ap length (sym (read_is order.job source input read given h)) ∙ is
    of_too_long (Seen.faulty read h other of l k faulty e) = absurd (cc)
    of_too_long (Seen.broken read h other of p p_spells k b s r breaks e) = absurd (cc)
    of_too_long (Seen.cut p of runs fails e) = absurd (cc)
    of_too_long (Seen.audit_cut is p of bytes behind written run fails e) = absurd (cc)
    of_too_long (Seen.ended p of ended) = absurd ended.is_end
    of_too_long (Seen.audit is p of bytes behind audit) = absurd (of_audit p bytes sink book status.TooLong audit)

    of_bad_text : (text : List ℕ) (line kind : ℕ) → IsProgramText order.job input text → Seen order source sink book (status.BadText line kind)
        → told_fault text ≡ Some (line, kind)
    of_bad_text text line kind part (Seen.no_memory e unfailed) = absurd (cc)
    of_bad_text text line kind part (Seen.failed takes fails e) = absurd (cc)
    of_bad_text text line kind part (Seen.long read h is e) = absurd (cc)
    of_bad_text text line kind part (Seen.faulty read h other of l k faulty e) =
        let one : line ≡ l = cc in
        let two : kind ≡ k = cc in
        let first = ap told_fault (sym (is_text order source sink book (status.BadText line kind) input given text read other part h of)) ∙ faulty.first in
        cc
    of_bad_text text line kind part (Seen.broken read h other of p p_spells k b s r breaks e) = absurd (cc)
    of_bad_text text line kind part (Seen.cut p of runs fails e) = absurd (cc)
    of_bad_text text line kind part (Seen.audit_cut is p of bytes behind written run fails e) = absurd (cc)
    of_bad_text text line kind part (Seen.ended p of ended) = absurd ended.is_end
    of_bad_text text line kind part (Seen.audit is p of bytes behind audit) = absurd (of_audit p bytes sink book (status.BadText line kind) audit)

    of_bad_program : (text : List ℕ) (has : HasText order.job input text) (program : Program) (kind behaviour step rule : ℕ) → Spells text program
        → Seen order source sink book (status.BadProgram kind behaviour step rule) → first_broken program ≡ Some (fault_at kind behaviour step rule)
    of_bad_program text has program kind behaviour step rule spells (Seen.no_memory e unfailed) = absurd (cc)
    of_bad_program text has program kind behaviour step rule spells (Seen.failed takes fails e) = absurd (cc)
    of_bad_program text has program kind behaviour step rule spells (Seen.long read h is e) = absurd (cc)
    of_bad_program text has program kind behaviour step rule spells (Seen.faulty read h other of l k faulty e) = absurd (cc)
    of_bad_program text has program kind behaviour step rule spells (Seen.broken read h other of p p_spells k b s r breaks e) =
        let one : kind ≡ k = cc in
        let two : behaviour ≡ b = cc in
        let three : step ≡ s = cc in
        let four : rule ≡ r = cc in
        let same = same_rules order source sink book (status.BadProgram kind behaviour step rule) input given text has program spells read other h of p p_spells in
        let fault : fault_at k b s r ≡ fault_at kind behaviour step rule = cc in
        cc
    of_bad_program text has program kind behaviour step rule spells (Seen.cut p of runs fails e) = absurd (cc)
    of_bad_program text has program kind behaviour step rule spells (Seen.audit_cut is p of bytes behind written run fails e) = absurd (cc)
    of_bad_program text has program kind behaviour step rule spells (Seen.ended p of ended) = absurd ended.is_end
    of_bad_program text has program kind behaviour step rule spells (Seen.audit is p of bytes behind audit) = absurd (of_audit p bytes sink book (status.BadProgram kind behaviour step rule) audit)

module _ (order : Order) (source sink : Sides) (book : BookValue) (answer : Status) (saw : Seen order source sink book answer) where
  -- what is seen, at the answer that came
  as_seen : (a : Status) → answer ≡ a → Seen order source sink book a
  as_seen a e = subst (Seen order source sink book) e saw

  comes_only : ComesOnly order source sink answer book
  comes_only = record {
    bad_words = λ e. no_bad_words order source sink book (as_seen status.BadWords e);
    read_fault = λ e. of_read_fault order source sink book (as_seen status.ReadFault e);
    too_long = λ input given e. of_too_long order source sink book input given (as_seen status.TooLong e);
    bad_text = λ input text line kind given part e. of_bad_text order source sink book input given text line kind part (as_seen (status.BadText line kind) e);
    bad_program = λ input text program kind behaviour step rule given has spells e.
        of_bad_program order source sink book input given text has program kind behaviour step rule spells (as_seen (status.BadProgram kind behaviour step rule) e);
    end = λ input text program given has spells end. of_end order source sink book answer input given text has program spells end saw;
    runs = λ end. (at_end order source sink book answer end saw).0;
    audits = λ audits. at_audit order source sink book answer audits saw;
    sound = λ end. let well = at_end order source sink book answer end saw in (well.1, well.2);
    write_fault = λ e. of_write_fault order source sink book (as_seen status.WriteFault e);
  }

  comes_wherever : ComesWherever order.job source sink answer
  comes_wherever = record {
    read_fault = λ fault. when_read_fails order source sink book answer fault saw;
    too_long = λ input given well long. when_too_long order source sink book answer input given well long saw;
    bad_text = λ input text line kind given well has fault. when_bad_text order source sink book answer input given text has line kind well fault saw;
    bad_program = λ input text program kind behaviour step rule given well has spells fault.
        when_bad_program order source sink book answer input given text has program spells kind behaviour step rule well fault saw;
    end = λ input text program runs given well able has spells kept. when_it_ends order source sink book answer input given text has program spells runs well able kept saw;
    write_fault = λ fault. sink_failed order source sink book answer fault saw;
  }

  pub caused_as_seen : OrderCauses order source sink answer book
  caused_as_seen = record {
    only = comes_only;
    wherever = comes_wherever;
    audit = λ is program bytes given. audit_caused order source sink book answer program bytes is given saw;
  }

pub order_caused : (order : Order) (source sink : Sides) (book : BookValue) (answer : Status) → Answers (Some order) source sink book answer
    → OrderCauses order source sink answer book
order_caused order source sink book answer answers = caused_as_seen order source sink book answer (see order source sink book answer answers)

-- ---- for words

of_no_order : (source sink : Sides) (book : BookValue) (answer : Status) → Answers None source sink book answer → IsUnlessMemory answer status.BadWords
of_no_order source sink book answer (Answers.bad_words none unread refuses) = inl refl
of_no_order source sink book answer (Answers.read_fault o words is_run reads fails refuses) = absurd (cc)
of_no_order source sink book answer (Answers.too_long o words input read is_long refuses) = absurd (cc)
of_no_order source sink book answer (Answers.bad_text o words input read text has line kind is refuses) = absurd (cc)
of_no_order source sink book answer (Answers.bad_program o words input read text has program spells k b s r breaks refuses) = absurd (cc)
of_no_order source sink book answer (Answers.bad_book o program bytes begins line kind is refuses) = let words = begins.words in absurd (cc)
of_no_order source sink book answer (Answers.not_a_run o program bytes begins of place cause refuted line) = let words = begins.words in absurd (cc)
of_no_order source sink book answer (Answers.audited o program bytes begins of text audited written) = let words = begins.words in absurd (cc)
of_no_order source sink book answer (Answers.audit_cut o program bytes begins of text audited is_cut) = let words = begins.words in absurd (cc)
of_no_order source sink book answer (Answers.quiet o program begins run text report hand written) = let words = begins.words in absurd (cc)
of_no_order source sink book answer (Answers.budget o program begins run text report hand written) = let words = begins.words in absurd (cc)
of_no_order source sink book answer (Answers.actors_full o program begins run a text report hand written) = let words = begins.words in absurd (cc)
of_no_order source sink book answer (Answers.rows_full o program begins run a text report hand written) = let words = begins.words in absurd (cc)
of_no_order source sink book answer (Answers.write_fault o program begins run end text report hand is_cut) = let words = begins.words in absurd (cc)
of_no_order source sink book answer (Answers.starved reads none written) = inr refl
of_no_order source sink book answer (Answers.starved_in_run o program begins run written) = inr refl
of_no_order source sink book answer (Answers.starved_in_audit o program bytes begins of written) = inr refl

no_order : (reading : Option Order) (source sink : Sides) (book : BookValue) → Answers reading source sink book status.BadWords → reading ≡ None
no_order reading source sink book (Answers.bad_words none unread refuses) = none

pub caused : (reading : Option Order) (source sink : Sides) (book : BookValue) (answer : Status) → Answers reading source sink book answer
    → Causes reading source sink answer book
caused reading source sink book answer answers = record {
  bad_words = λ none. of_no_order source sink book answer (subst (λ (r : Option Order). Answers r source sink book answer) none answers);
  bad_words_only = λ e. no_order reading source sink book (subst (Answers reading source sink book) e answers);
  ordered = λ order words. order_caused order source sink book answer (subst (λ (r : Option Order). Answers r source sink book answer) words answers);
}
