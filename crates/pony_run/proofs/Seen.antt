-- An answer to an order, by the first cause that was there.
use Rattle.std.proofs.Common.{◌≡◌, ℕ, List, length, Some, None, refl, sym, subst}
use Rattle.std.specs.declared.option.Option.{Option}
use Rattle.run_book.specs.Books.{BookValue}
use Rattle.run_book.specs.Reading.{IsBookText}
use Rattle.run_book.specs.Splits.{IsSplit}
use Rattle.book_audit.specs.Verdicts.{IsARun, IsRefuted}
use Rattle.report_text.specs.Ends.{IsEnd}
use Rattle.report_text.specs.declared.status.Status.{Status}
use Rattle.report_text.specs.declared.status.Status.TheVariants as status
use Rattle.word_line.specs.declared.order.Job.{Job}
use Rattle.word_line.specs.declared.order.Job.TheVariants.{Audit}
use Rattle.word_line.specs.declared.order.Order.{Order}
use Rattle.behaviour_code.specs.declared.code.Program.{Program}
use Rattle.behaviour_check.specs.Rules.{fault_at, first_broken}
use Rattle.pony_run.specs.Causes.{IsOfAudit}
use Rattle.job_input.specs.Inputs.{HasText, IsFaulty, IsInput, IsNoBook, IsProgramText, RunsProgram, Spells, TakesInput}
use Rattle.pony_run.specs.Headline.{Answers, Begins, BeginsAudit, EndsWith, EveryRun}
use Rattle.job_input.specs.Streams.{CountsNoFault, HasFailed, Sides, most_bytes}

-- the program of an order, which keeps the rules
pub record HasProgram (order : Order) (source : Sides) (program : Program) : Type 0 where
  pub input : List ℕ
  pub read : IsInput order.job source input
  pub text : List ℕ
  pub has : HasText order.job input text
  pub spells : Spells text program
  pub kept : first_broken program ≡ None

-- the run ended so, and no write failed
pub record HasEnded (order : Order) (sink : Sides) (book : BookValue) (program : Program) (answer : Status) : Type 0 where
  pub runs : RunsProgram order.job
  pub run : EveryRun order program book
  pub is_end : IsEnd answer
  pub ends : EndsWith answer run.state run.blocks book.entries order.budget
  pub well : CountsNoFault sink

-- what an audit of these bytes found
pub data AuditSeen (program : Program) (bytes : List ℕ) (sink : Sides) (book : BookValue) (answer : Status) : Type 0 where
  no_book : (line kind : ℕ) → IsNoBook bytes line kind → answer ≡ status.BadBook line kind → AuditSeen program bytes sink book answer
  refuted : IsBookText bytes book → (place cause : ℕ) → IsRefuted program book place cause → answer ≡ status.NotARun place cause → AuditSeen program bytes sink book answer
  audited : IsBookText bytes book → IsARun program book → CountsNoFault sink → answer ≡ status.Audited → AuditSeen program bytes sink book answer

pub data Seen (order : Order) (source sink : Sides) (book : BookValue) (answer : Status) : Type 0 where
  no_memory : answer ≡ status.NoMemory → CountsNoFault sink → Seen order source sink book answer
  failed : TakesInput order.job → HasFailed source → answer ≡ status.ReadFault → Seen order source sink book answer
  long : (input : List ℕ) → IsInput order.job source input → length input ≡ most_bytes → answer ≡ status.TooLong → Seen order source sink book answer
  faulty : (input : List ℕ) → IsInput order.job source input → (text : List ℕ) → HasText order.job input text → (line kind : ℕ) → IsFaulty text line kind
      → answer ≡ status.BadText line kind → Seen order source sink book answer
  broken : (input : List ℕ) → IsInput order.job source input → (text : List ℕ) → HasText order.job input text → (program : Program) → Spells text program
      → (kind behaviour step rule : ℕ) → first_broken program ≡ Some (fault_at kind behaviour step rule) → answer ≡ status.BadProgram kind behaviour step rule
      → Seen order source sink book answer
  cut : (program : Program) → HasProgram order source program → RunsProgram order.job → HasFailed sink → answer ≡ status.WriteFault → Seen order source sink book answer
  ended : (program : Program) → HasProgram order source program → HasEnded order sink book program answer → Seen order source sink book answer
  audit : order.job ≡ Audit → (program : Program) (has : HasProgram order source program) (bytes : List ℕ) → IsSplit has.input has.text bytes
      → AuditSeen program bytes sink book answer → Seen order source sink book answer
  audit_cut : order.job ≡ Audit → (program : Program) (has : HasProgram order source program) (bytes : List ℕ) → IsSplit has.input has.text bytes
      → IsBookText bytes book → IsARun program book → HasFailed sink → answer ≡ status.WriteFault → Seen order source sink book answer

-- an audit's answer is one of an audit
pub of_audit : (program : Program) (bytes : List ℕ) (sink : Sides) (book : BookValue) (answer : Status) → AuditSeen program bytes sink book answer → IsOfAudit answer
of_audit program bytes sink book answer (AuditSeen.no_book line kind fault e) = subst IsOfAudit (sym e) tt
of_audit program bytes sink book answer (AuditSeen.refuted of place cause wrong e) = subst IsOfAudit (sym e) tt
of_audit program bytes sink book answer (AuditSeen.audited of run well e) = subst IsOfAudit (sym e) tt

-- the order of the words is this one
same_order : (o order : Order) → ◌≡◌ {A = Option Order} (Some order) (Some o) → o ≡ order
same_order o order h = cc

module _ (order : Order) (source sink : Sides) (book : BookValue) where
  -- what is seen of the order of the words is seen of this one
  seen_of : (o : Order) (answer : Status) → ◌≡◌ {A = Option Order} (Some order) (Some o) → Seen o source sink book answer → Seen order source sink book answer
  seen_of o answer words h = subst (λ (x : Order). Seen x source sink book answer) (same_order o order words) h

  has_program : (o : Order) (program : Program) → Begins (Some order) source o program → HasProgram o source program
  has_program o program b = record { input = b.input; read = b.read; text = b.text; has = b.has; spells = b.spells; kept = b.kept }

  has_audited : (o : Order) (program : Program) (bytes : List ℕ) → BeginsAudit (Some order) source o program bytes → HasProgram o source program
  has_audited o program bytes b = record {
    input = b.input;
    read = b.read;
    text = b.text;
    has = record { short = b.short; part = subst (λ (job : Job). IsProgramText job b.input b.text) (sym b.audits) (bytes, b.behind) };
    spells = b.spells;
    kept = b.kept;
  }

  pub see_audit : (o : Order) (program : Program) (bytes : List ℕ) (answer : Status) → BeginsAudit (Some order) source o program bytes → AuditSeen program bytes sink book answer
      → Seen order source sink book answer
  unfolding has_audited
  see_audit o program bytes answer b seen = seen_of o answer b.words (Seen.audit b.audits program (has_audited o program bytes b) bytes b.behind seen)

  pub see_audit_cut : (o : Order) (program : Program) (bytes : List ℕ) → BeginsAudit (Some order) source o program bytes → IsBookText bytes book → IsARun program book
      → HasFailed sink → Seen order source sink book status.WriteFault
  unfolding has_audited
  see_audit_cut o program bytes b of run fails =
      seen_of o status.WriteFault b.words (Seen.audit_cut b.audits program (has_audited o program bytes b) bytes b.behind of run fails refl)

  see_end : (o : Order) (program : Program) (answer : Status) (b : Begins (Some order) source o program) (run : EveryRun o program book) → IsEnd answer
      → EndsWith answer run.state run.blocks book.entries o.budget → CountsNoFault sink → Seen order source sink book answer
  see_end o program answer b run is_end ends well =
      seen_of o answer b.words (Seen.ended program (has_program o program b) (record { runs = b.runs; run = run; is_end = is_end; ends = ends; well = well }))

  pub see : (answer : Status) → Answers (Some order) source sink book answer → Seen order source sink book answer
  see answer (Answers.bad_words none unread refuses) = absurd (cc)
  see answer (Answers.read_fault o words takes reads fails refuses) = seen_of o answer words (Seen.failed takes fails refl)
  see answer (Answers.too_long o words input read is_long refuses) = seen_of o answer words (Seen.long input read is_long refl)
  see answer (Answers.bad_text o words input read text has line kind fault refuses) = seen_of o answer words (Seen.faulty input read text has line kind fault refl)
  see answer (Answers.bad_program o words input read text has program spells k b s r breaks refuses) =
      seen_of o answer words (Seen.broken input read text has program spells k b s r breaks refl)
  see answer (Answers.bad_book o program bytes begins line kind fault refuses) = see_audit o program bytes answer begins (AuditSeen.no_book line kind fault refl)
  see answer (Answers.not_a_run o program bytes begins of place cause wrong line) = see_audit o program bytes answer begins (AuditSeen.refuted of place cause wrong refl)
  see answer (Answers.audited o program bytes begins of text right written) =
      see_audit o program bytes answer begins (AuditSeen.audited of (right.state, right.run) written.well refl)
  see answer (Answers.audit_cut o program bytes begins of text right is_cut) = see_audit_cut o program bytes begins of (right.state, right.run) is_cut.failed
  see answer (Answers.quiet o program begins run text report hand written) = see_end o program answer begins run tt report.ends written.well
  see answer (Answers.budget o program begins run text report hand written) = see_end o program answer begins run tt report.ends written.well
  see answer (Answers.actors_full o program begins run a text report hand written) = see_end o program answer begins run tt report.ends written.well
  see answer (Answers.rows_full o program begins run a text report hand written) = see_end o program answer begins run tt report.ends written.well
  see answer (Answers.write_fault o program begins run end text report hand is_cut) =
      seen_of o answer begins.words (Seen.cut program (has_program o program begins) begins.runs is_cut.failed refl)
  see answer (Answers.starved reads none written) = Seen.no_memory refl written.well
  see answer (Answers.starved_in_run o program begins run written) = Seen.no_memory refl written.well
  see answer (Answers.starved_in_audit o program bytes begins of written) = Seen.no_memory refl written.well
