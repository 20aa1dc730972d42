-- When each answer comes: only where its cause is there, and wherever it is there and no cause before
-- it. Want of memory alone is free.
use Rattle.std.specs.Prelude.{◌≡◌, ◌≢◌, ◌⊎◌, ◌<◌, ℕ, List, length, take, Some, None, ⊤}
use Rattle.std.specs.declared.option.Option.{Option}
use Rattle.run_book.specs.Books.{BookValue}
use Rattle.run_book.specs.Reading.{IsBookText, IsFirstFault}
use Rattle.run_book.specs.Splits.{IsSplit}
use Rattle.book_audit.specs.Verdicts.{IsARun, IsRefuted}
use Rattle.load_maker.specs.Loads.{load_text}
use Rattle.word_line.specs.declared.order.Job.{Job}
use Rattle.word_line.specs.declared.order.Job.TheVariants.{Load, Audit}
use Rattle.word_line.specs.declared.order.Order.{Order}
use Rattle.report_text.specs.Ends.{IsEnd}
use Rattle.report_text.specs.Refusals.{HasRefusal}
use Rattle.report_text.specs.declared.status.Status.{Status}
use Rattle.report_text.specs.declared.status.Status.TheVariants as status
use Rattle.behaviour_code.specs.declared.code.Program.{Program}
use Rattle.behaviour_text.specs.Faults.{told_fault}
use Rattle.behaviour_check.specs.Rules.{fault_at, first_broken}
use Rattle.job_input.specs.Inputs.{HasText, IsProgramText, RunsProgram, Spells, TakesInput}
use Rattle.pony_run.specs.Headline.{EndsWith, EveryRun}
use Rattle.job_input.specs.Streams.{CountsFault, CountsNoFault, HasFailed, Sides, most_bytes}

-- this answer, or want of memory
abbrev pub IsUnlessMemory : Status → Status → Type 0
IsUnlessMemory answer wanted = (answer ≡ wanted) ⊎ (answer ≡ status.NoMemory)

-- the source tells that this input is to be taken
pub record Tells (source : Sides) (input : List ℕ) : Type 0 where
  pub all : List ℕ
  pub told : source.before ≡ Some all
  pub taken : input ≡ take most_bytes all

-- the input that is given for the job: what the source tells, or the text of the load program
abbrev pub IsGiven : Job → Sides → List ℕ → Type 0
IsGiven (Load count) source input = input ≡ load_text count
IsGiven other source input = Tells source input

-- no read failed, where the job reads
abbrev pub ReadsWell : Job → Sides → Type 0
ReadsWell (Load count) source = ⊤
ReadsWell other source = ¬ HasFailed source

-- an answer to an audit, once its program is checked
abbrev pub IsOfAudit : Status → Type 0
IsOfAudit (status.BadBook line kind) = ⊤
IsOfAudit (status.NotARun place cause) = ⊤
IsOfAudit status.Audited = ⊤
IsOfAudit other = ⊥

-- each answer to an order comes only where its cause is there
pub record ComesOnly (order : Order) (source sink : Sides) (answer : Status) (book : BookValue)
    : Type 0 where
  pub bad_words : answer ≢ status.BadWords
  pub read_fault : answer ≡ status.ReadFault → TakesInput order.job × HasFailed source
  pub too_long : (input : List ℕ) → IsGiven order.job source input → answer ≡ status.TooLong
      → length input ≡ most_bytes
  pub bad_text : (input text : List ℕ) (line kind : ℕ) → IsGiven order.job source input
      → IsProgramText order.job input text → answer ≡ status.BadText line kind
      → told_fault text ≡ Some (line, kind)
  pub bad_program : (input text : List ℕ) (program : Program) (kind behaviour step rule : ℕ)
      → IsGiven order.job source input → HasText order.job input text → Spells text program →
      answer ≡ status.BadProgram kind behaviour step rule
      → first_broken program ≡ Some (fault_at kind behaviour step rule)
  pub end : (input text : List ℕ) (program : Program) → IsGiven order.job source input
      → HasText order.job input text → Spells text program → IsEnd answer →
      (first_broken program ≡ None)
      × (run : EveryRun order program book) × EndsWith answer run.state run.blocks book.entries order.budget
  pub runs : IsEnd answer → RunsProgram order.job
  pub audits : IsOfAudit answer → order.job ≡ Audit
  -- a run's end comes only where no read and no write failed
  pub sound : IsEnd answer → CountsNoFault source × CountsNoFault sink
  pub write_fault : answer ≡ status.WriteFault → HasFailed sink

-- where a cause is there and none before it, its answer comes, unless memory was refused
pub record ComesWherever (job : Job) (source sink : Sides) (answer : Status) : Type 0 where
  pub read_fault : CountsFault source → IsUnlessMemory answer status.ReadFault
  pub too_long : (input : List ℕ) → IsGiven job source input → ReadsWell job source
      → length input ≡ most_bytes → IsUnlessMemory answer status.TooLong
  pub bad_text : (input text : List ℕ) (line kind : ℕ) → IsGiven job source input
      → ReadsWell job source → HasText job input text →
      told_fault text ≡ Some (line, kind) → IsUnlessMemory answer (status.BadText line kind)
  pub bad_program : (input text : List ℕ) (program : Program) (kind behaviour step rule : ℕ)
      → IsGiven job source input → ReadsWell job source → HasText job input text
      → Spells text program →
      first_broken program ≡ Some (fault_at kind behaviour step rule)
      → IsUnlessMemory answer (status.BadProgram kind behaviour step rule)
  pub end : (input text : List ℕ) (program : Program) → RunsProgram job → IsGiven job source input
      → ReadsWell job source → ¬ HasFailed sink → HasText job input text → Spells text program →
      first_broken program ≡ None → IsEnd answer ⊎ (answer ≡ status.NoMemory)
  -- where the sink failed, it was at a report, or at the line of a refusal, which stands
  pub write_fault : CountsFault sink → (answer ≡ status.WriteFault) ⊎ HasRefusal answer

-- what is given for an audit, and no read failed: the text of this program, which keeps the rules, and
-- behind it these bytes
pub record IsGivenAudit (source : Sides) (program : Program) (bytes : List ℕ) : Type 0 where
  pub input : List ℕ
  pub given : Tells source input
  pub well : ¬ HasFailed source
  pub short : length input < most_bytes
  pub text : List ℕ
  pub behind : IsSplit input text bytes
  pub spells : Spells text program
  pub kept : first_broken program ≡ None

-- when each answer to an audit comes, where its program keeps the rules: only where its cause is there,
-- and wherever it is, unless memory was refused
pub record AuditCauses (sink : Sides) (answer : Status) (program : Program) (bytes : List ℕ)
    : Type 0 where
  pub bad_book_only : (line kind : ℕ) → answer ≡ status.BadBook line kind
      → IsFirstFault bytes line kind
  pub bad_book : (line kind : ℕ) → IsFirstFault bytes line kind
      → IsUnlessMemory answer (status.BadBook line kind)
  pub not_a_run_only : (book : BookValue) (place cause : ℕ) → IsBookText bytes book
      → answer ≡ status.NotARun place cause → IsRefuted program book place cause
  pub not_a_run : (book : BookValue) (place cause : ℕ) → IsBookText bytes book
      → IsRefuted program book place cause → IsUnlessMemory answer (status.NotARun place cause)
  pub audited_only : (book : BookValue) → IsBookText bytes book → answer ≡ status.Audited
      → IsARun program book × CountsNoFault sink
  pub audited : (book : BookValue) → IsBookText bytes book → IsARun program book → ¬ HasFailed sink
      → IsUnlessMemory answer status.Audited
  -- one of these comes, unless the sink failed or memory was refused
  pub one_comes : ¬ HasFailed sink → IsOfAudit answer ⊎ (answer ≡ status.NoMemory)

-- when each answer to an order comes
pub record OrderCauses (order : Order) (source sink : Sides) (answer : Status) (book : BookValue)
    : Type 0 where
  pub only : ComesOnly order source sink answer book
  pub wherever : ComesWherever order.job source sink answer
  pub audit : order.job ≡ Audit → (program : Program) (bytes : List ℕ)
      → IsGivenAudit source program bytes → AuditCauses sink answer program bytes

-- when each answer to words of this reading comes
pub record Causes (reading : Option Order) (source sink : Sides) (answer : Status) (book : BookValue)
    : Type 0 where
  pub bad_words : reading ≡ None → IsUnlessMemory answer status.BadWords
  pub bad_words_only : answer ≡ status.BadWords → reading ≡ None
  pub ordered : (order : Order) → reading ≡ Some order
      → OrderCauses order source sink answer book
