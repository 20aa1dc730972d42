-- What the parts of a call do, below its promise.
use Rattle.std.specs.Prelude.{◌≡◌, ◌⊎◌, ℕ, ◌≤◌, List, [], length, Some, None}
use Rattle.std.specs.declared.option.Option.{Option}
use Rattle.run_book.specs.Books.{BookValue}
use Rattle.book_audit.specs.Verdicts.{IsRefuted}
use Rattle.report_text.specs.declared.status.Status.{Status}
use Rattle.report_text.specs.declared.status.Status.TheVariants as status
use Rattle.word_line.specs.declared.order.Order.{Order}
use Rattle.behaviour_code.specs.declared.code.Program.{Program}
use Rattle.event_rule.specs.Runs.{LeadsInOrder}
use Rattle.machine_rules.specs.Next.{next}
use Rattle.machine_rules.specs.State.{State, first_state}
use Rattle.orca_core.specs.Laws.{IsRunOf}
use Rattle.orca_core.specs.Machine.{Machine, NoneIsAway}
use Rattle.quiet_pass.specs.declared.ending.End.{End}
use Rattle.quiet_pass.specs.declared.ending.End.TheVariants as ends
use Rattle.job_input.specs.Streams.{Sides}
use Rattle.pony_run.specs.Headline.{EveryRun, IsAudited, IsCut, IsReport, IsReportOf, RunsInBlocks, Writes, WritesLine, options_in}

-- ---- no run begins

-- the refusal was answered and its line written, or else want of memory, with nothing written
abbrev pub IsTold : Status → Sides → Status → Type 0
IsTold refusal sink answer =
    ((answer ≡ refusal) × WritesLine refusal sink) ⊎ ((answer ≡ status.NoMemory) × Writes sink [])

-- the report was written whole, or in part where the sink failed
abbrev pub IsWritten : List ℕ → Status → Sides → Status → Type 0
IsWritten text end sink answer =
    ((answer ≡ end) × Writes sink text) ⊎ ((answer ≡ status.WriteFault) × IsCut sink text)

-- the refusal was told, and no book was read
abbrev pub StopsWith : Status → Sides → BookValue → Status → Type 0
StopsWith refusal sink book answer = (book.entries ≡ []) × IsTold refusal sink answer

-- the answer to a run that ended so, once its report is written; none where memory was refused
abbrev pub IsAnswerOf : End → Option Status → Type 0
IsAnswerOf ends.Quiet answer = answer ≡ Some status.Quiet
IsAnswerOf ends.Budget answer = answer ≡ Some status.Budget
IsAnswerOf (ends.Full actor) answer = answer ≡ Some (status.ActorsFull actor)
IsAnswerOf (ends.NoRows actor) answer = answer ≡ Some (status.RowsFull actor)
IsAnswerOf ends.NoMemory answer = answer ≡ None

-- ---- a run begins

-- the book is a run of the program as the order wants it, and led to this machine, which has all its
-- cells, and the blocks of that run
pub record IsUnderWay (order : Order) (program : Program) (m : Machine) (book : BookValue)
    : Type 0 where
  pub program_is : m.state.program ≡ program
  pub run : IsRunOf m book.entries
  pub options : m.state.options ≡ options_in order
  pub weight : book.weight ≡ order.weight
  pub trace : book.trace ≡ order.trace
  pub within : length book.entries ≤ order.budget
  pub home : NoneIsAway m
  pub rows : RunsInBlocks order.rows program (options_in order) book.entries m.state m.blocks
  pub in_order : order.workers ≡ 1
      → LeadsInOrder next (first_state program (options_in order)) book.entries m.state

-- the report of a run that ended so was written: whole, or in part where the sink failed, or not at
-- all where memory was refused
pub data WritesReport (end : Status) (order : Order) (book : BookValue) (s : State) (sink : Sides)
    : Status → Type 0 where
  whole : (text : List ℕ) → IsReport end order book s text → Writes sink text
      → WritesReport end order book s sink end
  cut : (text : List ℕ) → IsReport end order book s text → IsCut sink text
      → WritesReport end order book s sink status.WriteFault
  starved : Writes sink [] → WritesReport end order book s sink status.NoMemory

-- what becomes of a run of this program
pub data RunAnswers (order : Order) (program : Program) (sink : Sides) (book : BookValue)
    : Status → Type 0 where
  ended : (run : EveryRun order program book) (end : Status) (text : List ℕ)
      → IsReportOf end run text → Writes sink text → RunAnswers order program sink book end
  cut : (run : EveryRun order program book) (end : Status) (text : List ℕ)
      → IsReportOf end run text → IsCut sink text
      → RunAnswers order program sink book status.WriteFault
  starved : EveryRun order program book → Writes sink []
      → RunAnswers order program sink book status.NoMemory

-- ---- an audit begins

-- the report of an audit was written: whole, or in part where the sink failed, or not at all where
-- memory was refused
pub data WritesAudit (program : Program) (book : BookValue) (sink : Sides) : Status → Type 0 where
  whole : (text : List ℕ) → IsAudited program book text → Writes sink text
      → WritesAudit program book sink status.Audited
  cut : (text : List ℕ) → IsAudited program book text → IsCut sink text
      → WritesAudit program book sink status.WriteFault
  starved : Writes sink [] → WritesAudit program book sink status.NoMemory

-- what becomes of an audit of this book
pub data AuditAnswers (program : Program) (book : BookValue) (sink : Sides) (answer : Status)
    : Type 0 where
  refuted : (place cause : ℕ) → IsRefuted program book place cause
      → WritesLine (status.NotARun place cause) sink → answer ≡ status.NotARun place cause
      → AuditAnswers program book sink answer
  followed : WritesAudit program book sink answer → AuditAnswers program book sink answer
  starved : Writes sink [] → answer ≡ status.NoMemory → AuditAnswers program book sink answer
