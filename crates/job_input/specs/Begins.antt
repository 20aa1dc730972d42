-- What begins with the input of a job, or why nothing does.
use Rattle.std.specs.Prelude.{◌≡◌, ◌⊎◌, ℕ, ◌<◌, ◌≤◌, List, length, Some, None, ⊤}
use Rattle.run_book.specs.Books.{BookValue}
use Rattle.run_book.specs.Reading.{IsBookText}
use Rattle.run_book.specs.Splits.{IsSplit}
use Rattle.report_text.specs.declared.status.Status.{Status}
use Rattle.report_text.specs.declared.status.Status.TheVariants as status
use Rattle.word_line.specs.declared.order.Job.{Job}
use Rattle.word_line.specs.declared.order.Job.TheVariants.{Audit}
use Rattle.behaviour_code.specs.declared.code.Program.{Program}
use Rattle.behaviour_check.specs.Rules.{fault_at, first_broken}
use Rattle.orca_names.specs.declared.limits.TheConstants.{BOOK_LIMIT}
use Rattle.job_input.specs.Streams.{HasFailed, Sides, most_bytes}
use Rattle.job_input.specs.Inputs.{HasText, IsFaulty, IsInput, IsNoBook, Reads, ReadsFor, RunsProgram, Spells, TakesInput}
use Rattle.job_input.specs.declared.beginning.Begun.{Begun}
use Rattle.job_input.specs.declared.beginning.Begun.TheVariants as begun

-- why no input came
abbrev pub IsReadStop : Status → Job → Sides → Type 0
IsReadStop status.ReadFault job source = TakesInput job × Reads source × HasFailed source
IsReadStop status.NoMemory job source = ReadsFor job source
IsReadStop other job source = ⊥

-- the answer tells the rule that the program breaks
abbrev pub BreaksRule : Status → Program → Type 0
BreaksRule (status.BadProgram kind behaviour step rule) program =
    first_broken program ≡ Some (fault_at kind behaviour step rule)
BreaksRule other program = ⊥

-- why the text gives no program that keeps the rules
abbrev pub IsTextStop : Status → List ℕ → Type 0
IsTextStop (status.BadText line kind) text = IsFaulty text line kind
IsTextStop (status.BadProgram kind behaviour step rule) text =
    (program : Program) × Spells text program
    × (first_broken program ≡ Some (fault_at kind behaviour step rule))
IsTextStop status.NoMemory text = ⊤
IsTextStop other text = ⊥

-- why the bytes give no book
abbrev pub IsBookStop : Status → List ℕ → Type 0
IsBookStop (status.BadBook line kind) bytes = IsNoBook bytes line kind
IsBookStop status.NoMemory bytes = ⊤
IsBookStop other bytes = ⊥

-- the text gives this program, which keeps the rules
pub record IsRunnable (text : List ℕ) (program : Program) : Type 0 where
  pub spells : Spells text program
  pub kept : first_broken program ≡ None

-- the input of an audit has this text of a program, and behind it these bytes
pub record HasBehind (input text bytes : List ℕ) : Type 0 where
  pub short : length input < most_bytes
  pub behind : IsSplit input text bytes

-- why nothing begins with this input of a job
pub data InputStops (job : Job) (input : List ℕ) (stop : Status) : Type 0 where
  long : length input ≡ most_bytes → stop ≡ status.TooLong → InputStops job input stop
  at_text : (text : List ℕ) → HasText job input text → IsTextStop stop text
      → InputStops job input stop
  at_book : job ≡ Audit → (text bytes : List ℕ) → HasBehind input text bytes
      → (program : Program) → IsRunnable text program → IsBookStop stop bytes
      → InputStops job input stop

-- the input came, but nothing begins with it
pub record IsInputStop (stop : Status) (job : Job) (source : Sides) : Type 0 where
  pub input : List ℕ
  pub read : IsInput job source input
  pub stops : InputStops job input stop

-- why nothing begins for the job
abbrev pub IsStop : Status → Job → Sides → Type 0
IsStop stop job source = IsReadStop stop job source ⊎ IsInputStop stop job source

-- what begins with this input of a job: the run of a program, or the audit of a book
pub record BeginsRun (job : Job) (input : List ℕ) (program : Program) : Type 0 where
  pub runs : RunsProgram job
  pub text : List ℕ
  pub has : HasText job input text
  pub runnable : IsRunnable text program

pub record BeginsBook (job : Job) (input : List ℕ) (program : Program) (book : BookValue)
    : Type 0 where
  pub audits : job ≡ Audit
  pub text : List ℕ
  pub bytes : List ℕ
  pub has : HasBehind input text bytes
  pub runnable : IsRunnable text program
  pub book_text : IsBookText bytes book
  pub few : length book.entries ≤ BOOK_LIMIT

abbrev pub IsBegun : Job → List ℕ → Begun → Type 0
IsBegun job input (begun.Run program) = BeginsRun job input program
IsBegun job input (begun.Audit program book) = BeginsBook job input program book

-- this is begun for the job
pub record GivesBegun (job : Job) (source : Sides) (begun : Begun) : Type 0 where
  pub input : List ℕ
  pub read : IsInput job source input
  pub begins : IsBegun job input begun
