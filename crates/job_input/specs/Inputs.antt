-- What a job takes as its input.
use Rattle.std.specs.Prelude.{◌≡◌, ℕ, ◌<◌, ◌≤◌, List, length, Some, ⊤}
use Rattle.run_book.specs.Books.{BookValue}
use Rattle.run_book.specs.Reading.{IsBookText, IsFirstFault}
use Rattle.run_book.specs.Splits.{IsSplit}
use Rattle.load_maker.specs.Loads.{load_text}
use Rattle.word_line.specs.declared.order.Job.{Job}
use Rattle.word_line.specs.declared.order.Job.TheVariants.{Load, Audit}
use Rattle.behaviour_code.specs.WellFormed.{IsWellFormed}
use Rattle.behaviour_code.specs.declared.code.Program.{Program}
use Rattle.behaviour_text.specs.Faults.{told_fault}
use Rattle.behaviour_text.specs.Text.{IsText}
use Rattle.outside_world.specs.Pieces.{TakesAll, TakesPart}
use Rattle.job_input.specs.Streams.{CountsNoFault, IsUntouched, Sides, most_bytes}

-- the source was read, if at all, from where it stood, and its count of faults did not fall
pub record Reads (source : Sides) : Type 0 where
  pub part : TakesPart source.before source.after
  pub stays : source.faults_before ≤ source.faults_after

-- the job takes its input from the source; `load` makes its own
abbrev pub TakesInput : Job → Type 0
TakesInput (Load count) = ⊥
TakesInput other = ⊤

-- what is read, however the call ends: for `load` nothing
abbrev pub ReadsFor : Job → Sides → Type 0
ReadsFor (Load count) source = IsUntouched source
ReadsFor other source = Reads source

-- the input: for `load` the text of its program, and nothing was read; for the rest all that the
-- source had left, or the first of it where there is more than a text may have, and no read failed
abbrev pub IsInput : Job → Sides → List ℕ → Type 0
IsInput (Load count) source input = IsUntouched source × (input ≡ load_text count)
IsInput other source input = CountsNoFault source × TakesAll most_bytes source.before source.after input

-- the program's text: for `audit` what stands in the input before the book, for the rest all of it
abbrev pub IsProgramText : Job → (input text : List ℕ) → Type 0
IsProgramText Audit input text = (book : List ℕ) × IsSplit input text book
IsProgramText other input text = text ≡ input

-- the input is not too long, and this is the program's text in it
pub record HasText (job : Job) (input text : List ℕ) : Type 0 where
  pub short : length input < most_bytes
  pub part : IsProgramText job input text

-- the text is that of this program
pub record Spells (text : List ℕ) (program : Program) : Type 0 where
  pub says : IsText text program
  pub good : IsWellFormed program

-- the text is that of no program, and this is its first fault
pub record IsFaulty (text : List ℕ) (line kind : ℕ) : Type 0 where
  pub first : told_fault text ≡ Some (line, kind)
  pub no_program : (program : Program) → IsText text program → ¬ IsWellFormed program

-- the job runs a program; `audit` follows a book
abbrev pub RunsProgram : Job → Type 0
RunsProgram Audit = ⊥
RunsProgram other = ⊤

-- the bytes are no book's text, and this is their first fault
pub record IsNoBook (bytes : List ℕ) (line kind : ℕ) : Type 0 where
  pub first : IsFirstFault bytes line kind
  pub no_book : (book : BookValue) → ¬ IsBookText bytes book
