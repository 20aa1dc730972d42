-- What a call that draws a book promises.
--
-- It answers as the audit of that book does (`Answers` of `pony_run`), but of a run it writes the picture, and
-- not the report.
use Rattle.std.specs.Prelude.{◌≡◌, ◌⊎◌, ℕ, List}
use Rattle.std.specs.declared.option.Option.{Option}
use Rattle.run_book.specs.Books.{BookValue, options_of_book}
use Rattle.run_book.specs.Reading.{IsBookText}
use Rattle.report_text.specs.Refusals.{HasRefusal}
use Rattle.report_text.specs.declared.status.Status.{Status}
use Rattle.report_text.specs.declared.status.Status.TheVariants as status
use Rattle.word_line.specs.declared.order.Order.{Order}
use Rattle.behaviour_code.specs.declared.code.Program.{Program}
use Rattle.machine_rules.specs.Run.{IsRun}
use Rattle.machine_rules.specs.State.{State}
use Rattle.picture_rules.specs.Pictures.{IsPicture}
use Rattle.pony_run.specs.Headline.{Answers, BeginsAudit, IsCut, Writes}
use Rattle.pony_run.specs.Inner.{AuditAnswers, IsWritten}
use Rattle.job_input.specs.Streams.{Sides}

-- nothing is drawn: a refusal is answered, or want of memory
abbrev pub DrawsNothing : Status → Type 0
DrawsNothing answer = HasRefusal answer ⊎ (answer ≡ status.NoMemory)

-- the book is a run of the program, and this is its picture
pub record IsDrawn (program : Program) (book : BookValue) (text : List ℕ) : Type 0 where
  pub state : State
  pub run : IsRun program (options_of_book book) book.entries state
  pub picture : IsPicture program (options_of_book book) book.entries state text

-- what a call that draws does whose words have this reading, for each answer
pub data PictureAnswers (reading : Option Order) (source sink : Sides) (book : BookValue)
    : Status → Type 0 where
  -- a refusal, or want of memory: all is as at an audit
  nothing : (answer : Status) → DrawsNothing answer → Answers reading source sink book answer
      → PictureAnswers reading source sink book answer
  -- the book is a run of the program, and its picture was written
  drawn : (order : Order) (program : Program) (bytes : List ℕ)
      → BeginsAudit reading source order program bytes → IsBookText bytes book
      → (text : List ℕ) → IsDrawn program book text
      → Writes sink text → PictureAnswers reading source sink book status.Audited
  -- it is, and the sink failed while its picture was written
  cut : (order : Order) (program : Program) (bytes : List ℕ)
      → BeginsAudit reading source order program bytes → IsBookText bytes book
      → (text : List ℕ) → IsDrawn program book text
      → IsCut sink text → PictureAnswers reading source sink book status.WriteFault

-- what becomes of a book that is to be drawn: nothing, as its audit answers, or its picture is written,
-- whole, or in part where the sink failed
pub data DrawAnswers (program : Program) (book : BookValue) (sink : Sides) (answer : Status)
    : Type 0 where
  nothing : DrawsNothing answer → AuditAnswers program book sink answer
      → DrawAnswers program book sink answer
  drawn : (text : List ℕ) → IsDrawn program book text → IsWritten text status.Audited sink answer
      → DrawAnswers program book sink answer
