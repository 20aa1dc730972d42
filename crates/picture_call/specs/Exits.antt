-- How the program exits that draws a book.
use Rattle.std.specs.Prelude.{◌≡◌, ℕ, List, [], ◌∷◌, Some, None}
use Rattle.std.specs.declared.option.Option.{Option}
use Rattle.run_book.specs.Books.{BookValue}
use Rattle.report_text.specs.Ends.{code_of}
use Rattle.report_text.specs.declared.status.Status.{Status}
use Rattle.word_line.specs.Orders.{audit_order}
use Rattle.word_line.specs.declared.order.Order.{Order}
use Rattle.pony_run.specs.Causes.{Causes}
use Rattle.job_input.specs.Streams.{Sides}
use Rattle.picture_call.specs.Drawing.{PictureAnswers}

-- no words ask for what `audit` asks for; others have no reading
abbrev pub picture_order : List (List ℕ) → Option Order
picture_order [] = Some audit_order
picture_order (word ∷ words) = None

-- the source and the sink were called with these words, and the code is that of the answer
pub record PictureExits (words : List (List ℕ)) (source sink : Sides) (code : ℕ) : Type 0 where
  pub answer : Status
  pub book : BookValue
  pub answers : PictureAnswers (picture_order words) source sink book answer
  pub causes : Causes (picture_order words) source sink answer book
  pub exit : code ≡ code_of answer
