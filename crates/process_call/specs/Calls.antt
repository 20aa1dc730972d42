-- How the program exits.
use Rattle.std.specs.Prelude.{◌≡◌, ◌⊎◌, ℕ, List}
use Rattle.run_book.specs.Books.{BookValue}
use Rattle.report_text.specs.Ends.{code_of}
use Rattle.report_text.specs.declared.status.Status.{Status}
use Rattle.word_line.specs.Orders.{order_of}
use Rattle.pony_run.specs.Causes.{Causes}
use Rattle.pony_run.specs.Headline.{Answers}
use Rattle.job_input.specs.Streams.{ExitsStarved, Sides}

-- the source and the sink were called with these words, and the code is that of the answer
pub record Exits (words : List (List ℕ)) (source sink : Sides) (code : ℕ) : Type 0 where
  pub answer : Status
  pub book : BookValue
  pub answers : Answers (order_of words) source sink book answer
  pub causes : Causes (order_of words) source sink answer book
  pub exit : code ≡ code_of answer

-- there was the call, or memory was refused before it
abbrev pub ExitsUnlessStarved : List (List ℕ) → Sides → Sides → ℕ → Type 0
ExitsUnlessStarved words source sink code =
    Exits words source sink code ⊎ ExitsStarved source sink code
