-- From what the parts of a call that draws do to its answer, and when each answer comes.
use Rattle.std.proofs.Common.{◌≡◌, ◌≤◌, inl, inr, ℕ, List, [], ◌∷◌, length, Some, None, refl, sym, subst, arith}
use Rattle.std.specs.declared.option.Option.{Option}
use Rattle.run_book.specs.Books.{BookValue}
use Rattle.book_audit.specs.Verdicts.{IsRefuted}
use Rattle.report_text.specs.Ends.{code_of}
use Rattle.report_text.specs.Refusals.{HasRefusal}
use Rattle.report_text.specs.declared.status.Status.{Status}
use Rattle.report_text.specs.declared.status.Status.TheVariants as status
use Rattle.word_line.specs.Orders.{audit_order}
use Rattle.word_line.specs.declared.order.Job.{Job}
use Rattle.word_line.specs.declared.order.Order.{Order}
use Rattle.behaviour_code.specs.declared.code.Program.{Program}
use Rattle.job_input.specs.Begins.{GivesBegun, InputStops, IsBookStop, IsReadStop, IsStop, IsTextStop}
use Rattle.job_input.specs.Streams.{IsUntouched, Sides}
use Rattle.job_input.specs.declared.beginning.Begun.{Begun}
use Rattle.job_input.specs.declared.beginning.Begun.TheVariants as begun
use Rattle.pony_run.specs.Causes.{OrderCauses}
use Rattle.pony_run.specs.Headline.{Answers}
use Rattle.pony_run.specs.Inner.{IsTold, StopsWith}
use Rattle.pony_run.proofs.Answering.{audit_begun, audit_of_begun, stop_answers, told_refuted}
use Rattle.pony_run.proofs.Caused.{caused, caused_as_seen}
use Rattle.pony_run.proofs.Seen.{AuditSeen, Seen, see, see_audit, see_audit_cut}
use Rattle.picture_call.specs.Drawing.{DrawAnswers, DrawsNothing, PictureAnswers}
use Rattle.picture_call.specs.Exits.{PictureExits}

-- ---- where nothing is drawn

-- what is told of an answer without a picture is one
told_nothing : (refusal answer : Status) (sink : Sides) → DrawsNothing refusal → IsTold refusal sink answer → DrawsNothing answer
told_nothing refusal answer sink none (inl h) = subst DrawsNothing (sym h.0) none
told_nothing refusal answer sink none (inr h) = inr h.0

pub refuted_answers : (program : Program) (book : BookValue) (sink : Sides) (place cause : ℕ) (answer : Status) → IsRefuted program book place cause
    → IsTold (status.NotARun place cause) sink answer → DrawAnswers program book sink answer
refuted_answers program book sink place cause answer refuted told =
    DrawAnswers.nothing (told_nothing (status.NotARun place cause) answer sink (inl tt) told) (told_refuted program book sink place cause answer refuted told)

-- why nothing begins is a refusal, or want of memory
read_stops : (stop : Status) (job : Job) (source : Sides) → IsReadStop stop job source → DrawsNothing stop
read_stops status.ReadFault job source h = inl tt
read_stops status.NoMemory job source h = inr refl
read_stops stop job source h = absurd h

text_stops : (stop : Status) (text : List ℕ) → IsTextStop stop text → DrawsNothing stop
text_stops (status.BadText line kind) text h = inl tt
text_stops (status.BadProgram kind behaviour step rule) text h = inl tt
text_stops status.NoMemory text h = inr refl
text_stops stop text h = absurd h

book_stops : (stop : Status) (bytes : List ℕ) → IsBookStop stop bytes → DrawsNothing stop
book_stops (status.BadBook line kind) bytes h = inl tt
book_stops status.NoMemory bytes h = inr refl
book_stops stop bytes h = absurd h

input_stops : (stop : Status) (job : Job) (input : List ℕ) → InputStops job input stop → DrawsNothing stop
input_stops stop job input (InputStops.long is_long e) = inl (subst HasRefusal (sym e) tt)
input_stops stop job input (InputStops.at_text text has h) = text_stops stop text h
input_stops stop job input (InputStops.at_book audits text bytes has program runnable h) = book_stops stop bytes h

stops : (stop : Status) (job : Job) (source : Sides) → IsStop stop job source → DrawsNothing stop
stops stop job source (inl h) = read_stops stop job source h
stops stop job source (inr h) = input_stops stop job h.input h.stops

pub stopped_answers : (source sink : Sides) (book : BookValue) (stop answer : Status) → IsStop stop audit_order.job source → StopsWith stop sink book answer
    → PictureAnswers (Some audit_order) source sink book answer
stopped_answers source sink book stop answer is stopped =
    PictureAnswers.nothing answer (told_nothing stop answer sink (stops stop audit_order.job source is) stopped.1)
    (stop_answers (Some audit_order) audit_order source sink book refl stop answer is stopped)

-- ---- where a book is audited

pub draw_begun : (source sink : Sides) (program : Program) (book : BookValue) (answer : Status) (b : Begun) → b ≡ begun.Audit program book
    → GivesBegun audit_order.job source b → DrawAnswers program book sink answer → PictureAnswers (Some audit_order) source sink book answer
draw_begun source sink program book answer b is h (DrawAnswers.nothing none audited) =
    PictureAnswers.nothing answer none (audit_begun audit_order source sink program book book answer b is h refl audited)
draw_begun source sink program book answer b is h (DrawAnswers.drawn text drawn (inl written)) =
    let begins = audit_of_begun audit_order source program book b is h in
    subst (PictureAnswers (Some audit_order) source sink book) (sym written.0)
    (PictureAnswers.drawn audit_order program begins.0 begins.1 begins.2 text drawn written.1)
draw_begun source sink program book answer b is h (DrawAnswers.drawn text drawn (inr written)) =
    let begins = audit_of_begun audit_order source program book b is h in
    subst (PictureAnswers (Some audit_order) source sink book) (sym written.0)
    (PictureAnswers.cut audit_order program begins.0 begins.1 begins.2 text drawn written.1)

-- ---- when each answer comes

seen : (source sink : Sides) (book : BookValue) (answer : Status) → PictureAnswers (Some audit_order) source sink book answer → Seen audit_order source sink book answer
seen source sink book answer (PictureAnswers.nothing a none answers) = see audit_order source sink book a answers
seen source sink book answer (PictureAnswers.drawn order program bytes begins of text drawn written) =
    see_audit audit_order source sink book order program bytes status.Audited begins (AuditSeen.audited of (drawn.state, drawn.run) written.well refl)
seen source sink book answer (PictureAnswers.cut order program bytes begins of text drawn is_cut) =
    see_audit_cut audit_order source sink book order program bytes begins of (drawn.state, drawn.run) is_cut.failed

pub picture_caused : (source sink : Sides) (book : BookValue) (answer : Status) → PictureAnswers (Some audit_order) source sink book answer
    → OrderCauses audit_order source sink answer book
picture_caused source sink book answer answers = caused_as_seen audit_order source sink book answer (seen source sink book answer answers)

-- ---- the call of a process

same_order : (order : Order) → ◌≡◌ {A = Option Order} (Some audit_order) (Some order) → audit_order ≡ order
same_order order h = cc

-- without words
pub drawn_exits : (source sink : Sides) (book : BookValue) (answer : Status) (code : ℕ) → PictureAnswers (Some audit_order) source sink book answer
    → OrderCauses audit_order source sink answer book → code ≡ code_of answer → PictureExits [] source sink code
drawn_exits source sink book answer code answers causes exit = record {
  answer = answer;
  book = book;
  answers = answers;
  causes = record {
    bad_words = λ none. absurd (cc);
    bad_words_only = λ e. absurd (causes.only.bad_words e);
    ordered = λ order words. subst (λ (o : Order). OrderCauses o source sink answer book) (same_order order words) causes;
  };
  exit = exit;
}

refused_words : (source sink : Sides) (book : BookValue) (answer : Status) → IsUntouched source → StopsWith status.BadWords sink book answer
    → Answers None source sink book answer
refused_words source sink book answer unread (empty, inl h) =
    subst (Answers None source sink book) (sym h.0) (Answers.bad_words refl unread (record { no_run = empty; line = h.1 }))
refused_words source sink book answer unread (empty, inr h) = subst (Answers None source sink book) (sym h.0) (Answers.starved unread empty h.1)

-- with words
pub refused_exits : (words : List (List ℕ)) (source sink : Sides) (book : BookValue) (answer : Status) (code : ℕ) → 1 ≤ length words → IsUntouched source
    → StopsWith status.BadWords sink book answer → code ≡ code_of answer → PictureExits words source sink code
refused_exits [] source sink book answer code some unread stopped exit = absurd (omega arith)
refused_exits (word ∷ words) source sink book answer code some unread stopped exit =
    let answers = refused_words source sink book answer unread stopped in
    record {
      answer = answer;
      book = book;
      answers = PictureAnswers.nothing answer (told_nothing status.BadWords answer sink (inl tt) stopped.1) answers;
      causes = caused None source sink book answer answers;
      exit = exit;
    }
