-- From what the parts of a call do to its answer.
use Rattle.std.proofs.Common.{◌≡◌, ◌⊎◌, inl, inr, ℕ, List, [], Some, None, refl, sym, subst, arith}
use Rattle.std.specs.declared.option.Option.{Option}
use Rattle.std.proofs.KnownBytes.{Appends-nil, Consumes-nil}
use Rattle.block_table.specs.Blocks.{Blocks}
use Rattle.run_book.specs.Books.{BookValue, options_of_book}
use Rattle.run_book.specs.Reading.{IsBookText}
use Rattle.machine_rules.specs.Run.{IsRun}
use Rattle.orca_core.specs.Machine.{Machine}
use Rattle.book_audit.specs.Verdicts.{IsRefuted, IsVerdict}
use Rattle.book_audit.specs.declared.auditing.Verdict.{Verdict}
use Rattle.book_audit.specs.declared.auditing.Verdict.TheVariants as verdicts
use Rattle.report_text.specs.declared.status.Status.{Status}
use Rattle.report_text.specs.declared.status.Status.TheVariants as status
use Rattle.word_line.specs.declared.order.Job.{Job}
use Rattle.word_line.specs.declared.order.Job.TheVariants.{Run, Load, Audit, Why}
use Rattle.word_line.specs.declared.order.Order.{Order}
use Rattle.behaviour_code.specs.declared.code.Program.{Program}
use Rattle.machine_rules.specs.State.{State}
use Rattle.outside_world.specs.Pieces.{TakesAll, TakesPart}
use Rattle.job_input.specs.Inputs.{HasText, IsInput, Reads, ReadsFor, TakesInput}
use Rattle.pony_run.specs.Headline.{Answers, Begins, BeginsAudit, EndsWith, EveryRun, IsAudited, IsCut, IsReport, IsReportOf, MayRead, Refuses, Writes}
use Rattle.job_input.specs.Begins.{BeginsRun, GivesBegun, HasBehind, InputStops, IsBegun, IsBookStop, IsReadStop, IsRunnable, IsStop, IsTextStop}
use Rattle.pony_run.proofs.AtHand.{as_at_hand}
use Rattle.pony_run.specs.Inner.{AuditAnswers, IsTold, IsWritten, RunAnswers, StopsWith, WritesAudit, WritesReport}
use Rattle.job_input.specs.Streams.{CountsNoFault, IsUntouched, Sides, most_bytes}
use Rattle.job_input.specs.declared.beginning.Begun.{Begun}
use Rattle.job_input.specs.declared.beginning.Begun.TheVariants as begun

-- ---- what was read

nothing_read : (source : Sides) → IsUntouched source → Reads source
nothing_read source h = record {
  part = subst (λ (after : Option (List ℕ)). TakesPart source.before after) (sym h.0) (record { bytes = []; front = Consumes-nil source.before });
  stays = let well = h.1 in omega arith;
}

pub untouched_reads : (job : Job) (source : Sides) → IsUntouched source → ReadsFor job source
untouched_reads Run source h = nothing_read source h
untouched_reads Audit source h = nothing_read source h
untouched_reads Why source h = nothing_read source h
untouched_reads (Load count) source h = h

pub untouched_may_read : (reading : Option Order) (source : Sides) → IsUntouched source → MayRead reading source
untouched_may_read None source h = h
untouched_may_read (Some order) source h = untouched_reads order.job source h

all_read : (source : Sides) (input : List ℕ) → CountsNoFault source × TakesAll most_bytes source.before source.after input → Reads source
all_read source input h = record { part = record { bytes = input; front = h.1.front }; stays = let well = h.0 in omega arith }

pub input_reads : (job : Job) (source : Sides) (input : List ℕ) → IsInput job source input → ReadsFor job source
input_reads Run source input h = all_read source input h
input_reads Audit source input h = all_read source input h
input_reads Why source input h = all_read source input h
input_reads (Load count) source input h = h.0

-- what the job reads, where it takes its input from the source
taken_reads : (job : Job) (source : Sides) → TakesInput job → Reads source → ReadsFor job source
taken_reads Run source takes reads = reads
taken_reads Audit source takes reads = reads
taken_reads Why source takes reads = reads
taken_reads (Load count) source takes reads = absurd takes

may_read : (reading : Option Order) (order : Order) (source : Sides) → reading ≡ Some order → ReadsFor order.job source → MayRead reading source
may_read reading order source words h = subst (λ (r : Option Order). MayRead r source) (sym words) h

-- ---- what was not written

pub nothing_written : (told : Option (List ℕ)) (faults : ℕ) → Writes (record { before = told; after = told; faults_before = faults; faults_after = faults }) []
nothing_written told faults = record { all = Appends-nil told; well = refl }

-- a line without bytes
no_line : (sink : Sides) → Writes sink [] ⊎ IsCut sink [] → Writes sink []
no_line sink (inl h) = h
no_line sink (inr h) = let short = h.part.short in absurd (omega arith)

-- ---- where no run begins

-- what begins an audit
begins_audit : {reading : Option Order} (order : Order) (source : Sides) (program : Program) (input text bytes : List ℕ) → reading ≡ Some order → order.job ≡ Audit
    → IsInput order.job source input → HasBehind input text bytes → IsRunnable text program → BeginsAudit reading source order program bytes
begins_audit order source program input text bytes words audits read has runnable = record {
  words = words;
  audits = audits;
  input = input;
  read = read;
  short = has.short;
  text = text;
  behind = has.behind;
  spells = runnable.spells;
  kept = runnable.kept;
}

module _ (reading : Option Order) (order : Order) (source sink : Sides) (book : BookValue) (words : reading ≡ Some order) where
  starves : ReadsFor order.job source → book.entries ≡ [] → Writes sink [] → Answers reading source sink book status.NoMemory
  starves reads none written = Answers.starved (may_read reading order source words reads) none written

  -- the line of want of memory is none
  untold : ReadsFor order.job source → Refuses status.NoMemory sink book → Answers reading source sink book status.NoMemory
  untold reads refuses = starves reads refuses.no_run (no_line sink refuses.line)

  read_stops : (stop : Status) → IsReadStop stop order.job source → Refuses stop sink book → Answers reading source sink book stop
  read_stops status.ReadFault h refuses = Answers.read_fault order words h.0 h.1 h.2 refuses
  read_stops status.NoMemory h refuses = untold h refuses
  read_stops stop h refuses = absurd h

  module _ (input : List ℕ) (read : IsInput order.job source input) where
    text_stops : (stop : Status) (text : List ℕ) → HasText order.job input text → IsTextStop stop text → Refuses stop sink book → Answers reading source sink book stop
    text_stops (status.BadText l k) text has h refuses = Answers.bad_text order words input read text has l k h refuses
    text_stops (status.BadProgram k b s r) text has h refuses = Answers.bad_program order words input read text has h.0 h.1 k b s r h.2 refuses
    text_stops status.NoMemory text has h refuses = untold (input_reads order.job source input read) refuses
    text_stops stop text has h refuses = absurd h

    book_stops : (stop : Status) (bytes : List ℕ) (program : Program) → BeginsAudit reading source order program bytes → IsBookStop stop bytes → Refuses stop sink book
        → Answers reading source sink book stop
    book_stops (status.BadBook l k) bytes program begins h refuses = Answers.bad_book order program bytes begins l k h refuses
    book_stops status.NoMemory bytes program begins h refuses = untold (input_reads order.job source input read) refuses
    book_stops stop bytes program begins h refuses = absurd h

    input_stops : (stop : Status) → InputStops order.job input stop → Refuses stop sink book → Answers reading source sink book stop
    input_stops stop (InputStops.long is_long e) refuses =
        subst (Answers reading source sink book) (sym e) (Answers.too_long order words input read is_long (subst (λ (a : Status). Refuses a sink book) e refuses))
    input_stops stop (InputStops.at_text text has h) refuses = text_stops stop text has h refuses
    input_stops stop (InputStops.at_book audits text bytes has program runnable h) refuses =
        book_stops stop bytes program (begins_audit order source program input text bytes words audits read has runnable) h refuses

  stops : (stop : Status) → IsStop stop order.job source → Refuses stop sink book → Answers reading source sink book stop
  stops stop (inl h) refuses = read_stops stop h refuses
  stops stop (inr h) refuses = input_stops h.input h.read stop h.stops refuses

  read_stop_reads : (stop : Status) → IsReadStop stop order.job source → ReadsFor order.job source
  read_stop_reads status.ReadFault h = taken_reads order.job source h.0 h.1
  read_stop_reads status.NoMemory h = h
  read_stop_reads stop h = absurd h

  stop_reads : (stop : Status) → IsStop stop order.job source → ReadsFor order.job source
  stop_reads stop (inl h) = read_stop_reads stop h
  stop_reads stop (inr h) = input_reads order.job source h.input h.read

  pub stop_answers : (stop answer : Status) → IsStop stop order.job source → StopsWith stop sink book answer → Answers reading source sink book answer
  stop_answers stop answer is (none, inl h) = subst (Answers reading source sink book) (sym h.0) (stops stop is (record { no_run = none; line = h.1 }))
  stop_answers stop answer is (none, inr h) = subst (Answers reading source sink book) (sym h.0) (starves (stop_reads stop is) none h.1)

-- the words have no reading, and the source was not called
pub bad_words_answers : (reading : Option Order) (left : Option (List ℕ)) (reads : ℕ) (sink : Sides) (book : BookValue) (answer : Status) → reading ≡ None
    → StopsWith status.BadWords sink book answer → Answers reading (record { before = left; after = left; faults_before = reads; faults_after = reads }) sink book answer
bad_words_answers reading left reads sink book answer none (empty, inl h) =
    subst (Answers reading _ sink book) (sym h.0) (Answers.bad_words none (refl, refl) (record { no_run = empty; line = h.1 }))
bad_words_answers reading left reads sink book answer none (empty, inr h) =
    subst (Answers reading _ sink book) (sym h.0) (Answers.starved (untouched_may_read reading _ (refl, refl)) empty h.1)

-- memory was refused, and neither device was called
pub nothing_done : (reading : Option Order) (left given : Option (List ℕ)) (reads writes : ℕ) (book : BookValue) (answer : Status) → answer ≡ status.NoMemory → book.entries ≡ []
    → Answers reading (record { before = left; after = left; faults_before = reads; faults_after = reads })
    (record { before = given; after = given; faults_before = writes; faults_after = writes }) book answer
nothing_done reading left given reads writes book answer same none =
    subst (Answers reading _ _ book) (sym same) (Answers.starved (untouched_may_read reading _ (refl, refl)) none (nothing_written given writes))

-- ---- where a run begins

-- memory was refused before its first event
pub starved_answers : (order : Order) (program : Program) (given : Option (List ℕ)) (writes : ℕ) (book : BookValue) (answer : Status) → answer ≡ status.NoMemory
    → EveryRun order program book
    → RunAnswers order program (record { before = given; after = given; faults_before = writes; faults_after = writes }) book answer
starved_answers order program given writes book answer same run =
    let sink : Sides = record { before = given; after = given; faults_before = writes; faults_after = writes } in
    subst (λ (a : Status). RunAnswers order program sink book a) (sym same) (RunAnswers.starved run (nothing_written given writes))

-- the report of a run was written
pub run_written : (end : Status) (order : Order) (book : BookValue) (s : State) (sink : Sides) (text : List ℕ) (answer : Status) → IsReport end order book s text
    → IsWritten text end sink answer → WritesReport end order book s sink answer
run_written end order book s sink text answer report (inl h) = subst (WritesReport end order book s sink) (sym h.0) (WritesReport.whole text report h.1)
run_written end order book s sink text answer report (inr h) = subst (WritesReport end order book s sink) (sym h.0) (WritesReport.cut text report h.1)

module _ (order : Order) (program : Program) (sink : Sides) (book : BookValue) (run : EveryRun order program book) where
  -- it ended so, in this state with these blocks
  report_of : (end : Status) (s : State) (blocks : Blocks) (text : List ℕ) → run.state ≡ s → run.blocks ≡ blocks → EndsWith end s blocks book.entries order.budget → IsReport end order book s text
      → IsReportOf end run text
  report_of end s blocks text same its ends report = record {
    ends = subst (λ (x : State × Blocks). EndsWith end x.0 x.1 book.entries order.budget) (λ i. (sym same i, sym its i)) ends;
    report = subst (λ x. IsReport end order book x text) (sym same) report;
  }

  -- the report of a run that ended so
  pub report_answers : (end answer : Status) (s : State) (blocks : Blocks) → run.state ≡ s → run.blocks ≡ blocks → EndsWith end s blocks book.entries order.budget
      → WritesReport end order book s sink answer → RunAnswers order program sink book answer
  report_answers end answer s blocks same its ends (WritesReport.whole text report written) =
      RunAnswers.ended run end text (report_of end s blocks text same its ends report) written
  report_answers end answer s blocks same its ends (WritesReport.cut text report written) =
      RunAnswers.cut run end text (report_of end s blocks text same its ends report) written
  report_answers end answer s blocks same its ends (WritesReport.starved written) = RunAnswers.starved run written

module _ (reading : Option Order) (source sink : Sides) (book : BookValue) (order : Order) (program : Program) (begins : Begins reading source order program) where
  whole : (end : Status) (run : EveryRun order program book) (text : List ℕ) → IsReportOf end run text → Writes sink text → Answers reading source sink book end
  whole status.Quiet run text report written = Answers.quiet order program begins run text report (as_at_hand order program book begins.spells.good run text status.Quiet report) written
  whole status.Budget run text report written = Answers.budget order program begins run text report (as_at_hand order program book begins.spells.good run text status.Budget report) written
  whole (status.ActorsFull a) run text report written = Answers.actors_full order program begins run a text report (as_at_hand order program book begins.spells.good run text (status.ActorsFull a) report) written
  whole (status.RowsFull a) run text report written = Answers.rows_full order program begins run a text report (as_at_hand order program book begins.spells.good run text (status.RowsFull a) report) written
  whole end run text report written = absurd report.ends

  pub run_answers : (answer : Status) → RunAnswers order program sink book answer → Answers reading source sink book answer
  run_answers answer (RunAnswers.ended run end text report written) = whole end run text report written
  run_answers answer (RunAnswers.cut run end text report written) = Answers.write_fault order program begins run end text report (as_at_hand order program book begins.spells.good run text end report) written
  run_answers answer (RunAnswers.starved run written) = Answers.starved_in_run order program begins run written

-- the job's program is that of an order which the words give
begins_with : (order : Order) (source : Sides) (input : List ℕ) (program : Program) → IsInput order.job source input → BeginsRun order.job input program
    → Begins (Some order) source order program
begins_with order source input program read h = record {
  words = refl;
  runs = h.runs;
  input = input;
  read = read;
  text = h.text;
  has = h.has;
  spells = h.runnable.spells;
  kept = h.runnable.kept;
}

pub run_begun : (order : Order) (source sink : Sides) (program : Program) (book : BookValue) (answer : Status) (b : Begun) → b ≡ begun.Run program
    → GivesBegun order.job source b → RunAnswers order program sink book answer → Answers (Some order) source sink book answer
run_begun order source sink program book answer b is h answers =
    run_answers (Some order) source sink book order program (begins_with order source h.input program h.read (subst (IsBegun order.job h.input) is h.begins)) answer answers

-- ---- where an audit begins

-- what an audit answered
pub run_found : (program : Program) (book : BookValue) (v : Verdict) (m : Machine) → v ≡ verdicts.Run m → IsVerdict program book v
    → IsRun program (options_of_book book) book.entries m.state
run_found program book v m is right = (subst (IsVerdict program book) is right).run

pub refusal_found : (program : Program) (book : BookValue) (v : Verdict) (place cause : ℕ) → v ≡ verdicts.Not place cause → IsVerdict program book v
    → IsRefuted program book place cause
refusal_found program book v place cause is right = subst (IsVerdict program book) is right

pub report_written : (program : Program) (book : BookValue) (sink : Sides) (text : List ℕ) (answer : Status) → IsAudited program book text
    → IsWritten text status.Audited sink answer → WritesAudit program book sink answer
report_written program book sink text answer audited (inl h) = subst (WritesAudit program book sink) (sym h.0) (WritesAudit.whole text audited h.1)
report_written program book sink text answer audited (inr h) = subst (WritesAudit program book sink) (sym h.0) (WritesAudit.cut text audited h.1)

pub told_refuted : (program : Program) (book : BookValue) (sink : Sides) (place cause : ℕ) (answer : Status) → IsRefuted program book place cause
    → IsTold (status.NotARun place cause) sink answer → AuditAnswers program book sink answer
told_refuted program book sink place cause answer refuted (inl h) = AuditAnswers.refuted place cause refuted h.1 h.0
told_refuted program book sink place cause answer refuted (inr h) = AuditAnswers.starved h.1 h.0

module _ (order : Order) (source sink : Sides) (program : Program) (bytes : List ℕ) (book : BookValue) (begins : BeginsAudit (Some order) source order program bytes)
    (of : IsBookText bytes book) where
  audit_written : (answer : Status) → WritesAudit program book sink answer → Answers (Some order) source sink book answer
  audit_written answer (WritesAudit.whole text audited written) = Answers.audited order program bytes begins of text audited written
  audit_written answer (WritesAudit.cut text audited is_cut) = Answers.audit_cut order program bytes begins of text audited is_cut
  audit_written answer (WritesAudit.starved written) = Answers.starved_in_audit order program bytes begins of written

  audit_answers : (answer : Status) → AuditAnswers program book sink answer → Answers (Some order) source sink book answer
  audit_answers answer (AuditAnswers.refuted place cause refuted line e) =
      subst (Answers (Some order) source sink book) (sym e) (Answers.not_a_run order program bytes begins of place cause refuted line)
  audit_answers answer (AuditAnswers.followed written) = audit_written answer written
  audit_answers answer (AuditAnswers.starved written e) = subst (Answers (Some order) source sink book) (sym e) (Answers.starved_in_audit order program bytes begins of written)

-- the bytes that the words have audited, and their book
pub audit_of_begun : (order : Order) (source : Sides) (program : Program) (book : BookValue) (b : Begun) → b ≡ begun.Audit program book → GivesBegun order.job source b
    → (bytes : List ℕ) × BeginsAudit (Some order) source order program bytes × IsBookText bytes book
audit_of_begun order source program book b is h =
    let begins = subst (IsBegun order.job h.input) is h.begins in
    (begins.bytes, begins_audit order source program h.input begins.text begins.bytes refl begins.audits h.read begins.has begins.runnable, begins.book_text)

pub audit_begun : (order : Order) (source sink : Sides) (program : Program) (book found : BookValue) (answer : Status) (b : Begun) → b ≡ begun.Audit program book
    → GivesBegun order.job source b → found ≡ book → AuditAnswers program book sink answer → Answers (Some order) source sink found answer
audit_begun order source sink program book found answer b is h same answers =
    let begins = audit_of_begun order source program book b is h in
    subst (λ (x : BookValue). Answers (Some order) source sink x answer) (sym same)
    (audit_answers order source sink program begins.0 book begins.1 begins.2 answer answers)
