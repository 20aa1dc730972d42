-- What a call promises, from the words that it is given to the bytes that it writes.
--
-- `Answers`, at the end, has a constructor for each answer, with its premises in the order of the
-- causes: the words, what is read, its length, its text, the rules of its program, the run, or the book
-- and its audit, and what is written. What every run promises, however it ends, is `EveryRun`; it is a
-- premise of each answer behind which a run began. What a job takes as its input, and what is a
-- program's text there (`IsInput`, `HasText`, `Spells`, `IsFaulty`, `IsNoBook`), stands in `job_input`.
use Rattle.std.specs.Prelude.{◌≡◌, ◌↔◌, ◌⊎◌, ℕ, ◌+◌, ◌<◌, ◌≤◌, Bool, true, false, not, List, [], ◌++◌, Contains, count_by, length, All, Some, None}
use Rattle.std.specs.declared.option.Option.{Option}
use Rattle.std.specs.Io.KnownBytes.{Appends}
use Rattle.std.specs.List.Sorted.{IsStrictlySortedBy}
use Rattle.orca_names.specs.Names.{thing_cmp}
use Rattle.orca_names.specs.declared.names.Thing.{Thing}
use Rattle.orca_names.specs.declared.names.Thing.TheVariants.{Actor, Obj}
use Rattle.orca_names.specs.declared.limits.TheConstants.{BODY_LIMIT}
use Rattle.orca_names.specs.declared.reason.Reason.{Reason}
use Rattle.orca_names.specs.declared.tally.Sums.{Sums}
use Rattle.orca_names.specs.declared.trace.Trace.TheVariants.{Deep, Roots}
use Rattle.event_rule.specs.Runs.{ActorsFull, Budget, EndsAs, IsQuiet, LeadsInOrder, Quiet}
use Rattle.event_rule.specs.declared.event.Event.{Event}
use Rattle.block_table.specs.Blocks.{Blocks}
use Rattle.run_book.specs.Books.{BookValue, options_of_book}
use Rattle.run_book.specs.Reading.{IsBookText}
use Rattle.run_book.specs.Splits.{IsSplit}
use Rattle.report_text.specs.Refusals.{refusal_of}
use Rattle.report_text.specs.Reports.{audit_report_of, report_of}
use Rattle.report_text.specs.WhyLines.{why_lines}
use Rattle.report_text.specs.declared.numbers.Numbers.{Numbers}
use Rattle.report_text.specs.declared.status.Status.{Status}
use Rattle.report_text.specs.declared.status.Status.TheVariants as status
use Rattle.word_line.specs.declared.order.Job.{Job}
use Rattle.word_line.specs.declared.order.Job.TheVariants.{Audit, Why}
use Rattle.word_line.specs.declared.order.Order.{Order}
use Rattle.behaviour_code.specs.declared.code.Program.{Program}
use Rattle.behaviour_check.specs.Rules.{fault_at, first_broken}
use Rattle.plain_rules.specs.Machine.{PlainState}
use Rattle.plain_rules.specs.Reach.{IsReachable}
use Rattle.machine_rules.specs.Actors.{Actors}
use Rattle.machine_rules.specs.Left.{IsLeft}
use Rattle.machine_rules.specs.Next.{next}
use Rattle.machine_rules.specs.Options.{Options}
use Rattle.machine_rules.specs.Run.{IsPlainBeside, IsRun}
use Rattle.machine_rules.specs.State.{State, first_state}
use Rattle.count_laws.specs.TracedByRoots.{AreTracedByRoots}
use Rattle.machine_laws.specs.Laws.{IsNeverTooEarly, IsLeftExactly}
use Rattle.row_laws.specs.Blocks.{IsRowRun}
use Rattle.quiet_pass.specs.Ends.{IsRowsFullAt}
use Rattle.book_audit.specs.Verdicts.{IsRefuted}
use Rattle.count_ledger.specs.Tally.{IsTally}
use Rattle.why_path.specs.Checks.{HoldsUp, is_loose}
use Rattle.why_path.specs.Laws.{IsKeptIn}
use Rattle.why_path.specs.Partings.{IsClosedParting, partings_of}
use Rattle.why_path.specs.Reasons.{AreReasons}
use Rattle.outside_world.specs.Pieces.{GivesPart}
use Rattle.job_input.specs.Inputs.{Reads, TakesInput, ReadsFor, IsInput, HasText, Spells, IsFaulty, RunsProgram, IsNoBook}
use Rattle.job_input.specs.Streams.{CountsNoFault, HasFailed, IsUntouched, Sides, most_bytes}

-- ---- what is read

-- what is read, however the call ends: without an order, and for `load`, nothing
abbrev pub MayRead : Option Order → Sides → Type 0
MayRead None source = IsUntouched source
MayRead (Some order) source = ReadsFor order.job source

-- the words have a program run: this one, which keeps the rules
pub record Begins (reading : Option Order) (source : Sides) (order : Order) (program : Program)
    : Type 0 where
  pub words : reading ≡ Some order
  pub runs : RunsProgram order.job
  pub input : List ℕ
  pub read : IsInput order.job source input
  pub text : List ℕ
  pub has : HasText order.job input text
  pub spells : Spells text program
  pub kept : first_broken program ≡ None

-- the words have these bytes audited, which stand behind the text of this program, which keeps the
-- rules
pub record BeginsAudit (reading : Option Order) (source : Sides) (order : Order)
    (program : Program) (bytes : List ℕ) : Type 0 where
  pub words : reading ≡ Some order
  pub audits : order.job ≡ Audit
  pub input : List ℕ
  pub read : IsInput order.job source input
  pub short : length input < most_bytes
  pub text : List ℕ
  pub behind : IsSplit input text bytes
  pub spells : Spells text program
  pub kept : first_broken program ≡ None

-- ---- the run

-- the same order, given to one worker
abbrev pub alone : Order → Order
alone order = record order { workers = 1 }

-- how the order has the machine run
abbrev pub options_in : Order → Options
options_in order = record { weight = order.weight; trace = order.trace }

-- the run of this book had enough blocks for the rows of each entry, and these are the blocks then; where
-- rows lie at hand there are none
abbrev pub RunsInBlocks : Option ℕ → Program → Options → List Event → State → Blocks → Type 0
RunsInBlocks None program options book s blocks = blocks ≡ []
RunsInBlocks (Some count) program options book s blocks =
    IsRowRun program options count book s blocks

-- after this book the machine that frees nothing, which makes the same choices, printed the same;
-- nothing that was freed is reachable there; and counts balance
abbrev pub IsSafeAfter : Program → Options → List Event → Type 0
IsSafeAfter program options book =
    (s : State) × IsRun program options book s × IsNeverTooEarly program options book s

-- after this book, by root-only tracing: no count is overdrawn, who rests has just what is marked, what
-- is named is held with its owner, and what is held or under way is counted or led to
abbrev pub IsTracedAfter : Program → Options → List Event → Type 0
IsTracedAfter program options book =
    (s : State) × IsRun program options book s × AreTracedByRoots s.actors

-- after this book exactly what the machine that frees nothing still reaches is left; with root-only
-- tracing, where an actor leads to its own objects that some actor that is left holds, too
abbrev pub IsExactAfter : Program → Options → List Event → State → Type 0
IsExactAfter program options book s =
    (plain : PlainState) × IsPlainBeside program options book plain
    × IsLeftExactly options.trace plain s.actors

-- what every run promises, however it ends
pub record EveryRun (order : Order) (program : Program) (book : BookValue) : Type 0 where
  -- the book has the order's weight and tracing, and no more entries than the budget
  pub weight : book.weight ≡ order.weight
  pub trace : book.trace ≡ order.trace
  pub within : length book.entries ≤ order.budget
  -- it is a run of the program, and leads to this state
  pub state : State
  pub run : IsRun program (options_in order) book.entries state
  -- where the order has rows in blocks, there were enough of them, and these are the blocks then
  pub blocks : Blocks
  pub rows : RunsInBlocks order.rows program (options_in order) book.entries state blocks
  -- with one worker each entry is the first event that is enabled in its turn
  pub in_order : order.workers ≡ 1
      → LeadsInOrder next (first_state program (options_in order)) book.entries state
  -- after each front of it, nothing was freed too early
  pub safe : (front later : List Event) → book.entries ≡ front ++ later
      → IsSafeAfter program (options_in order) front
  -- with root-only tracing, after each front of it, the facts of that tracing hold
  pub traced : order.trace ≡ Roots → (front later : List Event) → book.entries ≡ front ++ later
      → IsTracedAfter program (options_in order) front
  -- where no event is enabled any more, nothing else is left than what has to be
  pub exact : IsQuiet next state → IsExactAfter program (options_in order) book.entries state

-- this is how the run ends: no event is enabled; or else its book is as long as the budget; or else its
-- next event, in the order of one worker, would make one actor more than may be made, or more rows than
-- there are free blocks
abbrev pub EndsWith : Status → State → Blocks → List Event → ℕ → Type 0
EndsWith status.Quiet s blocks book budget = EndsAs next Quiet s (length book) budget
EndsWith status.Budget s blocks book budget = EndsAs next Budget s (length book) budget
EndsWith (status.ActorsFull actor) s blocks book budget =
    EndsAs next (ActorsFull actor) s (length book) budget
EndsWith (status.RowsFull actor) s blocks book budget =
    IsRowsFullAt actor s blocks (length book) budget
EndsWith other s blocks book budget = ⊥

-- ---- the report

abbrev pub is_actor : Thing → Bool
is_actor (Actor a) = true
is_actor (Obj n) = false

-- so many actors and objects are left
pub record AreLeft (actors : Actors) (actor_count object_count : ℕ) : Type 0 where
  pub things : List Thing
  pub exact : (x : Thing) → Contains things x ↔ IsLeft actors x
  pub rising : IsStrictlySortedBy thing_cmp things
  pub actors_left : actor_count ≡ count_by is_actor things
  pub objects_left : object_count ≡ count_by (λ x. not (is_actor x)) things

-- the counts of all that is left, where they are asked for
abbrev pub AreCounts : Bool → Actors → Option (List Sums) → Type 0
AreCounts false actors counts = counts ≡ None
AreCounts true actors counts = (sums : List Sums) × (counts ≡ Some sums) × IsTally actors sums

-- the book, where it is asked for
abbrev pub book_in : Bool → BookValue → Option BookValue
book_in false book = None
book_in true book = Some book

-- so many actors and objects were made and are left
pub record AreNumbers (s : State) (actors objects : Numbers) : Type 0 where
  pub actors_made : actors.made ≡ length s.actors
  pub objects_made : objects.made ≡ s.objects
  pub left : AreLeft s.actors actors.left objects.left

-- the lines tell who went by each leave and each reap of the book, and why each thing is left in the
-- state to which it leads
pub record TellWhy (book : List Event) (s : State) (lines : List ℕ) : Type 0 where
  pub reasons : List Reason
  pub each : AreReasons s.actors reasons
  -- the reasons hold up, which anyone may check without walking a path
  pub hold : HoldsUp s.actors reasons
  -- exactly what the machine that frees nothing still reaches is called kept
  pub kept : (plain : PlainState) × IsPlainBeside s.program s.options book plain
      × ((x : Thing) → IsKeptIn reasons x ↔ IsReachable plain x)
  -- with deep tracing nothing is called loose where no event is enabled
  pub none_loose : s.options.trace ≡ Deep → IsQuiet next s
      → All (λ r. is_loose r.why ≡ false) reasons
  -- each set that was reaped is closed by the numbers that are told of it
  pub closed : All IsClosedParting (partings_of book (first_state s.program s.options))
  pub said : lines ≡ why_lines (partings_of book (first_state s.program s.options)) reasons

-- the lines behind a report: for `why` these; else none
abbrev pub AreWhys : Job → List Event → State → List ℕ → Type 0
AreWhys Why book s lines = TellWhy book s lines
AreWhys other book s lines = lines ≡ []

-- the text is the report of the run of this book, which ended so in this state: its prints, its end,
-- how many actors and objects were made and are left, the counts and the book as the order asks, and
-- for `why` its lines
pub record IsReport (end : Status) (order : Order) (book : BookValue) (s : State)
    (text : List ℕ) : Type 0 where
  pub actors : Numbers
  pub objects : Numbers
  pub numbers : AreNumbers s actors objects
  pub counts : Option (List Sums)
  pub counted : AreCounts order.counts s.actors counts
  pub whys : List ℕ
  pub explained : AreWhys order.job book.entries s whys
  pub said : text ≡ report_of end s.prints actors objects counts (book_in order.book book) ++ whys

-- the text is the report of an audit of this book, a run that leads to this state: its prints, how many
-- entries it has, whether an event is enabled, and how many actors and objects were made and are left
pub record IsAuditReport (book : BookValue) (s : State) (text : List ℕ) : Type 0 where
  pub is_quiet : Bool
  pub quiet : is_quiet ≡ true ↔ IsQuiet next s
  pub actors : Numbers
  pub objects : Numbers
  pub numbers : AreNumbers s actors objects
  pub said : text ≡ audit_report_of is_quiet s.prints (length book.entries) actors objects

-- ---- what is written

-- all of the text was written and nothing else, and no write failed
pub record Writes (sink : Sides) (text : List ℕ) : Type 0 where
  pub all : Appends sink.before sink.after text
  pub well : CountsNoFault sink

-- the sink failed, and a front of the text was written, but not all of it
pub record IsCut (sink : Sides) (text : List ℕ) : Type 0 where
  pub part : GivesPart sink.before sink.after text
  pub failed : HasFailed sink
  pub stays : sink.faults_before ≤ sink.faults_after

-- the line of the refusal was written as far as the sink took it
abbrev pub WritesLine : Status → Sides → Type 0
WritesLine refusal sink = Writes sink (refusal_of refusal) ⊎ IsCut sink (refusal_of refusal)

-- no run began, no book was read, and the line of the refusal was written
pub record Refuses (refusal : Status) (sink : Sides) (book : BookValue) : Type 0 where
  pub no_run : book.entries ≡ []
  pub line : WritesLine refusal sink

-- the run ended so, and this is its report
pub record IsReportOf {order : Order} {program : Program} {book : BookValue} (end : Status)
    (run : EveryRun order program book) (text : List ℕ) : Type 0 where
  pub ends : EndsWith end run.state run.blocks book.entries order.budget
  pub report : IsReport end order book run.state text

-- the book is a run of the program, and this is the report of its audit
pub record IsAudited (program : Program) (book : BookValue) (text : List ℕ) : Type 0 where
  pub state : State
  pub run : IsRun program (options_of_book book) book.entries state
  pub report : IsAuditReport book state text

-- ---- where rows lie

-- the order, with rows at hand
abbrev pub at_hand : Order → Order
at_hand order = record order { rows = None }

-- at the end for rows there were fewer blocks than 1,024 more than the objects that were made; at each
-- other end the text is the report of the same book's run with rows at hand, too
abbrev pub IsAsAtHand : Status → Order → Program → BookValue → State → List ℕ → Type 0
IsAsAtHand (status.RowsFull actor) order program book s text =
    (count : ℕ) → order.rows ≡ Some count → count < s.objects + BODY_LIMIT
IsAsAtHand end order program book s text =
    (run : EveryRun (at_hand order) program book) × IsReportOf end run text

-- ---- the answers

-- what a call does whose words have this reading, for each answer
pub data Answers (reading : Option Order) (source sink : Sides) (book : BookValue)
    : Status → Type 0 where
  -- the words have no reading
  bad_words : reading ≡ None → IsUntouched source
      → Refuses status.BadWords sink book → Answers reading source sink book status.BadWords
  -- the source failed
  read_fault : (order : Order) → reading ≡ Some order → TakesInput order.job → Reads source
      → HasFailed source
      → Refuses status.ReadFault sink book → Answers reading source sink book status.ReadFault
  -- the input is longer than a text may be
  too_long : (order : Order) → reading ≡ Some order
      → (input : List ℕ) → IsInput order.job source input → length input ≡ most_bytes
      → Refuses status.TooLong sink book → Answers reading source sink book status.TooLong
  -- the program's text is that of no program
  bad_text : (order : Order) → reading ≡ Some order
      → (input : List ℕ) → IsInput order.job source input
      → (text : List ℕ) → HasText order.job input text
      → (line kind : ℕ) → IsFaulty text line kind
      → Refuses (status.BadText line kind) sink book
      → Answers reading source sink book (status.BadText line kind)
  -- the program breaks a rule
  bad_program : (order : Order) → reading ≡ Some order
      → (input : List ℕ) → IsInput order.job source input
      → (text : List ℕ) → HasText order.job input text
      → (program : Program) → Spells text program
      → (kind behaviour step rule : ℕ)
      → first_broken program ≡ Some (fault_at kind behaviour step rule)
      → Refuses (status.BadProgram kind behaviour step rule) sink book
      → Answers reading source sink book (status.BadProgram kind behaviour step rule)
  -- the bytes behind the program are no book
  bad_book : (order : Order) (program : Program) (bytes : List ℕ)
      → BeginsAudit reading source order program bytes
      → (line kind : ℕ) → IsNoBook bytes line kind
      → Refuses (status.BadBook line kind) sink book
      → Answers reading source sink book (status.BadBook line kind)
  -- the book is no run of the program: its entry at this place is refused
  not_a_run : (order : Order) (program : Program) (bytes : List ℕ)
      → BeginsAudit reading source order program bytes → IsBookText bytes book
      → (place cause : ℕ) → IsRefuted program book place cause
      → WritesLine (status.NotARun place cause) sink
      → Answers reading source sink book (status.NotARun place cause)
  -- the book is a run of the program, and the report of its audit was written
  audited : (order : Order) (program : Program) (bytes : List ℕ)
      → BeginsAudit reading source order program bytes → IsBookText bytes book
      → (text : List ℕ) → IsAudited program book text
      → Writes sink text → Answers reading source sink book status.Audited
  -- it is, and the sink failed while that report was written
  audit_cut : (order : Order) (program : Program) (bytes : List ℕ)
      → BeginsAudit reading source order program bytes → IsBookText bytes book
      → (text : List ℕ) → IsAudited program book text
      → IsCut sink text → Answers reading source sink book status.WriteFault
  -- the run ended where no event is enabled, and its report was written
  quiet : (order : Order) (program : Program) → Begins reading source order program
      → (run : EveryRun order program book) (text : List ℕ) → IsReportOf status.Quiet run text
      → IsAsAtHand status.Quiet order program book run.state text
      → Writes sink text → Answers reading source sink book status.Quiet
  -- the run ended by its budget, and its report was written
  budget : (order : Order) (program : Program) → Begins reading source order program
      → (run : EveryRun order program book) (text : List ℕ) → IsReportOf status.Budget run text
      → IsAsAtHand status.Budget order program book run.state text
      → Writes sink text → Answers reading source sink book status.Budget
  -- the run ended where all actors are made, and its report was written
  actors_full : (order : Order) (program : Program) → Begins reading source order program
      → (run : EveryRun order program book) (actor : ℕ) (text : List ℕ)
      → IsReportOf (status.ActorsFull actor) run text
      → IsAsAtHand (status.ActorsFull actor) order program book run.state text
      → Writes sink text → Answers reading source sink book (status.ActorsFull actor)
  -- the run ended where blocks are lacked, and its report was written
  rows_full : (order : Order) (program : Program) → Begins reading source order program
      → (run : EveryRun order program book) (actor : ℕ) (text : List ℕ)
      → IsReportOf (status.RowsFull actor) run text
      → IsAsAtHand (status.RowsFull actor) order program book run.state text
      → Writes sink text → Answers reading source sink book (status.RowsFull actor)
  -- the run ended in one of these ways, and the sink failed while its report was written
  write_fault : (order : Order) (program : Program) → Begins reading source order program
      → (run : EveryRun order program book) (end : Status) (text : List ℕ) → IsReportOf end run text
      → IsAsAtHand end order program book run.state text
      → IsCut sink text → Answers reading source sink book status.WriteFault
  -- memory was refused before a run began or a book was read, the book is empty, and nothing was
  -- written. Memory may be refused while a book is read, so an answer alone can't tell that none was;
  -- that one which was read is kept is a clause of `audit_book`
  starved : MayRead reading source → book.entries ≡ []
      → Writes sink [] → Answers reading source sink book status.NoMemory
  -- memory was refused after it began, and nothing was written
  starved_in_run : (order : Order) (program : Program) → Begins reading source order program
      → EveryRun order program book
      → Writes sink [] → Answers reading source sink book status.NoMemory
  -- memory was refused after the book was read, and nothing was written
  starved_in_audit : (order : Order) (program : Program) (bytes : List ℕ)
      → BeginsAudit reading source order program bytes → IsBookText bytes book
      → Writes sink [] → Answers reading source sink book status.NoMemory
