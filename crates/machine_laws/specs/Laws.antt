-- What holds of every program, every run and each of its prefixes.
use Rattle.std.specs.Prelude.{ℕ, ◌≡◌, ◌↔◌, true, false, List, [], ◌++◌, Some, ◌+◌, ◌<◌, ◌≤◌, length}
use Rattle.orca_names.specs.declared.names.Thing.{Thing}
use Rattle.behaviour_code.specs.declared.code.Program.{Program}
use Rattle.event_rule.specs.declared.event.Event.{Event}
use Rattle.letter_kinds.specs.Reports.{kept_report}
use Rattle.letter_kinds.specs.Letters.{Letter}
use Rattle.letter_kinds.specs.declared.note.Report.{Report}
use Rattle.machine_rules.specs.Actors.{Actors, seat, seat_at}
use Rattle.machine_rules.specs.Balance.{IsBalanced}
use Rattle.count_laws.specs.Prefixes.{NeverOverdraws}
use Rattle.machine_rules.specs.Cell.{Cell}
use Rattle.machine_rules.specs.Left.{IsFreed, IsLeft}
use Rattle.count_laws.specs.Named.{NamesNothingFreed, ReachesNothingFreed, RowsNameNothingFreed}
use Rattle.count_laws.specs.LeftByRoots.{IsReachedOrHeld}
use Rattle.event_rule.specs.Runs.{IsEnabled, IsQuiet, Leads, Goes}
use Rattle.plain_rules.specs.Run.{plain_next}
use Rattle.machine_rules.specs.Next.{next}
use Rattle.orca_names.specs.declared.trace.Trace.{Trace}
use Rattle.orca_names.specs.declared.trace.Trace.TheVariants.{Deep, Roots}
use Rattle.machine_rules.specs.Options.{Options}
use Rattle.plain_rules.specs.Machine.{PlainState, start_of}
use Rattle.plain_rules.specs.Reach.{IsReachable}
use Rattle.machine_rules.specs.Run.{IsPlainBeside, IsRun, PlainFollows, choices, is_choice}
use Rattle.machine_rules.specs.State.{State, first_state}
use Rattle.count_laws.specs.TracedByRoots.{AreTracedByRoots}
use Rattle.detector_laws.specs.Reports.{IsReportOf}
use Rattle.machine_laws.specs.AllFacts.{AllFacts}
use Rattle.machine_laws.specs.Work.{gets_left, work_left}

-- ---- the facts hold

abbrev pub StartHasAllFacts : Type 0
StartHasAllFacts =
    (program : Program) (options : Options) → 0 < options.weight
    → AllFacts options.trace (start_of program) (first_state program options)

-- each event keeps all facts together
abbrev pub EventsKeepAllFacts : Type 0
EventsKeepAllFacts =
    (trace : Trace) (p : PlainState) (s t : State) (e : Event) → AllFacts trace p s
    → next s e ≡ Goes t →
    (q : PlainState) × PlainFollows (is_choice s e) p e q × AllFacts trace q t

-- so they hold after each run
abbrev pub RunsHaveAllFacts : Type 0
RunsHaveAllFacts =
    (program : Program) (options : Options) → 0 < options.weight → (book : List Event) (t : State)
    → IsRun program options book t →
    (p : PlainState) × IsPlainBeside program options book p × AllFacts options.trace p t

-- with root-only tracing these, in place of what is known with deep tracing
abbrev pub RunsAreTracedByRoots : Type 0
RunsAreTracedByRoots =
    (program : Program) (options : Options) → 0 < options.weight → options.trace ≡ Roots
    → (book : List Event) (t : State) → IsRun program options book t → AreTracedByRoots t.actors

-- ---- never too early

-- after this book nothing was freed that the machine that frees nothing still reaches
pub record IsNeverTooEarly (program : Program) (options : Options) (book : List Event)
    (s : State) : Type 0 where
  pub plain : PlainState
  -- the choices of the book are enabled there in their turn, and lead to this state
  pub follows : IsPlainBeside program options book plain
  pub prints : plain.prints ≡ s.prints
  pub balanced : IsBalanced s.actors
  pub covered : NeverOverdraws options.trace s.actors
  -- what is reachable is left, and nothing freed is reachable
  pub left : (x : Thing) → IsReachable plain x → IsLeft s.actors x
  pub freed : (x : Thing) → IsFreed plain.actors s.actors x → ¬ IsReachable plain x
  -- no actor and no letter names what was freed, and no actor reaches it through the rows that it has
  pub named : NamesNothingFreed s.actors
  pub reached : ReachesNothingFreed options.trace s.actors
  -- with root-only tracing, no row that an actor has or a letter brings is of what was freed, or
  -- names it
  pub rows : options.trace ≡ Roots → RowsNameNothingFreed s.actors

-- each prefix of a run is a run, and it is never too early
abbrev pub NeverTooEarly : Type 0
NeverTooEarly =
    (program : Program) (options : Options) → 0 < options.weight
    → (book later : List Event) (t : State) → IsRun program options (book ++ later) t →
    (s : State) × IsRun program options book s × IsNeverTooEarly program options book s

-- ---- at quiet

-- exactly what is reachable is left; with root-only tracing, exactly what is reachable or held
abbrev pub IsLeftExactly : Trace → PlainState → Actors → Type 0
IsLeftExactly Deep p actors = (x : Thing) → IsLeft actors x ↔ IsReachable p x
IsLeftExactly Roots p actors = (x : Thing) → IsLeft actors x ↔ IsReachedOrHeld p actors x

-- where no event is enabled, exactly what is reachable is left, cycles of actors and objects included
abbrev pub ExactlyAtQuiet : Type 0
ExactlyAtQuiet =
    (program : Program) (options : Options) → 0 < options.weight → options.trace ≡ Deep
    → (book : List Event) (t : State) → IsRun program options book t → IsQuiet next t →
    (p : PlainState) × IsPlainBeside program options book p
    × ((x : Thing) → IsLeft t.actors x ↔ IsReachable p x)

-- with root-only tracing, what is reached from the roots is left, where an actor leads to its own
-- objects that some actor that is left holds as well
abbrev pub ExactlyAtQuietByRoots : Type 0
ExactlyAtQuietByRoots =
    (program : Program) (options : Options) → 0 < options.weight → options.trace ≡ Roots
    → (book : List Event) (t : State) → IsRun program options book t → IsQuiet next t →
    (p : PlainState) × IsPlainBeside program options book p
    × ((x : Thing) → IsLeft t.actors x ↔ IsReachedOrHeld p t.actors x)

-- nothing is on its way to the detector, no token is open, and of each actor that is present and not
-- pinned an exact report is kept
pub record DetectorRests (s : State) : Type 0 where
  pub notes : s.notes ≡ []
  pub news : s.detector.news ≡ false
  pub tokens : s.detector.tokens ≡ []
  pub reports : (a : ℕ) (c : Cell) (mail : List Letter) → seat_at s.actors a ≡ seat c mail
      → c.fields.pinned ≡ false →
      (r : Report) × (kept_report s.detector.kept a ≡ Some r) × IsReportOf a c r

abbrev pub DetectorRestsAtQuiet : Type 0
DetectorRestsAtQuiet =
    (program : Program) (options : Options) → 0 < options.weight → (book : List Event) (t : State)
    → IsRun program options book t → IsQuiet next t → DetectorRests t

-- ---- the machine comes to rest

-- each event that is no choice leaves less to do
abbrev pub EventsLeaveLess : Type 0
EventsLeaveLess =
    (trace : Trace) (p : PlainState) (s t : State) (e : Event) → AllFacts trace p s
    → next s e ≡ Goes t → is_choice s e ≡ false → work_left t < work_left s

-- with deep tracing, for what turns get there is nothing to do
abbrev pub DeepNeedsNoGet : Type 0
DeepNeedsNoGet = (s : State) → s.options.trace ≡ Deep → gets_left s ≡ 0

-- so, after each prefix of a run, no more events follow without a choice than there is work left
abbrev pub RestsBetweenChoices : Type 0
RestsBetweenChoices =
    (program : Program) (options : Options) → 0 < options.weight
    → (book later : List Event) (s t : State) → IsRun program options book s → Leads next s later t
    → choices later s ≡ [] →
    length later + work_left t ≤ work_left s

-- whatever is enabled is a choice
abbrev pub AwaitsChoices : State → Type 0
AwaitsChoices s = (e : Event) → IsEnabled next s e → is_choice s e ≡ true

-- events without a choice lead to where only choices are enabled
pub record CanRest (s : State) : Type 0 where
  pub later : List Event
  pub last : State
  pub leads : Leads next s later last
  pub calm : choices later s ≡ []
  pub waits : AwaitsChoices last

-- each run can go on so
abbrev pub RunsCanRest : Type 0
RunsCanRest =
    (program : Program) (options : Options) → 0 < options.weight → (book : List Event) (s : State)
    → IsRun program options book s → CanRest s

-- where only choices are enabled, and the machine that frees nothing is quiet, nothing is enabled,
-- and exactly what is reachable is left
abbrev pub GarbageIsGone : Type 0
GarbageIsGone =
    (program : Program) (options : Options) → 0 < options.weight → options.trace ≡ Deep
    → (book : List Event) (t : State) → IsRun program options book t → AwaitsChoices t →
    (p : PlainState) × IsPlainBeside program options book p
    × (IsQuiet plain_next p
    → IsQuiet next t × ((x : Thing) → IsLeft t.actors x ↔ IsReachable p x))

-- with root-only tracing, exactly what is reached or held
abbrev pub GarbageIsGoneByRoots : Type 0
GarbageIsGoneByRoots =
    (program : Program) (options : Options) → 0 < options.weight → options.trace ≡ Roots
    → (book : List Event) (t : State) → IsRun program options book t → AwaitsChoices t →
    (p : PlainState) × IsPlainBeside program options book p
    × (IsQuiet plain_next p
    → IsQuiet next t × ((x : Thing) → IsLeft t.actors x ↔ IsReachedOrHeld p t.actors x))
