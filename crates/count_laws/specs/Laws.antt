-- What take, go, collect and leave keep, and what every event keeps of each actor.
use Rattle.std.specs.Prelude.{ℕ, ◌<◌, ◌≡◌}
use Rattle.behaviour_code.specs.declared.code.Program.{Program}
use Rattle.event_rule.specs.declared.event.Event.{Event}
use Rattle.event_rule.specs.declared.event.Event.TheVariants.{Take, Go, Collect, Leave}
use Rattle.count_laws.specs.Clean.{CleanAreSwept, NoneHoldsItsOwn}
use Rattle.count_laws.specs.Facts.{Facts}
use Rattle.event_rule.specs.Runs.{Goes}
use Rattle.machine_rules.specs.Next.{next}
use Rattle.machine_rules.specs.Options.{Options}
use Rattle.machine_rules.specs.Run.{PlainFollows, is_choice}
use Rattle.machine_rules.specs.State.{State, first_state}
use Rattle.orca_names.specs.declared.trace.Trace.{Trace}
use Rattle.orca_names.specs.declared.trace.Trace.TheVariants.{Deep}
use Rattle.plain_rules.specs.Machine.{PlainState, start_of}

abbrev pub StartHasFacts : Type 0
StartHasFacts =
    (program : Program) (options : Options) → 0 < options.weight
    → Facts options.trace (start_of program) (first_state program options)

-- with either tracing, the event keeps the facts, beside the plain machine that makes the same choice
abbrev pub KeepsFacts : Event → Type 0
KeepsFacts e =
    (trace : Trace) (p : PlainState) (s t : State) → Facts trace p s → next s e ≡ Goes t
    → (q : PlainState) × PlainFollows (is_choice s e) p e q × Facts trace q t

abbrev pub TakesKeepFacts : Type 0
TakesKeepFacts = (a : ℕ) → KeepsFacts (Take a)

abbrev pub GoesKeepFacts : Type 0
GoesKeepFacts = (a : ℕ) → KeepsFacts (Go a)

abbrev pub CollectsKeepFacts : Type 0
CollectsKeepFacts = (a : ℕ) → KeepsFacts (Collect a)

abbrev pub LeavesKeepFacts : Type 0
LeavesKeepFacts = (a : ℕ) → KeepsFacts (Leave a)

-- with deep tracing, at the start and after every event, clean cells are swept
abbrev pub CleanStaySwept : Type 0
CleanStaySwept =
    ((program : Program) (options : Options) → CleanAreSwept (first_state program options).actors)
    × ((s t : State) (e : Event) → s.options.trace ≡ Deep → next s e ≡ Goes t
    → CleanAreSwept s.actors → CleanAreSwept t.actors)

-- at the start and after every event, no actor holds a count on a thing of its own
abbrev pub NoneGetsItsOwn : Type 0
NoneGetsItsOwn =
    ((program : Program) (options : Options) → NoneHoldsItsOwn (first_state program options).actors)
    × ((s t : State) (e : Event) → next s e ≡ Goes t → NoneHoldsItsOwn s.actors
    → NoneHoldsItsOwn t.actors)
