-- What holds of the machine at every moment, whatever was done with it.
use Rattle.std.specs.Prelude.{◌≡◌, ◌+◌, ◌≤◌, ◌<◌, ◌^◌, List, [], length}
use Rattle.orca_names.specs.declared.trace.Trace.TheVariants.{Roots}
use Rattle.event_rule.specs.Runs.{IsQuiet, Leads}
use Rattle.event_rule.specs.declared.event.Event.{Event}
use Rattle.count_laws.specs.TracedByRoots.{AreTracedByRoots}
use Rattle.machine_laws.specs.Bounds.{OfEachCount, OfTold}
use Rattle.machine_laws.specs.Laws.{AwaitsChoices, CanRest, IsLeftExactly, IsNeverTooEarly}
use Rattle.machine_laws.specs.Work.{work_left}
use Rattle.machine_rules.specs.Next.{next}
use Rattle.machine_rules.specs.Run.{IsPlainBeside, IsRun, choices}
use Rattle.plain_rules.specs.Machine.{PlainState}
use Rattle.plain_rules.specs.Run.{plain_next}
use Rattle.orca_core.specs.Machine.{Machine}

-- these are the events so far
pub record IsRunOf (m : Machine) (book : List Event) : Type 0 where
  pub run : IsRun m.state.program m.state.options book m.state
  pub long : length book ≡ m.steps

-- nothing that was freed is reachable in the machine that frees nothing, prints are equal, and counts
-- balance
pub record KeepsTheReachable (m : Machine) : Type 0 where
  pub book : List Event
  pub run : IsRunOf m book
  pub kept : IsNeverTooEarly m.state.program m.state.options book m.state

-- with root-only tracing, the facts of that tracing hold
abbrev pub IsTracedByRoots : Machine → Type 0
IsTracedByRoots m = m.state.options.trace ≡ Roots → AreTracedByRoots m.state.actors

-- exactly what is reachable is left where no event is enabled
pub record IsExactAtQuiet (m : Machine) : Type 0 where
  pub book : List Event
  pub run : IsRunOf m book
  pub plain : PlainState
  pub beside : IsPlainBeside m.state.program m.state.options book plain
  pub exact : IsQuiet next m.state → IsLeftExactly m.state.options.trace plain m.state.actors
  -- and where only choices are enabled, when the machine that frees nothing is quiet
  pub garbage : AwaitsChoices m.state → IsQuiet plain_next plain
      → IsQuiet next m.state × IsLeftExactly m.state.options.trace plain m.state.actors

-- events without a choice lead to where only choices are enabled, and each leaves less work
pub record ComesToRest (m : Machine) : Type 0 where
  pub can : CanRest m.state
  pub less : (later : List Event) → (t : _) → Leads next m.state later t → choices later m.state ≡ []
      → length later + work_left t ≤ work_left m.state

-- no count needs more than 43 bits
pub record CountsInFewBits (m : Machine) : Type 0 where
  pub counts : OfEachCount (λ n. n < 2 ^ 43) m.state.actors
  pub told : OfTold (λ n. n < 2 ^ 43) m.state
  pub tokens : m.state.detector.opened < 2 ^ 43
