-- What holds of reasons, and of who went, after every run.
use Rattle.std.specs.Prelude.{◌≡◌, ◌↔◌, ◌<◌, false, List, All, IsSomeAnd}
use Rattle.orca_names.specs.declared.names.Thing.{Thing}
use Rattle.orca_names.specs.declared.reason.Reason.{Reason}
use Rattle.orca_names.specs.declared.trace.Trace.TheVariants.{Deep}
use Rattle.behaviour_code.specs.declared.code.Program.{Program}
use Rattle.event_rule.specs.declared.event.Event.{Event}
use Rattle.event_rule.specs.Runs.{IsQuiet}
use Rattle.machine_rules.specs.Next.{next}
use Rattle.machine_rules.specs.Options.{Options}
use Rattle.machine_rules.specs.Run.{IsPlainBeside, IsRun}
use Rattle.machine_rules.specs.State.{State, first_state}
use Rattle.plain_rules.specs.Machine.{PlainState}
use Rattle.plain_rules.specs.Reach.{IsReachable}
use Rattle.why_path.specs.Checks.{HoldsUp, is_loose, line_of}
use Rattle.why_path.specs.Partings.{IsClosedParting, partings_of}
use Rattle.why_path.specs.Reasons.{AreReasons}

-- the thing has a line, which is not loose
abbrev pub IsKeptIn : List Reason → Thing → Type 0
IsKeptIn reasons x = IsSomeAnd (line_of reasons x) (λ r. is_loose r.why ≡ false)

-- where reasons hold up, exactly what is reachable in the machine that frees nothing is kept
abbrev pub KeptAreReachable : Type 0
KeptAreReachable =
    (program : Program) (options : Options) → 0 < options.weight → (book : List Event) (t : State)
    → IsRun program options book t →
    (p : PlainState) × IsPlainBeside program options book p
    × ((reasons : List Reason) → HoldsUp t.actors reasons → (x : Thing)
    → IsKeptIn reasons x ↔ IsReachable p x)

-- the reasons of a state hold up
abbrev pub ReasonsHoldUp : Type 0
ReasonsHoldUp =
    (program : Program) (options : Options) → 0 < options.weight → (book : List Event) (t : State)
    → IsRun program options book t → (reasons : List Reason) → AreReasons t.actors reasons
    → HoldsUp t.actors reasons

-- with deep tracing, where no event is enabled, no line is loose
abbrev pub NoneLooseAtQuiet : Type 0
NoneLooseAtQuiet =
    (program : Program) (options : Options) → 0 < options.weight → options.trace ≡ Deep
    → (book : List Event) (t : State) → IsRun program options book t → IsQuiet next t
    → (reasons : List Reason) → HoldsUp t.actors reasons
    → All (λ r. is_loose r.why ≡ false) reasons

-- each set that a run reaps is closed by what the detector had kept of it
abbrev pub ReapedAreClosed : Type 0
ReapedAreClosed =
    (program : Program) (options : Options) → 0 < options.weight → (book : List Event) (t : State)
    → IsRun program options book t
    → All IsClosedParting (partings_of book (first_state program options))
