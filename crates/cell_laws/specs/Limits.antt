-- After each run there is room for the serials, objects, actors and tokens of one event more.
use Rattle.std.specs.Prelude.{◌+◌, ◌*◌, ◌^◌, ◌<◌, ◌≤◌, ◌≡◌, List, length}
use Rattle.behaviour_code.specs.declared.code.Program.{Program}
use Rattle.behaviour_code.specs.WellFormed.{IsWellFormed}
use Rattle.event_rule.specs.declared.event.Event.{Event}
use Rattle.machine_rules.specs.Options.{Options}
use Rattle.machine_rules.specs.Run.{IsRun}
use Rattle.machine_rules.specs.State.{State}
use Rattle.orca_names.specs.declared.limits.TheConstants.{ACTORS_LIMIT, BODY_LIMIT, BOOK_LIMIT}
use Rattle.cell_laws.specs.Runs.{AfterShortRuns, IsShortRun}

-- the program and the options are those of the run
pub record IsOf (program : Program) (options : Options) (t : State) : Type 0 where
  pub same_program : t.program ≡ program
  pub same_options : t.options ≡ options

abbrev pub RunsKeepTheProgram : Type 0
RunsKeepTheProgram =
    (program : Program) (options : Options) (book : List Event) (t : State)
    → IsRun program options book t → IsOf program options t

-- an event makes as many objects as a behaviour may have instructions, at most
abbrev pub RunsMakeFewObjects : Type 0
RunsMakeFewObjects =
    (program : Program) (options : Options) (book : List Event) (t : State)
    → IsWellFormed program → IsRun program options book t → t.objects ≤ BODY_LIMIT * length book

-- so there is room for those of one event more, and for a token more where the book has room for that event
pub record HasRoom (program : Program) (book : List Event) (t : State) : Type 0 where
  pub objects : IsWellFormed program → t.objects + BODY_LIMIT < 2 ^ 64
  pub actors : length t.actors ≤ ACTORS_LIMIT
  pub tokens : length book < BOOK_LIMIT → t.detector.opened < BOOK_LIMIT

abbrev pub RunsHaveRoom : Type 0
RunsHaveRoom =
    (program : Program) (options : Options) (book : List Event) (t : State)
    → IsShortRun program options book t → HasRoom program book t

-- and for the serials of an actor's objects
abbrev pub RunsHaveSerials : Type 0
RunsHaveSerials =
    AfterShortRuns (λ program options t a c mail. IsWellFormed program
    → c.holdings.next + BODY_LIMIT < 2 ^ 64)
