-- After each run, each actor's counts allow what the turn of its frame does.
use Rattle.std.specs.Prelude.{◌≡◌, Some}
use Rattle.turn_rules.specs.declared.act.Frame.{Frame}
use Rattle.actor_cell.specs.Goes.{CanGo}
use Rattle.cell_laws.specs.Runs.{AfterShortRuns}

abbrev pub RunsAllowGoes : Type 0
RunsAllowGoes =
    AfterShortRuns (λ program options t a c mail. (frame : Frame) → c.frame ≡ Some frame
    → CanGo options program a c)
