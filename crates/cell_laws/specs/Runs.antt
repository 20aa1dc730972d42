-- Runs whose counts fit their bits.
use Rattle.std.specs.Prelude.{ℕ, ◌<◌, ◌≤◌, ◌≡◌, List, length}
use Rattle.behaviour_code.specs.declared.code.Program.{Program}
use Rattle.event_rule.specs.declared.event.Event.{Event}
use Rattle.letter_kinds.specs.Letters.{Letter}
use Rattle.machine_rules.specs.Actors.{seat, seat_at}
use Rattle.machine_rules.specs.Cell.{Cell}
use Rattle.machine_rules.specs.Options.{Options}
use Rattle.machine_rules.specs.Run.{IsRun}
use Rattle.machine_rules.specs.State.{State}
use Rattle.orca_names.specs.declared.limits.TheConstants.{BOOK_LIMIT}

-- an increment is at least 1 and at most 65,536, and the book is no longer than it may be
pub record IsShortRun (program : Program) (options : Options) (book : List Event)
    (t : State) : Type 0 where
  pub heavy : 0 < options.weight
  pub light : options.weight ≤ 65536
  pub short : length book ≤ BOOK_LIMIT
  pub run : IsRun program options book t

-- something holds of each actor that is present after such a run
abbrev pub AfterShortRuns : (Program → Options → State → ℕ → Cell → List Letter → Type 0) → Type 0
AfterShortRuns Q =
    (program : Program) (options : Options) (book : List Event) (t : State)
    → IsShortRun program options book t →
    (a : ℕ) (c : Cell) (mail : List Letter) → seat_at t.actors a ≡ seat c mail
    → Q program options t a c mail
