-- What an actor holds and knows: things of others that were made.
use Rattle.std.specs.Prelude.{◌≡◌, ◌≢◌, ◌≤◌, true, List, length, None}
use Rattle.std.specs.FinMap as m
use Rattle.orca_names.specs.Names.{owner_of}
use Rattle.orca_names.specs.declared.names.Thing.{Thing}
use Rattle.behaviour_code.specs.declared.code.Program.{Program}
use Rattle.event_rule.specs.declared.event.Event.{Event}
use Rattle.letter_kinds.specs.Letters.{Letter}
use Rattle.machine_rules.specs.Actors.{seat, seat_at}
use Rattle.machine_rules.specs.Options.{Options}
use Rattle.machine_rules.specs.State.{State}
use Rattle.actor_cell.specs.Cells.{as_cell}
use Rattle.actor_cell.specs.Sweeps.{KnowsOthersOnly}
use Rattle.actor_cell.specs.declared.cell.Cell.{Cell}
use Rattle.cell_laws.specs.Runs.{AfterShortRuns, IsShortRun}

-- none of its own
abbrev pub RunsHoldOthersOnly : Type 0
RunsHoldOthersOnly =
    AfterShortRuns (λ program options t a c mail. (x : Thing)
    → m.contains_key c.holdings.foreign x ≡ true → owner_of x ≢ a)

-- none whose owner was not made; so the name of the actor that is made next has no entry
abbrev pub RunsHoldTheMadeOnly : Type 0
RunsHoldTheMadeOnly =
    AfterShortRuns (λ program options t a c mail. (x : Thing)
    → length t.actors ≤ owner_of x → m.get c.holdings.foreign x ≡ None)

-- the rows that letters brought are of no object of its own
abbrev pub RunsKnowOthersOnly : Type 0
RunsKnowOthersOnly =
    AfterShortRuns (λ program options t a c mail. (x : Thing)
    → m.contains_key c.known x ≡ true → owner_of x ≢ a)

-- so it is with the cell of an actor that is present
abbrev pub CellsKnowOthersOnly : Type 0
CellsKnowOthersOnly =
    (program : Program) (options : Options) (book : List Event) (t : State)
    → IsShortRun program options book t →
    (c : Cell) (mail : List Letter) → seat_at t.actors c.heap.owner ≡ seat (as_cell c) mail
    → KnowsOthersOnly c
