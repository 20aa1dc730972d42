-- A letter that an actor awaits while others go on.
use Rattle.std.specs.Prelude.{ℕ, ◌≡◌, Some}
use Rattle.orca_names.specs.declared.trace.Trace.{Trace}
use Rattle.behaviour_code.specs.declared.code.Program.{Program}
use Rattle.turn_rules.specs.Segment.{Turn}
use Rattle.machine_rules.specs.Actors.{Actors, cell_at}
use Rattle.machine_rules.specs.Cell as rules
use Rattle.actor_cell.specs.declared.cell.Cell.{Cell}
use Rattle.actor_cell.specs.declared.turning.Awaited.{Awaited}
use Rattle.actor_cell.specs.declared.turning.Doing.TheVariants.{Mint}
use Rattle.actor_cell.specs.declared.turning.Turned.{Turned}
use Rattle.actor_cell.specs.Awaiting.{Awaits, AwaitsAt}
use Rattle.actor_cell.specs.Cells.{as_cell}
use Rattle.actor_table.specs.Slots.{actors_of}
use Rattle.orca_parts.specs.declared.parts.Parts.{Parts}

-- where a letter is awaited, the turn of this actor's cell stops at it
abbrev pub IsAwaitedHere : Trace → Program → ℕ → Turn → Turned → Cell → Type 0
IsAwaitedHere trace program a turn found c = AwaitsAt trace program a (as_cell c) turn found

-- where this was found last of a turn and awaits a letter, the turn of its actor would stop at it again
abbrev pub AwaitedIn : Trace → Program → Turn → Turned → Actors → Type 0
AwaitedIn trace program turn found actors = (letter : Awaited) (c : rules.Cell)
    → found.awaited ≡ Some letter → cell_at actors letter.actor ≡ Some c
    → Awaits trace program letter.actor c turn found letter

abbrev pub IsAwaited : Trace → Program → Parts → Type 0
IsAwaited trace program m = AwaitedIn trace program m.turn m.turned (actors_of m.table.slots)

-- that is so, where the actor mints
abbrev pub AwaitsMinted : Trace → Program → Parts → Type 0
AwaitsMinted trace program m =
    (owner : ℕ) → m.turned.doing ≡ Mint owner → IsAwaited trace program m
