-- The machine's insides, as contracts see them.
use Rattle.std.specs.Prelude.{◌≡◌, true, IsSome, ⊤}
use Rattle.row_store.specs.Words.{Words}
use Rattle.letter_kinds.specs.Telling.{HoldsTold, Told}
use Rattle.actor_cell.specs.declared.cell.Cell.{Cell}
use Rattle.actor_cell.specs.Tells.{told_out}
use Rattle.actor_table.specs.declared.slot.Place.TheVariants.{Home}
use Rattle.event_rule.specs.Runs.{Step}
use Rattle.event_rule.specs.declared.event.Event.{Event}
use Rattle.event_rule.specs.declared.event.Event.TheVariants.{Go, Collect}
use Rattle.machine_rules.specs.State.{State}
use Rattle.actor_table.specs.Slots.{away_of, slot_at}
use Rattle.orca_parts.specs.declared.insides.Core.{Core}
use Rattle.orca_parts.specs.Awaiting.{IsAwaited}
use Rattle.orca_parts.specs.Away.{next_without}
use Rattle.orca_parts.specs.Fits.{IsKnownSweep, OnlyRoom}
use Rattle.orca_parts.specs.Goes.{IsKnownGo}
use Rattle.orca_parts.specs.Parts.{state_of}

-- its state
abbrev pub core_state : Core → State
core_state m = state_of m.code.now m.options m.parts

-- what an event leads to while cells are away
abbrev pub next_in : Core → Event → Step State
next_in m e = next_without (away_of m.parts.table.slots) (core_state m) e

-- what was found last awaits its letter still, where it stands
abbrev pub StandsWell : Core → Type 0
StandsWell m = m.stands ≡ true → IsAwaited m.options.trace m.code.now m.parts

-- it is of the same program with the same choices
pub record IsAlike (old new : Core) : Type 0 where
  pub code : new.code ≡ old.code
  pub options : new.options ≡ old.options

-- but for room all is the same
pub record KeepsCore (old new : Core) : Type 0 where
  pub alike : IsAlike old new
  pub room : OnlyRoom old.parts new.parts

-- what the event's actor does stands there: its turn, where it has a frame; its sweep, where it has none
-- and is dirty; of other events nothing
abbrev pub HasFound : Event → Core → Type 0
HasFound (Go a) m = IsKnownGo m.options m.code.now m.parts.blocks m.parts.turn m.parts.turned
    (slot_at m.parts.table.slots a)
HasFound (Collect a) m = IsKnownSweep m.options.trace m.parts.sweep (slot_at m.parts.table.slots a)
HasFound e m = ⊤

-- these words hold the rows in blocks of which the turn that stands there tells, where the event's actor
-- has a frame
abbrev pub HoldsFound : Words → Event → Core → Type 0
HoldsFound known (Go a) m = (c : Cell) → (slot_at m.parts.table.slots a).place ≡ Home c
    → IsSome c.frame → HoldsTold known (Told (told_out m.parts.turned))
HoldsFound known e m = ⊤
