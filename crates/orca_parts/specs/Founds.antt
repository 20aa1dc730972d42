-- What was found of an actor before its event came.
use Rattle.std.specs.Prelude.{ℕ, ◌≡◌, List, Some}
use Rattle.behaviour_code.specs.declared.code.Program.{Program}
use Rattle.block_table.specs.Blocks.{Blocks}
use Rattle.event_rule.specs.Events.{actor_of}
use Rattle.event_rule.specs.declared.event.Event.{Event}
use Rattle.letter_kinds.specs.Telling.{TellsNothing, Told}
use Rattle.machine_rules.specs.Options.{Options}
use Rattle.actor_cell.specs.declared.cell.Cell.{Cell}
use Rattle.actor_cell.specs.declared.found.Found.{Found}
use Rattle.actor_cell.specs.Founds.{IsFound}
use Rattle.actor_cell.specs.Tells.{told_found}
use Rattle.actor_table.specs.declared.slot.Slot.{Slot}
use Rattle.actor_table.specs.declared.slot.Place.TheVariants.{Home}
use Rattle.actor_table.specs.Slots.{slot_at}
use Rattle.orca_parts.specs.Blocks.{AreKept}

-- this was found of the cell, and the letter that it sends, if it sends one, tells of no row in a block
abbrev pub IsFoundUntold : Options → Program → Cell → Found → Type 0
IsFoundUntold options program c found =
    IsFound options program c found × TellsNothing (Told (told_found found))

-- it was found of the event's actor, whose cell is at home, and the letter that it sends tells of rows in
-- the blocks of their objects
abbrev pub IsFoundFor : Options → Program → Blocks → Found → Event → List Slot → Type 0
IsFoundFor options program blocks found e slots =
    (a : ℕ) → actor_of e ≡ Some a → (c : Cell) → (slot_at slots a).place ≡ Home c
    → IsFound options program c found × AreKept blocks (Told (told_found found))
