-- What actors and the letters that wait for them tell of rows in blocks.
use Rattle.std.specs.Prelude.{ℕ, ◌⊎◌, ⊤, List}
use Rattle.letter_kinds.specs.Telling.{Brought, Telling, ToldByOne}
use Rattle.actor_cell.specs.declared.cell.Cell.{Cell}
use Rattle.actor_cell.specs.Tells.{AllIn, Tells}
use Rattle.actor_table.specs.declared.slot.Slot.{Slot}
use Rattle.actor_table.specs.declared.slot.Place.{Place}
use Rattle.actor_table.specs.declared.slot.Place.TheVariants.{Home, Away, Gone}
use Rattle.actor_table.specs.Slots.{slot_at}

-- the cell tells so; one that is away as it was when it went
abbrev pub PlaceTells : Place → Telling
PlaceTells (Home c) n row block = Tells c n row block
PlaceTells (Away c) n row block = Tells c.value n row block
PlaceTells Gone n row block = ⊥

-- the cell or one of these letters tells so
abbrev pub TellsWith : Cell → List Brought → Telling
TellsWith c letters n row block = Tells c n row block ⊎ ToldByOne letters n row block

-- the actor's cell or one of its letters tells so
abbrev pub SlotTells : Slot → Telling
SlotTells x n row block = PlaceTells x.place n row block ⊎ ToldByOne x.mail.brought n row block

-- one of the actors does
abbrev pub TableTells : List Slot → Telling
TableTells slots n row block = (a : ℕ) × SlotTells (slot_at slots a) n row block

-- each own row of the cell lies in a block; of one that is away, as it was when it went
abbrev pub PlaceLies : Place → Type 0
PlaceLies (Home c) = AllIn c.heap
PlaceLies (Away c) = AllIn c.value.heap
PlaceLies Gone = ⊤

-- so it is of each actor
abbrev pub TableLies : List Slot → Type 0
TableLies slots = (a : ℕ) → PlaceLies (slot_at slots a).place
