-- The actors of a table, as the rules have them, and who of them has events.
use Rattle.std.specs.Prelude.{ℕ, ◌≡◌, ◌≤◌, ◌&&◌, ◌||◌, if◌then◌else◌, is_some, not, option_and_then, Bool, true, false, List, [], length, map, Option, None, Some, get_or, unwrap_or}
use Rattle.std.specs.Option.{option_map_or}
use Rattle.orca_names.specs.declared.limits.TheConstants.{ACTORS_LIMIT}
use Rattle.event_rule.specs.Events.{first_of}
use Rattle.event_rule.specs.declared.event.Event.{Event}
use Rattle.letter_kinds.specs.Letters.{Letter}
use Rattle.mail_rows.specs.Mail.{Mail}
use Rattle.machine_rules.specs.Actors.{Actors, Seat, seat}
use Rattle.machine_rules.specs.Cell as rules
use Rattle.machine_rules.specs.Guards.{may_do, may_go, may_take}
use Rattle.actor_cell.specs.declared.cell.Cell.{Cell}
use Rattle.actor_cell.specs.Cells.{as_cell}
use Rattle.actor_table.specs.declared.slot.Slot.{Slot}
use Rattle.actor_table.specs.declared.slot.Place.{Place}
use Rattle.actor_table.specs.declared.slot.Place.TheVariants.{Home, Away, Gone}
use Rattle.actor_table.specs.Bringing.{BringsIts}
use Rattle.actor_table.specs.Index.{IsIndex}

-- ---- one actor

-- its seat; of a cell that is away the one that it was when it went
abbrev pub seat_in : Place → List Letter → Option Seat
seat_in (Home c) letters = seat (as_cell c) letters
seat_in (Away c) letters = seat (as_cell c.value) letters
seat_in Gone letters = None

abbrev pub seat_of : Slot → Option Seat
seat_of x = seat_in x.place x.mail.letters

abbrev pub is_away_in : Place → Bool
is_away_in (Home c) = false
is_away_in (Away c) = true
is_away_in Gone = false

abbrev pub is_away : Slot → Bool
is_away x = is_away_in x.place

-- its cell, where this is at home
abbrev pub home_in : Place → Option Cell
home_in (Home c) = Some c
home_in (Away c) = None
home_in Gone = None

abbrev pub home_of : Slot → Option Cell
home_of x = home_in x.place

-- its letters, where it is present
abbrev pub mail_in : Place → Mail → Option Mail
mail_in (Home c) mail = Some mail
mail_in (Away c) mail = Some mail
mail_in Gone mail = None

abbrev pub mail_of : Slot → Option Mail
mail_of x = mail_in x.place x.mail

-- it is gone, and no letter waits
abbrev pub gone : Slot
gone = record { place = Gone; mail = record { letters = []; brought = []; spare = 0 } }

-- whose cell it is, at home or away
abbrev pub owner_in : Place → Option ℕ
owner_in (Home c) = Some c.heap.owner
owner_in (Away c) = Some c.value.heap.owner
owner_in Gone = None

-- if there is a cell, it is that of the actor with this number
abbrev pub IsOwnedBy : ℕ → Place → Type 0
IsOwnedBy a place = unwrap_or (owner_in place) a ≡ a

-- ---- which events it has

-- it goes on, or takes a letter
abbrev pub acts : Seat → Bool
acts o = may_go o.cell o.mail || may_take o.cell o.mail

-- once it neither goes on nor takes a letter, it collects, leaves or blocks: a behaviour that runs
-- will leave it dirty, it is dirty, or it is neither pinned nor reported
abbrev pub settles : Seat → Bool
settles o = is_some o.cell.frame || (o.cell.dirty || not (o.cell.fields.pinned || o.cell.reported))

-- its cell is at home, and it does so
abbrev pub can_act : Slot → Bool
can_act x = not (is_away x) && option_map_or acts (seat_of x) false

abbrev pub can_settle : Slot → Bool
can_settle x = not (is_away x) && option_map_or settles (seat_of x) false

-- its cell is at home, and it may do so with its letters
abbrev pub may_in : (rules.Cell → List Letter → Bool) → Place → List Letter → Bool
may_in may (Home c) letters = may (as_cell c) letters
may_in may (Away c) letters = false
may_in may Gone letters = false

abbrev pub may_at : (rules.Cell → List Letter → Bool) → Slot → Bool
may_at may x = may_in may x.place x.mail.letters

-- its cell is at home, and it may do this event of its own
abbrev pub may_event : Event → Slot → Bool
may_event e x = may_at (λ c mail. may_do c mail e) x

-- the first of its events, in the one-worker order
abbrev pub event_in : ℕ → Seat → Option Event
event_in a o = first_of (may_do o.cell o.mail) a

-- none while its cell is away
abbrev pub event_of : ℕ → Slot → Option Event
event_of a x = if is_away x then None else option_and_then (event_in a) (seat_of x)

-- ---- all

abbrev pub slot_at : List Slot → ℕ → Slot
slot_at slots a = get_or slots a gone

-- the places of all actors, and for how many more there is room
pub record Table : Type 0 where
  pub slots : List Slot
  pub spare : ℕ

-- the actors, as the rules have them
abbrev pub actors_of : List Slot → Actors
actors_of slots = map seat_of slots

abbrev pub places_of : List Slot → List Place
places_of slots = map (λ x. x.place) slots

abbrev pub letters_in : List Slot → List (List Letter)
letters_in slots = map (λ x. x.mail.letters) slots

-- whose cells are away
abbrev pub away_of : List Slot → List Bool
away_of slots = map is_away slots

-- each cell is its actor's, each letter that waits tells of the rows that it brings and of no others,
-- none waits for an actor that is gone, no more actors are made than may be, and the indexes tell who
-- acts, and who settles once nothing else is to be done
pub record AreIndexed (slots : List Slot) (acting settling : List Bool) : Type 0 where
  pub owned : (a : ℕ) → IsOwnedBy a (slot_at slots a).place
  pub brings : (a : ℕ) → BringsIts (slot_at slots a)
  pub few : length slots ≤ ACTORS_LIMIT
  pub acts : IsIndex can_act gone acting slots
  pub settles : IsIndex can_settle gone settling slots
