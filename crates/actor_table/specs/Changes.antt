-- What becomes of an actor by its part of an event, and when this can be done at its place.
use Rattle.std.specs.Prelude.{ℕ, ◌≡◌, ◌≤◌, ◌+◌, ◌<◌, ◌^◌, ⊤, Bool, true, false, if◌then◌else◌, List, [], ◌∷◌, Option, None, Some, IsSome, length, option_map, set, slice_get}
use Rattle.std.specs.Option.{option_map_or}
use Rattle.orca_names.specs.declared.names.Thing.TheVariants.{Actor}
use Rattle.behaviour_code.specs.declared.code.Program.{Program}
use Rattle.turn_rules.specs.Segment.{Turn}
use Rattle.foreign_table.specs.Table.{count_on}
use Rattle.letter_kinds.specs.Letters.{Letter}
use Rattle.letter_kinds.specs.declared.note.Note.{Note}
use Rattle.letter_kinds.specs.Telling.{TellsOnly}
use Rattle.orca_names.specs.declared.trace.Trace.{Trace}
use Rattle.actor_cell.specs.declared.sweeping.Sweep.{Sweep}
use Rattle.actor_cell.specs.declared.turning.Turned.{Turned}
use Rattle.actor_cell.specs.Sweeps.{sweep_of, swept}
use Rattle.machine_rules.specs.Actors.{Actors, Seat, seat_at, seat}
use Rattle.machine_rules.specs.Cell as rules
use Rattle.machine_rules.specs.Take.{cell_after, note_of}
use Rattle.actor_cell.specs.declared.cell.Cell.{Cell}
use Rattle.actor_cell.specs.Moves.{Move, New, act_in}
use Rattle.actor_cell.specs.Cells.{as_cell, settled}
use Rattle.actor_cell.specs.Finding.{HasRoomToMove}
use Rattle.actor_cell.specs.Goes.{CanMove, cell_by, new_entries, out_of}
use Rattle.actor_cell.specs.Takes.{CanTake, HasRoomFor}
use Rattle.ref_weights.specs.Limit.{count_limit}
use Rattle.mail_rows.specs.Mail.{Mail, first_brought}
use Rattle.actor_table.specs.declared.slot.Slot.{Slot}
use Rattle.actor_table.specs.declared.slot.Place.TheVariants.{Home}
use Rattle.actor_table.specs.Slots.{Table, actors_of, away_of, is_away, letters_in, owner_in, places_of, slot_at}
use Rattle.actor_table.specs.Telling.{TableTells}

-- an actor takes the first of its letters; its turn is done as it was found, where one that it makes has
-- the name and is held with the weight; its collection is done as it was found; or it has reported
pub data Change : Type 0 where
  Take : Change
  Go : Turn → Turned → ℕ → ℕ → Change
  Collect : Sweep → Trace → Change
  Block : Change

-- ---- what becomes of its seat

-- one actor's seat changes
abbrev pub changed_at : (Option Seat → Option Seat) → ℕ → Actors → Actors
changed_at change a actors = set actors a (change (seat_at actors a))

-- the first letter is taken, if there is one
abbrev pub seat_taken : Program → ℕ → rules.Cell → List Letter → Option Seat
seat_taken program a c [] = seat c []
seat_taken program a c (letter ∷ later) = seat (cell_after program a letter c) later

abbrev pub taken : Program → ℕ → Option Seat → Option Seat
taken program a None = None
taken program a (Some o) = seat_taken program a o.cell o.mail

-- what is noted of it, where the actor had reported
abbrev pub note_taken_of : ℕ → List Letter → Option Note
note_taken_of a [] = None
note_taken_of a (letter ∷ later) = Some (note_of a letter)

abbrev pub note_taken : ℕ → Option Seat → Option Note
note_taken a None = None
note_taken a (Some o) = if o.cell.reported then note_taken_of a o.mail else None

-- the cell becomes another, and the letters stay
abbrev pub with_cell_by : (rules.Cell → rules.Cell) → Option Seat → Option Seat
with_cell_by change actor = option_map (λ (o : Seat). record o { cell = change o.cell }) actor

-- a turn is done, where there is a frame
abbrev pub moved : ℕ → Turn → ℕ → Move → rules.Cell → rules.Cell
moved a turn place act c = option_map_or (λ frame. cell_by a c frame turn place act) c.frame c

-- the actor that was made gets its name; other acts make none
abbrev pub named : ℕ → ℕ → Move → rules.Cell → rules.Cell
named weight name (New kind register) c = settled weight register name c
named weight name act c = c

-- the actor's seat after the change
abbrev pub seat_after : Program → ℕ → Change → Option Seat → Option Seat
seat_after program a Take = taken program a
seat_after program a (Go turn found name weight) =
    let act = act_in found in
    with_cell_by (λ c. named weight name act (moved a turn found.place act c))
seat_after program a (Collect found trace) = with_cell_by (swept trace a)
seat_after program a Block = with_cell_by (λ c. record c { reported = true })

-- what it takes of the letters
abbrev pub letter_taken : Change → List Letter → Option Letter
letter_taken Take letters = slice_get letters 0
letter_taken change letters = None

-- it is a step of a turn
abbrev pub is_go : Change → Bool
is_go (Go turn found name weight) = true
is_go change = false

-- ---- when that can be done

-- its cell is at home, and something holds of it
pub record HasCell (x : Slot) (Q : Cell → Type 0) : Type 0 where
  pub cell : Cell
  pub home : x.place ≡ Home cell
  pub so : Q cell

-- it is idle and has a letter, its counts allow what the letter does, and there is room for it
pub record CanTakeHere (a : ℕ) (mail : Mail) (c : Cell) : Type 0 where
  pub letter : Letter
  pub later : List Letter
  pub first : mail.letters ≡ letter ∷ later
  pub idle : c.frame ≡ None
  pub can : CanTake a letter (as_cell c).holdings
  pub room : HasRoomFor letter (first_brought mail) c

-- it has a frame, its counts allow what was found of its turn, also to hold an actor that this makes,
-- and there is room for it
pub record CanGoOn (a weight name : ℕ) (turn : Turn) (act : Move) (c : Cell) : Type 0 where
  pub running : IsSome c.frame
  pub can : CanMove a (as_cell c).holdings turn act
  pub objects : length turn.made ≤ c.heap.spare
  pub entries : new_entries act c.foreign.entries ≤ c.foreign.spare
  pub serials : c.heap.next + length turn.made < 2 ^ 64
  pub fits : IsSome (out_of act).made → count_on c.foreign (Actor name) + weight < count_limit

-- the change is allowed with this cell and these letters
abbrev pub AllowsChange : ℕ → Change → Mail → Cell → Type 0
AllowsChange a Take mail c = CanTakeHere a mail c
AllowsChange a (Go turn found name weight) mail c = CanGoOn a weight name turn (act_in found) c
AllowsChange a (Collect found trace) mail c = found ≡ sweep_of trace c
AllowsChange a Block mail c = ⊤

-- its cell is at home, which allows the change
abbrev pub CanChange : ℕ → Change → Slot → Type 0
CanChange a change x = HasCell x (AllowsChange a change x.mail)

-- the cell has room for the change
abbrev pub HasRoomIn : Change → Mail → Cell → Type 0
HasRoomIn Take mail c = (letter : Letter) (later : List Letter)
    → mail.letters ≡ letter ∷ later → HasRoomFor letter (first_brought mail) c
HasRoomIn (Go turn found name weight) mail c = HasRoomToMove turn (act_in found) c
HasRoomIn change mail c = ⊤

-- where its cell is at home, it has room for the change
abbrev pub HasRoomToChange : Change → Slot → Type 0
HasRoomToChange change x = (c : Cell) → x.place ≡ Home c → HasRoomIn change x.mail c

-- ---- what stays

-- no place has less room for letters than before
abbrev pub KeepsRoom : List Slot → List Slot → Type 0
KeepsRoom old new = (b : ℕ) → (slot_at old b).mail.spare ≤ (slot_at new b).mail.spare

-- there is room for as many actors more, and for no fewer letters to each
pub record KeepsSpace (old new : Table) : Type 0 where
  pub spare : new.spare ≡ old.spare
  pub room : KeepsRoom old.slots new.slots

-- but for room for letters all is the same
pub record OnlyTableRoom (old new : Table) : Type 0 where
  pub places : places_of new.slots ≡ places_of old.slots
  pub letters : letters_in new.slots ≡ letters_in old.slots
  pub told : TellsOnly (TableTells old.slots) [] (TableTells new.slots)
  pub actors : actors_of new.slots ≡ actors_of old.slots
  pub away : away_of new.slots ≡ away_of old.slots
  pub space : KeepsSpace old new

-- but for one seat and room all is the same
pub record KeepsRest (old new : Table) : Type 0 where
  pub spare : new.spare ≡ old.spare
  pub away : away_of new.slots ≡ away_of old.slots
  pub room : KeepsRoom old.slots new.slots

-- its cell is of the same actor and away or not as before, and there is no less room for letters
pub record KeepsPlace (old new : Slot) : Type 0 where
  pub away : is_away new ≡ is_away old
  pub owner : owner_in new.place ≡ owner_in old.place
  pub room : old.mail.spare ≤ new.mail.spare
