-- What the state of the machine allows, and for what it has room.
use Rattle.std.specs.Prelude.{ℕ, ◌≡◌, ◌<◌, true, false, Bool, List, [], ◌∷◌, Option, None, Some, set}
use Rattle.std.specs.List.Sorted.{IsStrictlySortedBy}
use Rattle.std.specs.Ordering.{nat_cmp}
use Rattle.letter_kinds.specs.Letters.{Letter}
use Rattle.letter_kinds.specs.declared.note.Note.{Note}
use Rattle.letter_kinds.specs.Detector.{Token, closed_set}
use Rattle.letter_kinds.specs.Telling.{TellsOnly}
use Rattle.cycle_detect.specs.Room.{CanHear, DetectorValue}
use Rattle.detector_tokens.specs.Room.{Fits}
use Rattle.detector_tokens.specs.Open.{CanOpen, new_token}
use Rattle.event_rule.specs.declared.event.Event.{Event}
use Rattle.event_rule.specs.declared.event.Event.TheVariants.{Block, Collect, Leave}
use Rattle.machine_rules.specs.Detect.{acked_token, reap_decs}
use Rattle.machine_rules.specs.Collect.{is_marked}
use Rattle.orca_names.specs.declared.trace.Trace.{Trace}
use Rattle.letter_kinds.specs.Counting.{Amount, by_owner, given_back}
use Rattle.actor_cell.specs.declared.cell.Cell.{Cell}
use Rattle.actor_cell.specs.declared.sweeping.Sweep.{Sweep}
use Rattle.actor_cell.specs.Cells.{as_cell}
use Rattle.actor_cell.specs.Outs.{left_behind, report_of}
use Rattle.actor_cell.specs.Sweeps.{sweep_of}
use Rattle.std.specs.VecDeque.{deque_capacity, deque_len}
use Rattle.behaviour_code.specs.declared.code.Program.{Program}
use Rattle.mail_rows.specs.Mail.{first_brought}
use Rattle.machine_rules.specs.Guards.{may_do}
use Rattle.machine_rules.specs.Options.{Options}
use Rattle.actor_cell.specs.Takes.{HasRoomFor}
use Rattle.actor_table.specs.declared.slot.Slot.{Slot}
use Rattle.actor_table.specs.declared.slot.Place.TheVariants.{Home}
use Rattle.orca_parts.specs.declared.parts.Parts.{Parts}
use Rattle.orca_parts.specs.Parts.{state_of}
use Rattle.actor_table.specs.Slots.{actors_of, away_of, slot_at}
use Rattle.actor_table.specs.Telling.{TableLies, TableTells}
use Rattle.orca_parts.specs.Letters.{FitLetters}
use Rattle.orca_parts.specs.Reaping.{AreHome}
use Rattle.orca_parts.specs.Touched.{receivers}

-- there is a note, and the first can be heard
abbrev pub CanHearFirst : List Note → DetectorValue → Type 0
CanHearFirst [] d = ⊥
CanHearFirst (note ∷ later) d = CanHear note d

-- the token is the one that the closed set becomes; without one the set is empty
pub record CanOpenNow (token : Token) (slots : List Slot) (d : DetectorValue) : Type 0 where
  pub first : ℕ
  pub rest : List ℕ
  pub closed : closed_set d.state ≡ first ∷ rest
  pub token_is : token ≡ new_token (first ∷ rest) d.state
  pub apart : CanOpen (first ∷ rest) d.state
  pub fits : Fits (first ∷ rest) d.room
  pub letters : FitLetters (first ∷ rest) slots

abbrev pub CanOpenThen : Option Token → List Slot → DetectorValue → Type 0
CanOpenThen None slots d = closed_set d.state ≡ []
CanOpenThen (Some token) slots d = CanOpenNow token slots d

-- there is news, and what the scan leads to fits
pub record CanScan (token : Option Token) (slots : List Slot) (d : DetectorValue) : Type 0 where
  pub news : d.state.news ≡ true
  pub open_then : CanOpenThen token slots d

-- all members of the open token acknowledged, their cells are at home, and the letters give back
-- what they held outside
pub record FitsReap (number : ℕ) (members : List ℕ) (letters : List (ℕ × List Amount)) (m : Parts)
    : Type 0 where
  pub token : Token
  pub acked : acked_token number m.detector.state ≡ Some token
  pub its : token.members ≡ members
  pub rising : IsStrictlySortedBy nat_cmp members
  pub home : AreHome members m.table.slots
  pub decs : letters ≡ reap_decs members members (actors_of m.table.slots)
  pub fit : FitLetters (receivers letters) m.table.slots

-- none of these is away
abbrev pub without_all : List ℕ → List Bool → List Bool
without_all [] away = away
without_all (a ∷ members) away = without_all members (set away a false)

-- the sweep is that of the cell with this tracing, and gives back what the cell holds and does not mark
pub record CollectsWith (trace : Trace) (a : ℕ) (found : Sweep) (c : Cell) : Type 0 where
  pub found_is : found ≡ sweep_of trace c
  pub back_is : found.plan.back
      ≡ by_owner (given_back (is_marked trace a (as_cell c)) (as_cell c).holdings)

-- this is known of the sweep of the cell at home, where it is idle and dirty
abbrev pub IsKnownSweep : Trace → Sweep → Slot → Type 0
IsKnownSweep trace found x = (c : Cell) → x.place ≡ Home c → c.frame ≡ None → c.dirty ≡ true
    → found ≡ sweep_of trace c

-- the actor's cell is at home and may do this event, and something holds of it
pub record ActsAt (e : Event) (x : Slot) (Q : Cell → Type 0) : Type 0 where
  pub cell : Cell
  pub home : x.place ≡ Home cell
  pub may : may_do (as_cell cell) x.mail.letters e ≡ true
  pub so : Q cell

-- ---- what was prepared fits

-- the actor is idle and has a letter, and there is room for what this brings and for what is noted
pub record FitsTake (a : ℕ) (m : Parts) : Type 0 where
  pub cell : Cell
  pub home : (slot_at m.table.slots a).place ≡ Home cell
  pub letter : Letter
  pub later : List Letter
  pub letters : (slot_at m.table.slots a).mail.letters ≡ letter ∷ later
  pub idle : cell.frame ≡ None
  pub room : HasRoomFor letter (first_brought (slot_at m.table.slots a).mail) cell
  pub note : cell.reported ≡ true → deque_len m.notes < deque_capacity m.notes

-- the sweep is that of the actor with this tracing, and the letters that return what it gives back fit
pub record FitsCollect (trace : Trace) (a : ℕ) (found : Sweep) (m : Parts) : Type 0 where
  pub acts : ActsAt (Collect a) (slot_at m.table.slots a) (CollectsWith trace a found)
  pub fit : FitLetters (receivers found.plan.back) m.table.slots

-- the actor may leave, the letters return what it held, and fit
pub record FitsLeave (a : ℕ) (letters : List (ℕ × List Amount)) (m : Parts) : Type 0 where
  pub acts : ActsAt (Leave a) (slot_at m.table.slots a) (λ c. letters ≡ left_behind a (as_cell c))
  pub fit : FitLetters (receivers letters) m.table.slots

-- the actor may report, its report stands there, and there is room for it
pub record FitsBlock (a : ℕ) (m : Parts) : Type 0 where
  pub acts : ActsAt (Block a) (slot_at m.table.slots a)
      (λ c. m.report ≡ Some (report_of a (as_cell c)))
  pub room : deque_len m.notes < deque_capacity m.notes

-- but for room all is the same
pub record OnlyRoom (old new : Parts) : Type 0 where
  pub state : (program : Program) (options : Options)
      → state_of program options new ≡ state_of program options old
  pub away : away_of new.table.slots ≡ away_of old.table.slots
  pub told : TellsOnly (TableTells old.table.slots) [] (TableTells new.table.slots)
  pub lie : TableLies old.table.slots → TableLies new.table.slots
  pub blocks : new.blocks ≡ old.blocks

-- what was found of a turn stays; memory for a letter may come
pub record KeepsTurn (old new : Parts) : Type 0 where
  pub turn : new.turn ≡ old.turn
  pub turned : new.turned ≡ record old.turned { room = new.turned.room }
