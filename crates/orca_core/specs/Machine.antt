-- The machine that collects, as contracts see its code.
use Rattle.std.specs.Prelude.{ℕ, ◌≡◌, ◌<◌, ◌≤◌, Bool, true, false, if◌then◌else◌, List, length, Option, Some, None, option_map, ⊤}
use Rattle.orca_names.specs.declared.limits.TheConstants.{BOOK_LIMIT}
use Rattle.row_store.specs.Words.{Words}
use Rattle.block_table.specs.Blocks.{Blocks}
use Rattle.behaviour_check.specs.Rules.{IsChecked}
use Rattle.event_rule.specs.declared.event.Event.{Event}
use Rattle.event_rule.specs.declared.event.Event.TheVariants.{Reap}
use Rattle.letter_kinds.specs.Detector.{Token, has}
use Rattle.letter_kinds.specs.Letters.{Letter}
use Rattle.letter_kinds.specs.Telling.{HoldsTold, Told}
use Rattle.machine_rules.specs.Actors.{Seat, cell_at, seat_at}
use Rattle.machine_rules.specs.Cell.{Cell}
use Rattle.machine_rules.specs.Detect.{acked_token}
use Rattle.machine_rules.specs.Run.{IsRun}
use Rattle.machine_rules.specs.State.{State}
use Rattle.actor_cell.specs.declared.found.Found.{Found}
use Rattle.actor_table.specs.Telling.{TableTells}
use Rattle.row_laws.specs.Blocks as rows
use Rattle.row_laws.specs.Laws.{HasBlocks}
use Rattle.orca_parts.specs.Away.{is_out, next_without}
use Rattle.orca_parts.specs.Blocks.{BlocksFit}
use Rattle.orca_parts.specs.Faults.{IsFaultWith}
use Rattle.orca_parts.specs.Founds.{IsFoundFor}
use Rattle.orca_parts.specs.declared.insides.Core.{Core}
use Rattle.orca_parts.specs.Core.{StandsWell, core_state}
use Rattle.orca_parts.specs.Ready.{FitsReady, told_first}
use Rattle.orca_parts.specs.declared.fault.StepFault.{StepFault}
use Rattle.orca_parts.specs.declared.parts.Parts.{Parts}
use Rattle.orca_parts.specs.declared.ready.Ready.{Ready}

-- its state, with the cells that are away; how many events were done; whose cells are away; which object
-- has which block, where rows lie in blocks; and how all this is kept, with its room
pub record Machine : Type 0 where
  pub state : State
  pub steps : ℕ
  pub out : List Bool
  pub blocks : Blocks
  pub kept : Parts

-- the state is reached by a run of the program with as many events
pub record IsReached (state : State) (steps : ℕ) : Type 0 where
  pub checked : IsChecked state.program
  pub heavy : 0 < state.options.weight
  pub light : state.options.weight ≤ 65536
  pub book : List Event
  pub run : IsRun state.program state.options book state
  pub long : length book ≡ steps
  pub early : steps ≤ BOOK_LIMIT

-- it is reached, what was found last awaits a letter still, where it stands, and rows lie in the blocks of
-- their objects, where there are blocks
pub record IsKept (m : Core) (steps : ℕ) : Type 0 where
  pub reached : IsReached (core_state m) steps
  pub stands : StandsWell m
  pub fit : BlocksFit m.options.trace m.parts.blocks m.parts.table.slots
  pub has : 0 < length m.parts.blocks → HasBlocks (core_state m) m.parts.blocks

-- nothing but room is another
pub record IsSame (old new : Machine) : Type 0 where
  pub state : new.state ≡ old.state
  pub steps : new.steps ≡ old.steps
  pub out : new.out ≡ old.out
  pub blocks : new.blocks ≡ old.blocks

-- the event reaps no actor whose cell is away; a reap alone reaps
abbrev pub ReapsNoneAway : Event → Machine → Type 0
ReapsNoneAway (Reap number) m = (t : Token) (a : ℕ) → acked_token number m.state.detector ≡ Some t
    → has t.members a ≡ true → is_out m.out a ≡ false
ReapsNoneAway e m = ⊤

-- what was prepared fits the machine
abbrev pub Fits : Ready → Machine → Type 0
Fits ready m = FitsReady m.state.options m.state.program ready m.kept

-- where there are blocks, these words hold each row that lies in one, as the machine tells it
abbrev pub Stand : Words → Machine → Type 0
Stand known m = 0 < length m.blocks → HoldsTold known (TableTells m.kept.table.slots)

-- and each of which the letter tells that was found for the event
abbrev pub StandsReady : Words → Ready → Machine → Type 0
StandsReady known ready m = 0 < length m.blocks → HoldsTold known (Told (told_first ready.event m.kept))

-- where there are blocks, enough are free for what the event makes
abbrev pub HasRoomFor : State → Event → State → Blocks → Type 0
HasRoomFor s e t blocks = 0 < length blocks → rows.Fits s e t blocks

-- the fault says what the event leads to
abbrev pub IsFaultOf : Machine → Event → StepFault → Type 0
IsFaultOf m e = IsFaultWith m.blocks m.state.objects (next_without m.out m.state e) e

-- what was found of the event's actor is that of its cell
abbrev pub IsFoundIn : Event → Found → Machine → Type 0
IsFoundIn e found m =
    IsFoundFor m.state.options m.state.program m.blocks found e m.kept.table.slots

-- no cell is away
abbrev pub NoneIsAway : Machine → Type 0
NoneIsAway m = (a : ℕ) → is_out m.out a ≡ false

-- the cell of an actor that is present and not away
abbrev pub cell_here : Machine → ℕ → Option Cell
cell_here m a = if is_out m.out a then None else cell_at m.state.actors a

-- the letters of an actor that is present
abbrev pub mail_here : Machine → ℕ → Option (List Letter)
mail_here m a = option_map (λ (o : Seat). o.mail) (seat_at m.state.actors a)
