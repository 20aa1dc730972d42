-- An event that is prepared, and then done.
use Rattle.std.specs.Prelude.{ℕ, ◌≡◌, ◌++◌, ◌<◌, List, [], length, Option, IfErr, OnOk}
use Rattle.std.specs.declared.result.Result.{Result}
use Rattle.orca_names.specs.declared.names.Thing.{Thing}
use Rattle.orca_names.specs.declared.options.Options.{Options}
use Rattle.row_store.specs.Told.{Lying}
use Rattle.row_store.specs.Words.{Words}
use Rattle.letter_kinds.specs.Telling.{HoldsTold, TellsOnly, Told, made_in}
use Rattle.behaviour_code.specs.declared.code.Program.{Program}
use Rattle.event_rule.specs.Runs.{Goes}
use Rattle.event_rule.specs.declared.event.Event.{Event}
use Rattle.event_rule.specs.declared.event.Event.TheVariants as events
use Rattle.machine_rules.specs.Next.{next}
use Rattle.actor_cell.specs.Moves.{act_in}
use Rattle.actor_cell.specs.Tells.{told_out}
use Rattle.actor_table.specs.Slots.{actors_of, away_of, slot_at}
use Rattle.actor_table.specs.Telling.{TableLies, TableTells}
use Rattle.orca_parts.specs.Blocks.{AreKept, blocks_by, next_serial, rows_kept}
use Rattle.orca_parts.specs.Away.{KeepsAway}
use Rattle.orca_parts.specs.Core.{IsAlike, KeepsCore, StandsWell, core_state, next_in}
use Rattle.orca_parts.specs.Faults.{IsFaultWith}
use Rattle.orca_parts.specs.Fits.{CanHearFirst, CanScan, FitsBlock, FitsCollect, FitsLeave, FitsReap, FitsTake}
use Rattle.orca_parts.specs.Goes.{FitsGo, FitsPlaces}
use Rattle.orca_parts.specs.Woken.{IsLowestWoken}
use Rattle.orca_parts.specs.declared.fault.StepFault.{StepFault}
use Rattle.orca_parts.specs.declared.insides.Core.{Core}
use Rattle.orca_parts.specs.declared.parts.Parts.{Parts}
use Rattle.orca_parts.specs.declared.ready.Ready.{Ready}

-- what was found of the event is so, and there is room for it
abbrev pub FitsEvent : Options → Program → Event → Parts → Type 0
FitsEvent options program (events.Take a) m = FitsTake a m
FitsEvent options program (events.Go a) m = FitsGo options program a m.turned m × FitsPlaces m
FitsEvent options program (events.Collect a) m = FitsCollect options.trace a m.sweep m
FitsEvent options program (events.Leave a) m = FitsLeave a m.letters.items m
FitsEvent options program (events.Block a) m = FitsBlock a m
FitsEvent options program events.Hear m = CanHearFirst m.notes.items m.detector
FitsEvent options program events.Scan m = CanScan m.token m.table.slots m.detector
FitsEvent options program (events.Reap number) m =
    FitsReap number m.members.items m.letters.items m

abbrev pub FitsReady : Options → Program → Ready → Parts → Type 0
FitsReady options program ready m = FitsEvent options program ready.event m

-- the fault says what the event leads to
abbrev pub IsFaultIn : Core → Event → StepFault → Type 0
IsFaultIn m e = IsFaultWith m.parts.blocks m.parts.objects (next_in m e) e

-- the event is prepared: but for room all is the same, what was found of it fits, or it is refused for
-- what it leads to; what was found last stands well still
pub record Prepares {T : Type 0} (e : Event) (old new : Core) (result : Result T StepFault)
    : Type 0 where
  pub same : KeepsCore old new
  pub ok : OnOk result (FitsEvent new.options new.code.now e new.parts)
  pub fault : IfErr result (IsFaultIn old e)
  pub stands : StandsWell old → StandsWell new

-- what the letter that was found brings of rows in blocks
abbrev pub told_first : Event → Parts → List (Thing × Lying)
told_first (events.Go a) m = told_out m.turned
told_first e m = []

-- the rows that the turn made, in these blocks
abbrev pub made_by : Event → Parts → List ℕ → List (Thing × Lying)
made_by (events.Go a) m placed =
    made_in a (next_serial (slot_at m.table.slots a)) (rows_kept (act_in m.turned) m.turn) placed
made_by e m placed = []

-- what the event adds to what is told of rows in blocks
abbrev pub told_by : Event → Parts → List ℕ → List (Thing × Lying)
told_by e m placed = told_first e m ++ made_by e m placed

-- the event is done: the state is the one that it leads to, the same cells are away, and the lowest actor
-- that it wakes is told; what was found last stands well still; of rows in blocks nothing is told but
-- what was told before and what the event adds; where there are blocks, all own rows lie in them still;
-- and these are the blocks then
pub record Applies (e : Event) (old new : Core) (lowest : Option ℕ) : Type 0 where
  pub state : next (core_state old) e ≡ Goes (core_state new)
  pub alike : IsAlike old new
  pub away : KeepsAway (away_of old.parts.table.slots) (away_of new.parts.table.slots)
  pub woken : IsLowestWoken (actors_of old.parts.table.slots) (actors_of new.parts.table.slots)
      lowest
  pub stands : StandsWell old → StandsWell new
  pub told : TellsOnly (TableTells old.parts.table.slots)
      (told_by e old.parts new.parts.placed.items) (TableTells new.parts.table.slots)
  pub lie : 0 < length old.parts.blocks
      → TableLies old.parts.table.slots → TableLies new.parts.table.slots
  pub blocks : new.parts.blocks ≡ blocks_by e old.parts

-- these words hold what is told after the event; what it made it tells of the objects that have the blocks
pub record Lies (known : Words) (e : Event) (old new : Core) : Type 0 where
  pub holds : HoldsTold known (TableTells new.parts.table.slots)
  pub made : AreKept new.parts.blocks (Told (made_by e old.parts new.parts.placed.items))
