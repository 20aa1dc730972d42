-- When each fault comes.
use Rattle.std.specs.Prelude.{ℕ, ◌≡◌, ◌+◌, ◌<◌, Bool, false, length, Some, ⊤}
use Rattle.block_table.specs.Blocks.{Blocks, count_free}
use Rattle.event_rule.specs.Events.{actor_of}
use Rattle.event_rule.specs.Runs.{Step, NotEnabled, IsFull, Goes}
use Rattle.event_rule.specs.declared.event.Event.{Event}
use Rattle.event_rule.specs.declared.event.Event.TheVariants.{Go}
use Rattle.machine_rules.specs.State.{State}
use Rattle.orca_parts.specs.declared.fault.StepFault.{StepFault}
use Rattle.orca_parts.specs.declared.fault.StepFault.TheVariants as faults

-- it is refused where it may not be, or memory was
abbrev pub RefusedBy : Bool → StepFault → Type 0
RefusedBy may faults.NotEnabled = may ≡ false
RefusedBy may (faults.ActorsFull a) = ⊥
RefusedBy may (faults.NoRows a) = ⊥
RefusedBy may faults.NoMemory = ⊤

-- the fault says what the event leads to where there are no blocks; want of memory says nothing
abbrev pub IsFault : {S : Type 0} → Step S → Event → StepFault → Type 0
IsFault outcome e faults.NotEnabled = outcome ≡ NotEnabled
IsFault outcome e (faults.ActorsFull a) = (outcome ≡ IsFull) × (actor_of e ≡ Some a)
IsFault outcome e (faults.NoRows a) = ⊥
IsFault outcome e faults.NoMemory = ⊤

-- there are blocks, and the event would make more rows than are free
pub record LacksBlocks (blocks : Blocks) (objects : ℕ) (outcome : Step State) : Type 0 where
  pub to : State
  pub goes : outcome ≡ Goes to
  pub some : 0 < length blocks
  pub more : objects + count_free blocks < to.objects

-- the fault says what the event leads to from where so many objects were made, with these blocks
abbrev pub IsFaultWith : Blocks → ℕ → Step State → Event → StepFault → Type 0
IsFaultWith blocks objects outcome e (faults.NoRows a) =
    LacksBlocks blocks objects outcome × (e ≡ Go a)
IsFaultWith blocks objects outcome e fault = IsFault outcome e fault
