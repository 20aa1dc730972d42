-- How one worker goes on, and how the run then ends.
use Rattle.std.specs.Prelude.{ℕ, ◌≡◌, ◌<◌, ◌++◌, List, length, ⊤}
use Rattle.block_table.specs.Blocks.{Blocks}
use Rattle.event_rule.specs.Runs.{ActorsFull, Budget, EndsAs, IsFirst, LeadsInOrder, Quiet}
use Rattle.event_rule.specs.declared.event.Event.{Event}
use Rattle.event_rule.specs.declared.event.Event.TheVariants.{Go}
use Rattle.machine_rules.specs.Next.{next}
use Rattle.machine_rules.specs.State.{State}
use Rattle.row_laws.specs.Blocks.{LacksBlocks, LeadsWithBlocks}
use Rattle.orca_parts.specs.declared.fault.StepFault.{StepFault}
use Rattle.orca_parts.specs.declared.fault.StepFault.TheVariants as faults
use Rattle.orca_core.specs.Machine.{Machine}
use Rattle.quiet_pass.specs.declared.ending.End.{End}
use Rattle.quiet_pass.specs.declared.ending.End.TheVariants as ends

-- what was added to the book leads on in the one-worker order; where there are blocks, each event had
-- enough of them for its rows, and these are the blocks then
pub record GoesOnTo (m : Machine) (book : List Event) (n : Machine) (longer : List Event)
    : Type 0 where
  pub later : List Event
  pub added : longer ≡ book ++ later
  pub leads : LeadsInOrder next m.state later n.state
  pub blocks : 0 < length m.blocks → LeadsWithBlocks m.state m.blocks later n.state n.blocks

-- the first event is the actor's go, which makes more rows than there are free blocks
pub record IsRowsFullAt (actor : ℕ) (s : State) (blocks : Blocks) (entries budget : ℕ) : Type 0 where
  pub room : entries < budget
  pub first : IsFirst next s (Go actor)
  pub some : 0 < length blocks
  pub lacks : LacksBlocks s (Go actor) blocks

-- the run ends as this says; want of memory says nothing
abbrev pub EndsSo : End → State → Blocks → ℕ → ℕ → Type 0
EndsSo ends.Quiet s blocks entries budget = EndsAs next Quiet s entries budget
EndsSo ends.Budget s blocks entries budget = EndsAs next Budget s entries budget
EndsSo (ends.Full actor) s blocks entries budget = EndsAs next (ActorsFull actor) s entries budget
EndsSo (ends.NoRows actor) s blocks entries budget = IsRowsFullAt actor s blocks entries budget
EndsSo ends.NoMemory s blocks entries budget = ⊤

-- the end that a fault makes of a run whose first event has it
abbrev pub IsEndOf : StepFault → End → Type 0
IsEndOf faults.NotEnabled end = ⊥
IsEndOf (faults.ActorsFull actor) end = end ≡ ends.Full actor
IsEndOf (faults.NoRows actor) end = end ≡ ends.NoRows actor
IsEndOf faults.NoMemory end = end ≡ ends.NoMemory
