-- When each fault comes.
use Rattle.std.specs.Prelude.{ℕ, ◌≡◌, ⊤}
use Rattle.event_rule.specs.Runs.{Step, NotEnabled, IsFull}
use Rattle.plain_machine.specs.declared.machine.PlainFault.{PlainFault}
use Rattle.plain_machine.specs.declared.machine.PlainFault.TheVariants.{NotReady, ActorsFull, NoMemory}

-- the fault says what the event of this actor leads to; want of memory says nothing
abbrev pub Faulted : {S : Type 0} → Step S → ℕ → PlainFault → Type 0
Faulted outcome a NotReady = outcome ≡ NotEnabled
Faulted outcome a (ActorsFull b) = (outcome ≡ IsFull) × (b ≡ a)
Faulted outcome a NoMemory = ⊤
