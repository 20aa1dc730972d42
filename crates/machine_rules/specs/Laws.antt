-- When events of the machine that collects are enabled and refused.
use Rattle.std.specs.Prelude.{◌≡◌, ◌↔◌}
use Rattle.event_rule.specs.declared.event.Event.{Event}
use Rattle.event_rule.specs.Runs.{IsEnabled, IsFull}
use Rattle.machine_rules.specs.Enabled.{CanHappen, IsRefusedAsFull}
use Rattle.machine_rules.specs.Next.{next}
use Rattle.machine_rules.specs.State.{State}

-- an event is enabled exactly where it can happen
abbrev pub EnabledExactly : Type 0
EnabledExactly = (s : State) (e : Event) → IsEnabled next s e ↔ CanHappen s e

-- and refused exactly at a go that makes an actor too many
abbrev pub FullExactly : Type 0
FullExactly = (s : State) (e : Event) → next s e ≡ IsFull ↔ IsRefusedAsFull s e
