use Rattle.std.proofs.Common.{◌≡◌, ◌<◌, ◌-◌, ◌&&◌, ℕ, false, length}
use Rattle.std.specs.Prelude.{not}
use Rattle.actor_table.specs.Rounds.{has_event}
use Rattle.actor_table.specs.Slots.{slot_at}
use Rattle.orca_core.proofs.free.first_in.Given as goal

abbrev pub invariant-loop-a : goal.invariant-loop-a
invariant-loop-a g l = (k : ℕ) → k < l.from
    → (has_event l.round (slot_at l.table.slots k) && not (g.S.SetAside.is_aside l.aside k)) ≡ false

abbrev pub decreases-loop-a : goal.decreases-loop-a
decreases-loop-a g l = length l.table.slots - l.from
