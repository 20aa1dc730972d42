-- How a run ends whose first event is refused.
use Rattle.std.proofs.Common.{◌≡◌, ◌≢◌, ◌-◌, ◌<◌, ℕ, length, Some, sym, ap, subst, ◌∙◌, arith}
use Rattle.block_table.specs.Blocks.{Blocks}
use Rattle.event_rule.specs.Runs.{ActorsFull, EndsAs, IsFirst, IsFull}
use Rattle.event_rule.specs.Events.{actor_of}
use Rattle.event_rule.specs.declared.event.Event.{Event}
use Rattle.event_rule.specs.declared.event.Event.TheVariants.{Go}
use Rattle.machine_rules.specs.Next.{next}
use Rattle.machine_rules.specs.State.{State}
use Rattle.machine_rules.proofs.Enabling.{full}
use Rattle.row_laws.specs.Blocks.{next_at}
use Rattle.row_laws.proofs.Filling.{from_size}
use Rattle.orca_parts.specs.Faults.{IsFaultWith}
use Rattle.orca_parts.specs.declared.fault.StepFault.{StepFault}
use Rattle.orca_parts.specs.declared.fault.StepFault.TheVariants as faults
use Rattle.orca_core.specs.Machine.{IsFaultOf, Machine, NoneIsAway}
use Rattle.orca_core.proofs.Enabled.{with_none_away}
use Rattle.quiet_pass.specs.Ends.{EndsSo, IsEndOf, IsRowsFullAt}
use Rattle.quiet_pass.specs.declared.ending.End.{End}
use Rattle.quiet_pass.specs.declared.ending.End.TheVariants as ends

module _ (m : Machine) (e : Event) (entries budget : ℕ) (room : entries < budget) (first : IsFirst next m.state e) where
  abbrev Ends : End → Type 0
  Ends end = EndsSo end m.state m.blocks entries budget

  -- it would make an actor too many
  full_end : (a : ℕ) → (next m.state e ≡ IsFull) × (actor_of e ≡ Some a) → EndsAs next (ActorsFull a) m.state entries budget
  full_end a is =
      let refused = full m.state e is.0 in
      let name : Some refused.actor ≡ Some a = sym (ap actor_of refused.is_go) ∙ is.1 in
      let go : e ≡ Go a = let its : refused.actor ≡ a = cc in refused.is_go ∙ ap Go its in
      record { room = room; first = subst (IsFirst next m.state) go first; full = ap (next m.state) (sym go) ∙ is.0 }

  -- or more rows than there are free blocks
  rows_end : (a : ℕ) → IsFaultWith m.blocks m.state.objects (next m.state e) e (faults.NoRows a) → IsRowsFullAt a m.state m.blocks entries budget
  rows_end a is =
      let lacks = is.0 in
      let more = lacks.more in
      let size = from_size a (next_at m.state.actors a) (lacks.to.objects - m.state.objects) in
      record {
        room = room;
        first = subst (IsFirst next m.state) is.1 first;
        some = lacks.some;
        lacks = record { to = lacks.to; goes = ap (next m.state) (sym is.1) ∙ lacks.goes; more = omega (arith, more, size) };
      }

  ends_by : (fault : StepFault) (end : End) → IsFaultWith m.blocks m.state.objects (next m.state e) e fault → IsEndOf fault end → Ends end
  ends_by faults.NotEnabled end is its = absurd its
  ends_by (faults.ActorsFull a) end is its = subst Ends (sym its) (full_end a is)
  ends_by (faults.NoRows a) end is its = subst Ends (sym its) (rows_end a is)
  ends_by faults.NoMemory end is its = subst Ends (sym its) tt

  -- the run ends as the fault says
  pub ends_so : NoneIsAway m → (fault : StepFault) (end : End) → IsFaultOf m e fault → IsEndOf fault end → Ends end
  ends_so home fault end is =
      ends_by fault end (subst (λ step. IsFaultWith m.blocks m.state.objects (step m.state e) e fault) (with_none_away m.out home) is)

-- without blocks it does not end for want of them
pub never_rows : (end : End) (s : State) (blocks : Blocks) (entries budget : ℕ) → length blocks ≡ 0 → EndsSo end s blocks entries budget → (actor : ℕ) → end ≢ ends.NoRows actor
never_rows end s blocks entries budget none so actor is =
    let lacks : IsRowsFullAt actor s blocks entries budget = subst (λ x. EndsSo x s blocks entries budget) is so in
    omega (arith, lacks.some, none)
