-- Which events of some kind are enabled, and which of them is the first.
use Rattle.std.specs.Prelude.{ℕ, ◌≡◌, Bool, false, not, if◌then◌else◌, List, Some}
use Rattle.std.specs.Option.{option_map_or}
use Rattle.event_rule.specs.Events.{actor_of}
use Rattle.event_rule.specs.Runs.{IsFirst, Machine, NotEnabled, Step}
use Rattle.event_rule.specs.declared.event.Event.{Event}
use Rattle.machine_rules.specs.State.{State}
use Rattle.orca_parts.specs.Away.{next_without}

-- it is an event of an actor that is not set aside
abbrev pub is_free : (ℕ → Bool) → Event → Bool
is_free is_aside e = option_map_or (λ a. not (is_aside a)) (actor_of e) false

-- what the events of this kind lead to while these cells are away; no others are enabled
abbrev pub next_of_kind : (Event → Bool) → List Bool → State → Event → Step State
next_of_kind kind away s e = if kind e then next_without away s e else NotEnabled

-- the actor has the first of the enabled events
abbrev pub HasFirst : Machine State → State → ℕ → Type 0
HasFirst step s a = (e : Event) × (actor_of e ≡ Some a) × IsFirst step s e
