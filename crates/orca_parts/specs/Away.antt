-- Actors whose cells are away.
use Rattle.std.specs.Prelude.{ℕ, ◌≡◌, Bool, false, if◌then◌else◌, List, get_or}
use Rattle.std.specs.Option.{option_map_or}
use Rattle.event_rule.specs.Events.{actor_of}
use Rattle.event_rule.specs.Runs.{Step, NotEnabled}
use Rattle.event_rule.specs.declared.event.Event.{Event}
use Rattle.machine_rules.specs.Next.{next}
use Rattle.machine_rules.specs.State.{State}

-- the cell of this actor is away
abbrev pub is_out : List Bool → ℕ → Bool
is_out away a = get_or away a false

-- the event is one of an actor whose cell is away
abbrev pub is_out_for : List Bool → Event → Bool
is_out_for away e = option_map_or (is_out away) (actor_of e) false

-- what an event leads to while these cells are away: none of their actors' events is enabled
abbrev pub next_without : List Bool → State → Event → Step State
next_without away s e = if is_out_for away e then NotEnabled else next s e

-- the same cells are away
abbrev pub KeepsAway : List Bool → List Bool → Type 0
KeepsAway old new = (a : ℕ) → is_out new a ≡ is_out old a
