-- Why a hall refuses a claim or an entry: the first cause that is there, in this order.
use Rattle.std.specs.Prelude.{ℕ, ◌≡◌, ◌==◌, Bool, true, false, nat_lt, is_some, length, Option, None, Some, option_map, if◌then◌else◌, ⊤}
use Rattle.std.specs.Option.{option_and_then, option_or}
use Rattle.event_rule.specs.Events.{actor_of, first_of}
use Rattle.event_rule.specs.Runs.{Step, NotEnabled, IsFull, Goes}
use Rattle.event_rule.specs.declared.event.Event.{Event}
use Rattle.machine_rules.specs.Actors.{seat_at}
use Rattle.machine_rules.specs.Next.{next}
use Rattle.machine_rules.specs.State.{State}
use Rattle.work_board.specs.declared.answers.Refuse.{Refuse}
use Rattle.work_board.specs.declared.answers.Refuse.TheVariants as why
use Rattle.hall_rules.specs.Claims.{holder, holder_for}
use Rattle.hall_rules.specs.Halls.{HallValue, hall_state}

-- the actor was not made, or is gone
abbrev pub absent_cause : State → ℕ → Option Refuse
absent_cause s a =
    if nat_lt a (length s.actors) then (if is_some (seat_at s.actors a) then None else Some why.Gone)
    else Some (why.Unknown (length s.actors))

-- this pass, another than the one that asks, has a claim on it
abbrev pub busy_cause : Option ℕ → Option Refuse
busy_cause holder = option_map why.Busy holder

-- one of both, for the event's actor, if it has one
abbrev pub actor_cause : State → Option ℕ → Event → Option Refuse
actor_cause s holder e = option_and_then (λ a. option_or (absent_cause s a) (busy_cause holder)) (actor_of e)

-- the event is not enabled
abbrev pub unready_cause : Step State → Option Refuse
unready_cause NotEnabled = Some why.NotReady
unready_cause IsFull = None
unready_cause (Goes t) = None

-- the book is as long as the budget
abbrev pub spent_cause : ℕ → ℕ → Option Refuse
spent_cause long budget = if long == budget then Some (why.Budget long) else None

-- the event's actor would make one actor too many
abbrev pub full_cause : Step State → Event → Option Refuse
full_cause NotEnabled e = None
full_cause IsFull e = option_map why.Full (actor_of e)
full_cause (Goes t) e = None

-- why the event is not tried, where the book is so long and this pass has a claim on its actor
abbrev pub early_cause : State → ℕ → ℕ → Option ℕ → Event → Option Refuse
early_cause s long budget holder e =
    option_or (actor_cause s holder e) (option_or (unready_cause (next s e)) (spent_cause long budget))

-- why it does not become an entry
abbrev pub entry_cause : HallValue → Option ℕ → Event → Option Refuse
entry_cause h asker e =
    option_or (early_cause (hall_state h) (length h.book) h.budget (holder_for asker e h.claims) e)
    (full_cause (next (hall_state h) e) e)

-- ---- of a claim

abbrev pub is_enabled : {S : Type 0} → Step S → Bool
is_enabled NotEnabled = false
is_enabled IsFull = true
is_enabled (Goes t) = true

-- the first of the actor's events that is enabled
abbrev pub event_at : State → ℕ → Option Event
event_at s = first_of (λ e. is_enabled (next s e))

-- it has none
abbrev pub idle_cause : Option Event → Option Refuse
idle_cause None = Some why.NotReady
idle_cause (Some e) = None

-- why a claim is refused, where this pass has one on the actor
abbrev pub held_cause : State → Option ℕ → ℕ → Option Refuse
held_cause s holder a = option_or (absent_cause s a) (option_or (busy_cause holder) (idle_cause (event_at s a)))

abbrev pub claim_cause : HallValue → ℕ → Option Refuse
claim_cause h a = held_cause (hall_state h) (holder None a h.claims) a

-- ---- the answer

-- the refusal is this cause; want of memory is free
abbrev pub IsRefusal : Option Refuse → Refuse → Type 0
IsRefusal cause why.NoMemory = ⊤
IsRefusal cause refuse = cause ≡ Some refuse
