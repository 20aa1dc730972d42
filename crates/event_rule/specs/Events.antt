-- The order of events and their text.
use Rattle.std.specs.Prelude.{ℕ, Bool, false, ◌==◌, is_none, List, [], ◌∷◌, ◌++◌, find, Option, Some, None, codes}
use Rattle.std.specs.Option.{option_map_or}
use Rattle.std.specs.Ordering.{nat_cmp, on, then_cmp}
use Rattle.std.specs.declared.cmp.Ordering.{Ordering}
use Rattle.std.specs.Fmt.{decimal}
use Rattle.event_rule.specs.declared.event.Event.{Event}
use Rattle.event_rule.specs.declared.event.Event.TheVariants.{Take, Go, Collect, Leave, Block, Hear, Scan, Reap}

-- the round of the one-worker order that has the event: acts and letters, then collections and
-- reports, then the detector's
abbrev pub round_of : Event → ℕ
round_of (Go a) = 0
round_of (Take a) = 0
round_of (Collect a) = 1
round_of (Leave a) = 1
round_of (Block a) = 1
round_of Hear = 2
round_of Scan = 3
round_of (Reap token) = 4

-- the number of its actor or token, 0 where it has none
abbrev pub actor_or_token : Event → ℕ
actor_or_token (Go a) = a
actor_or_token (Take a) = a
actor_or_token (Collect a) = a
actor_or_token (Leave a) = a
actor_or_token (Block a) = a
actor_or_token Hear = 0
actor_or_token Scan = 0
actor_or_token (Reap token) = token

-- in a round an actor goes before it takes, and collects before it leaves or blocks
abbrev pub turn_in_round : Event → ℕ
turn_in_round (Go a) = 0
turn_in_round (Take a) = 1
turn_in_round (Collect a) = 0
turn_in_round (Leave a) = 1
turn_in_round (Block a) = 2
turn_in_round Hear = 0
turn_in_round Scan = 0
turn_in_round (Reap token) = 0

-- the one-worker order: by round, then by number, then by turn
abbrev pub event_cmp : Event → Event → Ordering
event_cmp =
    then_cmp (then_cmp (on round_of nat_cmp) (on actor_or_token nat_cmp)) (on turn_in_round nat_cmp)

-- as the run book writes it, without the line feed
abbrev pub event_text : Event → List ℕ
event_text (Take a) = codes "take " ++ decimal a
event_text (Go a) = codes "go " ++ decimal a
event_text (Collect a) = codes "collect " ++ decimal a
event_text (Leave a) = codes "leave " ++ decimal a
event_text (Block a) = codes "block " ++ decimal a
event_text Hear = codes "hear"
event_text Scan = codes "scan"
event_text (Reap token) = codes "reap " ++ decimal token

-- the actor that acts, where one does; the others are the detector's
abbrev pub actor_of : Event → Option ℕ
actor_of (Take a) = Some a
actor_of (Go a) = Some a
actor_of (Collect a) = Some a
actor_of (Leave a) = Some a
actor_of (Block a) = Some a
actor_of Hear = None
actor_of Scan = None
actor_of (Reap token) = None

-- it is an event of this actor
abbrev pub is_of : ℕ → Event → Bool
is_of a e = option_map_or (λ b. b == a) (actor_of e) false

-- it is an event of the detector
abbrev pub is_of_detector : Event → Bool
is_of_detector e = is_none (actor_of e)

-- the events of an actor, in the one-worker order
abbrev pub events_of : ℕ → List Event
events_of a = Go a ∷ Take a ∷ Collect a ∷ Leave a ∷ Block a ∷ []

-- the first of them that passes
abbrev pub first_of : (Event → Bool) → ℕ → Option Event
first_of passes a = find passes (events_of a)
