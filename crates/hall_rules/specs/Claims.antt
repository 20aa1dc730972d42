-- The claims that are out.
use Rattle.std.specs.Prelude.{ℕ, ◌==◌, ◌&&◌, Bool, true, not, List, find, filter, Option, None, Some, option_map}
use Rattle.std.specs.Option.{option_and_then, option_map_or}
use Rattle.std.specs.List.{list_any}
use Rattle.event_rule.specs.Events.{actor_of}
use Rattle.event_rule.specs.declared.event.Event.{Event}
use Rattle.hall_rules.specs.declared.claim.Claim.{Claim}

-- a claim of this pass is another's than the one that asks, if a pass does
abbrev pub is_anothers : Option ℕ → ℕ → Bool
is_anothers None pass = true
is_anothers (Some own) pass = not (pass == own)

-- the pass, other than the one that asks, whose claim on the actor is out
abbrev pub holder : Option ℕ → ℕ → List Claim → Option ℕ
holder asker a claims =
    option_map (λ c. c.pass) (find (λ c. c.actor == a && is_anothers asker c.pass) claims)

-- of the event's actor, if it has one
abbrev pub holder_for : Option ℕ → Event → List Claim → Option ℕ
holder_for asker e claims = option_and_then (λ a. holder asker a claims) (actor_of e)

-- a claim on the actor is out
abbrev pub is_claimed : List Claim → ℕ → Bool
is_claimed claims a = list_any (λ c. c.actor == a) claims

-- the claims without those of this pass on this actor
abbrev pub without : ℕ → ℕ → List Claim → List Claim
without pass a claims = filter (λ c. not (c.actor == a && c.pass == pass)) claims

-- without those of this pass on the event's actor
abbrev pub without_for : ℕ → Event → List Claim → List Claim
without_for pass e claims = option_map_or (λ a. without pass a claims) (actor_of e) claims
