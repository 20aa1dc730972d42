-- The first actor that can do something.
use Rattle.std.specs.Prelude.{◌≡◌, ℕ, List, [], ◌∷◌, Option, Some, None, All, slice_get, take}
use Rattle.event_rule.specs.declared.event.Event.{Event}
use Rattle.event_rule.specs.declared.event.Event.TheVariants.{Take, Go}
use Rattle.turn_rules.specs.declared.act.Frame.{Frame}
use Rattle.plain_rules.specs.declared.PlainActor.{PlainActor}
use Rattle.plain_rules.specs.declared.PlainLetter.{PlainLetter}

-- an actor with this frame goes, and without one takes the first of these letters
abbrev pub event_with : ℕ → Option Frame → List PlainLetter → Option Event
event_with a (Some frame) letters = Some (Go a)
event_with a None (letter ∷ letters) = Some (Take a)
event_with a None [] = None

-- what an actor can do
abbrev pub event_of : ℕ → PlainActor → Option Event
event_of a x = event_with a x.frame x.letters

-- it can do nothing
abbrev pub IsIdle : PlainActor → Type 0
IsIdle x = event_of 0 x ≡ None

-- the event is what an actor can do before which all are idle
pub record ComesFirst (actors : List PlainActor) (e : Event) : Type 0 where
  pub place : ℕ
  pub actor : PlainActor
  pub there : slice_get actors place ≡ Some actor
  pub before : All IsIdle (take place actors)
  pub event : event_of place actor ≡ Some e
