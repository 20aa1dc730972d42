-- What is checked of reasons, without walking a path.
use Rattle.std.specs.Prelude.{ℕ, ◌≡◌, ◌+◌, Bool, true, false, List, All, Option, IfSome, IsSomeAnd}
use Rattle.std.specs.List.{find}
use Rattle.std.specs.Option.{option_map_or}
use Rattle.orca_names.specs.Names.{is_thing}
use Rattle.orca_names.specs.declared.names.Thing.{Thing}
use Rattle.orca_names.specs.declared.names.Thing.TheVariants.{Actor, Obj}
use Rattle.orca_names.specs.declared.reason.Reason.{Reason}
use Rattle.orca_names.specs.declared.reason.Why.{Why}
use Rattle.orca_names.specs.declared.reason.Why.TheVariants.{Pinned, Frame, Letter, By, Loose}
use Rattle.machine_rules.specs.Actors.{Actors, seat_at}
use Rattle.why_path.specs.Edges.{LeadsBy, LeadsTo}
use Rattle.why_path.specs.Reasons.{IsRoot, ListsLeft, applies}

-- the line of a thing, if it has one
abbrev pub line_of : List Reason → Thing → Option Reason
line_of reasons x = find (λ r. is_thing r.thing x) reasons

abbrev pub is_loose : Why → Bool
is_loose Pinned = false
is_loose Frame = false
is_loose Letter = false
is_loose (By parent edge) = false
is_loose Loose = true

-- no line says that the thing is loose
abbrev pub IsNotLoose : List Reason → Thing → Type 0
IsNotLoose reasons x = IfSome (line_of reasons x) (λ r. is_loose r.why ≡ false)

-- the thing is an actor to which this applies
unfoldable pub applies_to : Actors → Thing → Why → Bool
applies_to actors (Actor a) why = option_map_or (applies why) (seat_at actors a) false
applies_to actors (Obj n) why = false

-- the thing's line is not loose, and stands one level lower
abbrev pub StandsBelow : List Reason → Thing → ℕ → Type 0
StandsBelow reasons x level =
    IsSomeAnd (line_of reasons x) (λ r. (is_loose r.why ≡ false) × (r.level + 1 ≡ level))

-- each root reason applies; each parent is not loose and stands one level lower, with that edge; no
-- loose thing is a root; the level of a root, and of a loose thing, is free
abbrev pub LineHolds : Actors → List Reason → Thing → ℕ → Why → Type 0
LineHolds actors reasons x level Pinned = applies_to actors x Pinned ≡ true
LineHolds actors reasons x level Frame = applies_to actors x Frame ≡ true
LineHolds actors reasons x level Letter = applies_to actors x Letter ≡ true
LineHolds actors reasons x level (By parent edge) =
    StandsBelow reasons parent level × LeadsBy actors parent edge x
LineHolds actors reasons x level Loose = ¬ IsRoot actors x

abbrev pub Holds : Actors → List Reason → Reason → Type 0
Holds actors reasons r = LineHolds actors reasons r.thing r.level r.why

-- no edge leads from the thing to a loose one
abbrev pub LeadsToNoneLoose : Actors → List Reason → Thing → Type 0
LeadsToNoneLoose actors reasons t = (x : Thing) → LeadsTo actors t x → IsNotLoose reasons x

-- it does not lead so, unless it is loose itself
abbrev pub IsClosedAt : Actors → List Reason → Reason → Type 0
IsClosedAt actors reasons r = is_loose r.why ≡ false → LeadsToNoneLoose actors reasons r.thing

pub record HoldsUp (actors : Actors) (reasons : List Reason) : Type 0 where
  -- each thing that is left stands once, in order
  pub lists : ListsLeft actors reasons
  -- what each line says is so
  pub lines : All (Holds actors reasons) reasons
  -- no edge leads from a kept thing to a loose one
  pub closed : All (IsClosedAt actors reasons) reasons
