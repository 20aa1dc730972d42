-- What is gone stays gone.
use Rattle.std.specs.Prelude.{◌<◌, ◌≡◌, List, length, Some}
use Rattle.orca_names.specs.declared.names.Thing.{Thing}
use Rattle.orca_names.specs.declared.names.Thing.TheVariants.{Actor, Obj}
use Rattle.event_rule.specs.declared.event.Event.{Event}
use Rattle.machine_rules.specs.Actors.{Actors, Seat, seat_at}
use Rattle.machine_rules.specs.Left.{IsLeft, IsMade}
use Rattle.event_rule.specs.Runs.{Leads}
use Rattle.plain_rules.specs.Run.{plain_next}
use Rattle.machine_rules.specs.Next.{next}
use Rattle.plain_rules.specs.Machine.{PlainState}
use Rattle.plain_rules.specs.Reach.{IsReachable}
use Rattle.machine_rules.specs.State.{State}

-- ---- in the plain machine

-- it was made, and nothing leads to it any more
abbrev pub IsForgotten : PlainState → Thing → Type 0
IsForgotten p x = IsMade p.actors x × (¬ IsReachable p x)

-- that stays so, whatever events follow
abbrev pub ForgottenStaysForgotten : Type 0
ForgottenStaysForgotten =
    (events : List Event) (p q : PlainState) → Leads plain_next p events q → (x : Thing)
    → IsForgotten p x → IsForgotten q x

-- ---- in the machine that collects

-- its name was given: the actor was made; or the owner was made and, where it is present, is past
-- the serial
abbrev pub HasName : Actors → Thing → Type 0
HasName actors (Actor a) = a < length actors
HasName actors (Obj n) =
    (n.owner < length actors) × ((seat : Seat) → seat_at actors n.owner ≡ Some seat
    → n.serial < seat.cell.holdings.next)

-- a name that was given stays so, whatever events follow
abbrev pub NamesStayGiven : Type 0
NamesStayGiven =
    (book : List Event) (s t : State) → Leads next s book t → (x : Thing) → HasName s.actors x
    → HasName t.actors x

-- its name was given, and it is not there
abbrev pub IsGone : Actors → Thing → Type 0
IsGone actors x = HasName actors x × (¬ IsLeft actors x)

-- that stays so, whatever events follow: a name is never given again
abbrev pub GoneStaysGone : Type 0
GoneStaysGone =
    (book : List Event) (s t : State) → Leads next s book t → (x : Thing) → IsGone s.actors x
    → IsGone t.actors x
