-- What an entry does, and what a look answers.
use Rattle.std.specs.Prelude.{◌≡◌, ◌≢◌, ◌==◌, ◌||◌, Bool, true, false, [], ◌∷◌, ◌++◌, length}
use Rattle.event_rule.specs.Runs.{Goes, IsFirst, IsQuiet, Machine}
use Rattle.event_rule.specs.declared.event.Event.{Event}
use Rattle.machine_rules.specs.Next.{next}
use Rattle.machine_rules.specs.State.{State}
use Rattle.orca_core.specs.Firsts.{HasFirst, is_free, next_of_kind}
use Rattle.event_rule.specs.Events.{is_of_detector}
use Rattle.orca_parts.specs.Woken.{IsLowestWoken}
use Rattle.work_board.specs.declared.answers.Committed.{Committed}
use Rattle.work_board.specs.declared.answers.Look.{Look}
use Rattle.work_board.specs.declared.answers.Look.TheVariants.{Actor, Detector, Others, Rest, Stop}
use Rattle.hall_rules.specs.Claims.{is_claimed}
use Rattle.hall_rules.specs.Halls.{HallValue, hall_state}

-- the event became the last entry, and its place and whom it woke were answered
pub record IsEntered (h : HallValue) (e : Event) (done : Committed) (after : HallValue) : Type 0 where
  pub place : done.place ≡ length h.book
  pub book : after.book ≡ h.book ++ e ∷ []
  pub goes : next (hall_state h) e ≡ Goes (hall_state after)
  pub woke : IsLowestWoken (hall_state h).actors (hall_state after).actors done.woke

-- ---- what there is to do

-- the first of the free actors' events and of the detector's, which lead so, in this state; else others are at
-- work, or nobody is
abbrev pub Finds : Machine State → Machine State → State → Bool → Look → Type 0
Finds free detector s idle Stop = ⊥
Finds free detector s idle (Actor a) = HasFirst free s a
Finds free detector s idle (Detector e) = IsQuiet free s × IsFirst detector s e
Finds free detector s idle Others = IsQuiet free s × IsQuiet detector s × (idle ≡ false)
Finds free detector s idle Rest = IsQuiet free s × IsQuiet detector s × (idle ≡ true)

-- no worker goes on
abbrev pub is_over : HallValue → Bool
is_over h = h.stopped || length h.book == h.budget

-- the actors on which no claim is out have no event
abbrev pub NoneIsFree : HallValue → Type 0
NoneIsFree h = IsQuiet (next_of_kind (is_free (is_claimed h.claims)) []) (hall_state h)

-- nor has the detector
abbrev pub NothingIsFree : HallValue → Type 0
NothingIsFree h = NoneIsFree h × IsQuiet (next_of_kind is_of_detector []) (hall_state h)

-- the answer to a look: the actor with the first event of those on which no claim is out; else the
-- detector's first event; else that others are at work, if a claim is out
abbrev pub TellsWork : HallValue → Look → Type 0
TellsWork h Stop = is_over h ≡ true
TellsWork h (Actor a) = (is_over h ≡ false)
    × HasFirst (next_of_kind (is_free (is_claimed h.claims)) []) (hall_state h) a
TellsWork h (Detector e) = (is_over h ≡ false) × NoneIsFree h
    × IsFirst (next_of_kind is_of_detector []) (hall_state h) e
TellsWork h Others = (is_over h ≡ false) × NothingIsFree h × (h.claims ≢ [])
TellsWork h Rest = (is_over h ≡ false) × NothingIsFree h × (h.claims ≡ [])
