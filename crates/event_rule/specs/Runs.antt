-- Runs of a machine, whatever its states are: which events are enabled, what books lead to, and how a
-- run within a budget ends.
use Rattle.std.specs.Prelude.{ℕ, ◌≡◌, ◌≢◌, ◌<◌, ◌≤◌, ◌⊎◌, List, [], ◌∷◌}
use Rattle.std.specs.declared.cmp.Ordering.TheVariants.{Greater}
use Rattle.event_rule.specs.Events.{event_cmp}
use Rattle.event_rule.specs.declared.event.Event.{Event}
use Rattle.event_rule.specs.declared.event.Event.TheVariants.{Go}

-- what an event leads to: it is not enabled, or it would make an actor too many, or there is a
-- state after it
pub data Step (S : Type 0) : Type 0 where
  NotEnabled : Step S
  IsFull : Step S
  Goes : S → Step S

-- a machine: what each event makes of each state
abbrev pub Machine : Type 0 → Type 0
Machine S = S → Event → Step S

abbrev pub IsEnabled : {S : Type 0} → Machine S → S → Event → Type 0
IsEnabled next s e = next s e ≢ NotEnabled

-- the event is the first of those that are enabled, in the one-worker order
pub record IsFirst {S : Type 0} (next : Machine S) (s : S) (e : Event) : Type 0 where
  pub enabled : IsEnabled next s e
  pub least : (f : Event) → IsEnabled next s f → event_cmp e f ≢ Greater

-- no event is enabled
abbrev pub IsQuiet : {S : Type 0} → Machine S → S → Type 0
IsQuiet next s = (e : Event) → next s e ≡ NotEnabled

-- ---- books

-- t is the state after the events of the book, each of which is enabled in its turn and not refused
abbrev pub Leads : {S : Type 0} → Machine S → S → List Event → S → Type 0
Leads next s [] t = s ≡ t
Leads next s (e ∷ book) t = (u : _) × (next s e ≡ Goes u) × Leads next u book t

-- and each is the first that is enabled in its turn
abbrev pub LeadsInOrder : {S : Type 0} → Machine S → S → List Event → S → Type 0
LeadsInOrder next s [] t = s ≡ t
LeadsInOrder next s (e ∷ book) t =
    IsFirst next s e × ((u : _) × (next s e ≡ Goes u) × LeadsInOrder next u book t)

-- ---- ends

pub data Ending : Type 0 where
  Quiet : Ending
  Budget : Ending
  ActorsFull : (actor : ℕ) → Ending

-- an event is enabled, but the book has as many entries as it may have
pub record IsSpent {S : Type 0} (machine : Machine S) (s : S) (entries budget : ℕ) : Type 0 where
  pub spent : entries ≡ budget
  pub next : Event
  pub enabled : IsFirst machine s next

-- the first event would make one actor more than may be made
pub record IsFullAt {S : Type 0} (machine : Machine S) (actor : ℕ) (s : S)
    (entries budget : ℕ) : Type 0 where
  pub room : entries < budget
  pub first : IsFirst machine s (Go actor)
  pub full : machine s (Go actor) ≡ IsFull

-- there is room for an entry, and the first event leads to a state
pub record GoesOn {S : Type 0} (machine : Machine S) (s : S) (entries budget : ℕ) : Type 0 where
  pub room : entries < budget
  pub next_event : Event
  pub first : IsFirst machine s next_event
  pub after : S
  pub goes : machine s next_event ≡ Goes after

-- no event is enabled, or else the budget is spent, or else the machine is full
abbrev pub EndsAs : {S : Type 0} → Machine S → Ending → S → ℕ → ℕ → Type 0
EndsAs next Quiet s entries budget = IsQuiet next s
EndsAs next Budget s entries budget = IsSpent next s entries budget
EndsAs next (ActorsFull actor) s entries budget = IsFullAt next actor s entries budget

-- ---- laws of a machine

-- a state is quiet, or some event is the first of those that are enabled
abbrev pub QuietOrFirst : {S : Type 0} → Machine S → Type 0
QuietOrFirst next = (s : _) → IsQuiet next s ⊎ ((e : Event) × IsFirst next s e)

-- there is only one such event, and none where the state is quiet
abbrev pub OneIsFirst : {S : Type 0} → Machine S → Type 0
OneIsFirst next = (s : _) (e f : Event) → IsFirst next s e → IsFirst next s f → e ≡ f

abbrev pub NoneIsFirstAtQuiet : {S : Type 0} → Machine S → Type 0
NoneIsFirstAtQuiet next = (s : _) (e : Event) → IsQuiet next s → ¬ IsFirst next s e

-- a book leads to one state
abbrev pub LeadsToOneState : {S : Type 0} → Machine S → Type 0
LeadsToOneState next =
    (book : List Event) (r s t : _) → Leads next r book s → Leads next r book t → s ≡ t

-- a run ends in one way
abbrev pub EndsInOneWay : {S : Type 0} → Machine S → Type 0
EndsInOneWay next =
    (one other : Ending) (s : _) (entries budget : ℕ) → EndsAs next one s entries budget
    → EndsAs next other s entries budget → one ≡ other

-- a run within its budget goes on by its first event, or ends in one of these ways
abbrev pub GoesOnOrEnds : {S : Type 0} → Machine S → Type 0
GoesOnOrEnds next =
    (s : _) (entries budget : ℕ) → entries ≤ budget → GoesOn next s entries budget
    ⊎ ((ending : Ending) × EndsAs next ending s entries budget)
