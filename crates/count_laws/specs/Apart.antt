-- Events of others: an actor's cell can be changed before or after them, and stays as it is.
use Rattle.std.specs.Prelude.{ℕ, ◌<◌, ◌≡◌, ◌≢◌, ◌↔◌, false, List, [], ◌++◌, length, set, Option, Some, None}
use Rattle.event_rule.specs.Events.{actor_of}
use Rattle.event_rule.specs.declared.event.Event.{Event}
use Rattle.event_rule.specs.declared.event.Event.TheVariants.{Take, Go, Collect, Leave, Block, Reap}
use Rattle.letter_kinds.specs.Detector.{Token, has, token_numbered}
use Rattle.letter_kinds.specs.Letters.{Letter}
use Rattle.machine_rules.specs.Actors.{Actors, Seat, cell_at, mail_at, seat_at}
use Rattle.machine_rules.specs.Cell.{Cell}
use Rattle.event_rule.specs.Runs.{IsEnabled, Step, NotEnabled, IsFull, Goes}
use Rattle.machine_rules.specs.Next.{next}
use Rattle.machine_rules.specs.State.{State}

-- ---- whose event it is

-- no event of the actor is enabled
abbrev pub HasNoEvent : State → ℕ → Type 0
HasNoEvent s a = (e : Event) → actor_of e ≡ Some a → next s e ≡ NotEnabled

-- the actor was made, the event is not of it, and does not reap it
pub record IsApart (s : State) (a : ℕ) (e : Event) : Type 0 where
  pub made : a < length s.actors
  pub others : actor_of e ≢ Some a
  pub spared : (number : ℕ) (t : Token) → e ≡ Reap number
      → token_numbered number s.detector ≡ Some t → has t.members a ≡ false

-- ---- another cell

-- the seat with this cell
abbrev pub with_cell_in : Cell → Option Seat → Option Seat
with_cell_in c None = None
with_cell_in c (Some o) = Some (record o { cell = c })

-- the actor, where it is present, has this cell instead of its own
abbrev pub put_cell : ℕ → Cell → Actors → Actors
put_cell a c actors = set actors a (with_cell_in c (seat_at actors a))

abbrev pub with_cell : ℕ → Cell → State → State
with_cell a c s = record s { actors = put_cell a c s.actors }

-- so in the state that a step leads to
abbrev pub step_with_cell : ℕ → Cell → Step State → Step State
step_with_cell a c NotEnabled = NotEnabled
step_with_cell a c IsFull = IsFull
step_with_cell a c (Goes t) = Goes (with_cell a c t)

-- an event apart from the actor is the same whether the cell is changed before it or after
abbrev pub CellsCanBeAway : Type 0
CellsCanBeAway =
    (s : State) (a : ℕ) (c : Cell) (e : Event) → IsApart s a e
    → next (with_cell a c s) e ≡ step_with_cell a c (next s e)

-- ---- what such an event leaves

-- the actor's cell is as it was, and some letters may have come
pub record LeavesCell (s t : State) (a : ℕ) : Type 0 where
  pub cell : cell_at t.actors a ≡ cell_at s.actors a
  pub come : List Letter
  pub mail : mail_at t.actors a ≡ mail_at s.actors a ++ come

-- a letter that comes can enable the actor's take, and ends its leave and its block; nothing else
-- of the actor's is enabled by the event, or ended
pub record KeepsEnabled (s t : State) (a : ℕ) : Type 0 where
  pub take : IsEnabled next s (Take a) → IsEnabled next t (Take a)
  pub no_more : mail_at t.actors a ≡ mail_at s.actors a → IsEnabled next t (Take a)
      → IsEnabled next s (Take a)
  pub go : IsEnabled next t (Go a) ↔ IsEnabled next s (Go a)
  pub collect : IsEnabled next t (Collect a) ↔ IsEnabled next s (Collect a)
  pub leave : IsEnabled next t (Leave a) ↔ IsEnabled next s (Leave a) × (mail_at t.actors a ≡ [])
  pub block : IsEnabled next t (Block a) ↔ IsEnabled next s (Block a) × (mail_at t.actors a ≡ [])

abbrev pub OthersLeaveTheCell : Type 0
OthersLeaveTheCell =
    (s t : State) (a : ℕ) (e : Event) → IsApart s a e → next s e ≡ Goes t → LeavesCell s t a

abbrev pub OthersKeepEnabled : Type 0
OthersKeepEnabled =
    (s t : State) (a : ℕ) (e : Event) → IsApart s a e → next s e ≡ Goes t → KeepsEnabled s t a
