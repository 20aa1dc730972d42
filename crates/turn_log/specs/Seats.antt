-- A seat: how far it is with a turn, and what lies in the slot where it has it.
use Rattle.std.specs.Prelude.{ℕ, ◌≡◌, List, [], ◌∷◌, Option}
use Rattle.atomic_table.specs.declared.shared.Seat.{Seat}
use Rattle.turn_log.specs.declared.rule.Known.{Known}
use Rattle.turn_log.specs.declared.table.SeatView.{SeatView}
use Rattle.turn_log.specs.declared.table.Stage.{Stage}
use Rattle.turn_log.specs.declared.table.Stage.TheVariants.{Idle, Waits, HasTurn}

module _ {T I V : Type 0} where
  abbrev pub view_of : Stage T → Known I V → SeatView T I V
  view_of stage known = record { stage = stage; known = known; puts = [] }

  abbrev pub idle : Known I V → SeatView T I V
  idle = view_of Idle

  -- what the seat's pass knows
  abbrev pub knows : Seat (Option T) (SeatView T I V) → Known I V
  knows seat = seat.me.0.known

  -- the words that it put under its turn, each with its place, the last one first
  abbrev pub has_put : Seat (Option T) (SeatView T I V) → List (ℕ × ℕ)
  has_put seat = seat.me.0.puts

  -- it is the same seat of the same table
  abbrev pub IsSame : Seat (Option T) (SeatView T I V) → Seat (Option T) (SeatView T I V) → Type 0
  IsSame old new = (new.table_id ≡ old.table_id) × (new.id ≡ old.id)

  -- it has no ticket
  abbrev pub IsIdle : Seat (Option T) (SeatView T I V) → Type 0
  IsIdle seat = (seat.me.0.stage ≡ Idle) × (seat.me.1 ≡ [])

  -- it has this ticket, and waits
  abbrev pub IsWaiting : ℕ → Seat (Option T) (SeatView T I V) → Type 0
  IsWaiting ticket seat = (seat.me.0.stage ≡ Waits ticket) × (seat.me.1 ≡ [])

  -- it has its turn, and the log leads to this value
  abbrev pub IsAtTurn : T → Seat (Option T) (SeatView T I V) → Type 0
  IsAtTurn value seat = (ticket : ℕ) × (seat.me.0.stage ≡ HasTurn ticket value)

  -- it has the slot, in which this lies
  abbrev pub Has : Option T → Seat (Option T) (SeatView T I V) → Type 0
  Has lies seat = seat.me.1 ≡ (0, lies) ∷ []
