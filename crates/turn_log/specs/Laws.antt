-- Laws of the queue, at any moment of a log.
use Rattle.std.specs.Prelude.{ℕ, ◌≡◌, ◌⊎◌, List, Option}
use mathlib.Core.Option.{some}
use lib.ListN.{get_elem?}
use Rattle.atomic_table.specs.Table.{State}
use Rattle.turn_log.specs.declared.rule.Known.{Known}
use Rattle.turn_log.specs.declared.table.SeatView.{SeatView}
use Rattle.turn_log.specs.declared.table.Stage.{Stage}
use Rattle.turn_log.specs.declared.table.Stage.TheVariants.{Waits, HasTurn}
use Rattle.turn_log.specs.Owed.{FewTickets}
use Rattle.turn_log.specs.Queue.{IsRuled}

-- the seat with this number is at this stage
abbrev pub IsAt : {T I V : Type 0} → State (Option T) (SeatView T I V) → ℕ → Stage T → Type 0
IsAt {T} {I} {V} s id stage =
    (view : SeatView T I V) × (get_elem? s.views id ≡ some view) × (view.stage ≡ stage)

-- it has this ticket
abbrev pub HasTicket : {T I V : Type 0} → State (Option T) (SeatView T I V) → ℕ → ℕ → Type 0
HasTicket {T} s id ticket = IsAt s id (Waits ticket) ⊎ ((value : T) × IsAt s id (HasTurn ticket value))

module _ {T I V : Type 0} (holds : List I → T → List (Known I V) → List ℕ → Type 0) (live : V → ℕ)
    (calm : V → Type 0) where
  -- two seats that have the turn are one
  abbrev pub OneHasTurn : Type 0
  OneHasTurn = (s : State (Option T) (SeatView T I V)) → IsRuled holds live calm s
      → (j k t u : ℕ) (x y : T) → IsAt s j (HasTurn t x) → IsAt s k (HasTurn u y) → j ≡ k

  -- two seats that have the same ticket are one
  abbrev pub TicketsDiffer : Type 0
  TicketsDiffer = FewTickets holds live
      → (s : State (Option T) (SeatView T I V)) → IsRuled holds live calm s
      → (j k ticket : ℕ) → HasTicket s j ticket → HasTicket s k ticket → j ≡ k
