-- What the user of a log owes for its rule, at each kind of step.
use Rattle.std.specs.Prelude.{ℕ, ◌≡◌, ◌≢◌, ◌≤◌, ◌^◌, ◌<◌, List, [], ◌∷◌, ◌++◌, slice_index, slice_set, sum_by, Option, Some, ⊤}
use mathlib.Core.Option.{some}
use mathlib.Core.List.{IsPrefix}
use lib.ListN.{get_elem?}
use Rattle.atomic_table.specs.declared.shared.Seat.{Seat}
use Rattle.turn_log.specs.declared.rule.Known.{Known}
use Rattle.turn_log.specs.declared.table.SeatView.{SeatView}
use Rattle.turn_log.specs.declared.table.Stage.{Stage}
use Rattle.turn_log.specs.declared.table.Stage.TheVariants.{Idle, Waits, HasTurn}
use Rattle.turn_log.specs.Knowing.{at_turn, having_written}
use Rattle.turn_log.specs.Queue.{PutsStand}
use Rattle.turn_log.specs.Seats.{Has, IsAtTurn, has_put, knows}

-- who has the turn has seen the whole log, which leads to its value
abbrev pub IsNow : {T I V : Type 0} → Stage T → Known I V → List I → T → Type 0
IsNow Idle k log value = ⊤
IsNow (Waits ticket) k log value = ⊤
IsNow (HasTurn ticket before) k log value = (log ≡ k.seen) × (value ≡ before)

module _ {T I V : Type 0} (holds : List I → T → List (Known I V) → List ℕ → Type 0) where
  -- passes have fewer tickets than there are numbers
  abbrev pub FewTickets : (V → ℕ) → Type 0
  FewTickets live = (log : List I) (value : T) (passes : List (Known I V)) (words : List ℕ)
      → holds log value passes words → sum_by (λ k. live k.client) passes < 2 ^ 64

  -- a pass that gets its turn sees the whole log, and is shown something
  abbrev pub MayLook : (Known I V → List I → T → Type 0) → Type 0
  MayLook shows = (log : List I) (value : T) (passes : List (Known I V)) (words : List ℕ)
      (id : ℕ) (k : Known I V)
      → holds log value passes words → get_elem? passes id ≡ some k → IsPrefix k.seen log
      → holds log value (slice_set passes id (at_turn log k)) words × shows k log value

  -- the pass, which has seen the whole log, adds an item to it by a change of the value
  abbrev pub MayWrite : (I → V → V) → ℕ → Known I V → List (ℕ × ℕ) → T → T → I → Type 0
  MayWrite after id k puts before value i = (passes : List (Known I V)) (words : List ℕ)
      → holds k.seen before passes words → get_elem? passes id ≡ some k → PutsStand puts words
      → holds (k.seen ++ i ∷ []) value (slice_set passes id (having_written after i k)) words

  -- a pass is split in two
  abbrev pub MaySplit : ℕ → Known I V → Known I V → Known I V → Type 0
  MaySplit id k left right = (log : List I) (value : T) (passes : List (Known I V)) (words : List ℕ)
      → holds log value passes words → get_elem? passes id ≡ some k
      → holds log value (slice_set passes id left ++ right ∷ []) words

  -- a pass takes in another, which is spent
  abbrev pub MayJoin : ℕ → Known I V → ℕ → Known I V → Known I V → Known I V → Type 0
  MayJoin id k other w both spent = (log : List I) (value : T) (passes : List (Known I V))
      (words : List ℕ)
      → holds log value passes words → get_elem? passes id ≡ some k
      → other ≢ id → get_elem? passes other ≡ some w
      → IsPrefix k.seen log → IsPrefix w.seen log
      → holds log value (slice_set (slice_set passes id both) other spent) words

  -- the pass, which has seen the whole log, puts a word at a place
  abbrev pub MayPut : ℕ → Known I V → T → ℕ → ℕ → Type 0
  MayPut id k value at w = (passes : List (Known I V)) (words : List ℕ)
      → holds k.seen value passes words → get_elem? passes id ≡ some k
      → holds k.seen value passes (slice_set words at w)

  -- the word that a seat reads at a place tells it something
  abbrev pub MayRead : (SeatView T I V → ℕ → ℕ → Type 0) → ℕ → SeatView T I V → ℕ → Type 0
  MayRead tells id view at = (log : List I) (value : T) (passes : List (Known I V)) (words : List ℕ)
      → holds log value passes words → get_elem? passes id ≡ some view.known
      → IsPrefix view.known.seen log → IsNow view.stage view.known log value → PutsStand view.puts words
      → tells view at (slice_index words at)

-- the seat has its turn, and what lies in its slot may follow by its item
pub record CanWrite {T I V : Type 0} (holds : List I → T → List (Known I V) → List ℕ → Type 0)
    (item : T → I) (after : I → V → V) (live : V → ℕ)
    (seat : Seat (Option T) (SeatView T I V)) : Type 0 where
  pub before : T
  pub value : T
  pub turn : IsAtTurn before seat
  pub lies : Has (Some value) seat
  pub may_have : 1 ≤ live (after (item value) (knows seat).client)
  pub rule : MayWrite holds after seat.id (knows seat) (has_put seat) before value (item value)

-- the seat has its turn, and may put the word at the place
pub record CanPut {T I V : Type 0} (holds : List I → T → List (Known I V) → List ℕ → Type 0)
    (at w : ℕ) (seat : Seat (Option T) (SeatView T I V)) : Type 0 where
  pub value : T
  pub turn : IsAtTurn value seat
  pub rule : MayPut holds seat.id (knows seat) value at w
