-- The rule of the table. The seats that have a ticket stand in a queue: the one at place 0 is served,
-- and has the value when it has seen so; the others wait behind it.
use Rattle.std.specs.Prelude.{ℕ, zero, suc, ◌==◌, if◌then◌else◌, ◌≡◌, ◌+◌, ◌%◌, ◌^◌, ◌<◌, ◌≤◌, List, [], ◌∷◌, drop, map, length, slice_index, sum_by, Option, Some, None}
use mathlib.Core.Option as maybe
use mathlib.Core.Option.{some, none}
use mathlib.Core.List.{IsPrefix}
use lib.ListN.{get_elem?}
use Rattle.atomic_table.specs.Table.{State}
use Rattle.turn_log.specs.declared.rule.Known.{Known}
use Rattle.turn_log.specs.declared.table.SeatView.{SeatView}
use Rattle.turn_log.specs.declared.table.Stage.{Stage}
use Rattle.turn_log.specs.declared.table.Stage.TheVariants.{Idle, Waits, HasTurn}

-- the words of the log's user: those behind the three of the queue
abbrev pub user_words : List ℕ → List ℕ
user_words words = drop 3 words

-- how many stand in the queue, the ticket that is served, the place of each seat that has a ticket,
-- the value, and the whole log
pub record Queue (T I : Type 0) : Type 0 where
  pub long : ℕ
  pub served : ℕ
  pub place : ℕ → ℕ
  pub value : T
  pub log : List I

module _ {T : Type 0} where
  -- how many tickets a seat has at this stage
  abbrev pub tickets : Stage T → ℕ
  tickets Idle = 0
  tickets (Waits ticket) = 1
  tickets (HasTurn ticket value) = 1

  -- how many turns
  abbrev pub turns : Stage T → ℕ
  turns Idle = 0
  turns (Waits ticket) = 0
  turns (HasTurn ticket value) = 1

  -- the slot, while so many seats have the turn: the value is at home in it, or it is out
  abbrev pub slot : T → ℕ → maybe.Option (Option T)
  slot value zero = some (Some value)
  slot value (suc n) = none

-- the word that was put last at a place
abbrev pub last_put : List (ℕ × ℕ) → ℕ → Option ℕ
last_put [] at = None
last_put (p ∷ puts) at = if p.0 == at then Some p.1 else last_put puts at

-- what was put stands in its place
abbrev pub PutsStand : List (ℕ × ℕ) → List ℕ → Type 0
PutsStand puts words =
    (at w : ℕ) → last_put puts at ≡ Some w → at < length words → slice_index words at ≡ w

module _ {T I V : Type 0} where
  -- a seat without the turn has put nothing, and what it put under its turn stands
  pub record IsPutter (words : List ℕ) (view : SeatView T I V) : Type 0 where
    pub stand : PutsStand view.puts words
    pub turn : turns view.stage ≡ 0 → view.puts ≡ []

  abbrev pub tickets_of : SeatView T I V → ℕ
  tickets_of view = tickets view.stage

  abbrev pub turns_of : SeatView T I V → ℕ
  turns_of view = turns view.stage

  abbrev pub known_of : SeatView T I V → Known I V
  known_of view = view.known

  -- some pass has heard of the whole log
  abbrev pub IsHeard : List I → List (SeatView T I V) → Type 0
  IsHeard log views =
      (id : ℕ) × (view : SeatView T I V) × (get_elem? views id ≡ some view) × (view.known.heard ≡ log)

module _ {T I V : Type 0} (live : V → ℕ) (calm : V → Type 0) (queue : Queue T I) where
  -- who waits has a place in the queue, and the ticket of this place; who has the turn is served, with
  -- the value, and has seen the whole log; who does not have it is calm
  abbrev pub IsAtStage : ℕ → Stage T → Known I V → Type 0
  IsAtStage id Idle k = calm k.client
  IsAtStage id (Waits ticket) k = calm k.client
      × (queue.place id < queue.long) × (ticket ≡ (queue.served + queue.place id) % 2 ^ 64)
  IsAtStage id (HasTurn ticket value) k = (queue.place id ≡ 0) × (0 < queue.long)
      × (ticket ≡ queue.served) × (value ≡ queue.value) × (k.seen ≡ queue.log)

  -- a seat has no more tickets than its pass may have, and what the pass saw and heard begins the log
  pub record IsSeat (id : ℕ) (view : SeatView T I V) : Type 0 where
    pub stage : IsAtStage id view.stage view.known
    pub may : tickets view.stage ≤ live view.known.client
    pub saw : IsPrefix view.known.seen queue.log
    pub heard : IsPrefix view.known.heard queue.log

  -- all seats: no two that have a ticket stand at one place
  pub record IsQueue (views : List (SeatView T I V)) : Type 0 where
    pub count : sum_by tickets_of views ≡ queue.long
    pub each : (id : ℕ) (view : SeatView T I V) → get_elem? views id ≡ some view → IsSeat id view
    pub apart : (j k : ℕ) (one other : SeatView T I V)
        → get_elem? views j ≡ some one → get_elem? views k ≡ some other
        → 0 < tickets one.stage → 0 < tickets other.stage → queue.place j ≡ queue.place k → j ≡ k

-- the first three words are the log's length, the next ticket and the ticket that is served, modulo
-- 2^64; the slot is out exactly while a seat has the turn; and the rule of the log's user holds, also of
-- the words behind these three
pub record IsRuled {T I V : Type 0} (holds : List I → T → List (Known I V) → List ℕ → Type 0) (live : V → ℕ)
    (calm : V → Type 0) (s : State (Option T) (SeatView T I V)) : Type 0 where
  pub queue : Queue T I
  pub wide : 3 ≤ length s.words
  pub deep : length s.homes ≡ 1
  pub length_is : slice_index s.words 0 ≡ length queue.log % 2 ^ 64
  pub ticket_is : slice_index s.words 1 ≡ (queue.served + queue.long) % 2 ^ 64
  pub served_is : slice_index s.words 2 ≡ queue.served
  pub small : queue.served < 2 ^ 64
  pub slot_is : get_elem? s.homes 0 ≡ some (slot queue.value (sum_by turns_of s.views))
  pub seats : IsQueue live calm queue s.views
  pub whole : IsHeard queue.log s.views
  pub kept : holds queue.log queue.value (map known_of s.views) (user_words s.words)
  pub puts : (id : ℕ) (view : SeatView T I V) → get_elem? s.views id ≡ some view
      → IsPutter (user_words s.words) view
