-- What is known of a log at its end.
use Rattle.std.specs.Prelude.{ℕ, ◌≡◌, ◌+◌, ◌%◌, ◌^◌, ◌<◌, List, map}
use mathlib.Core.Option.{some}
use lib.ListN.{get_elem?}
use Rattle.turn_log.specs.declared.rule.Known.{Known}
use Rattle.turn_log.specs.declared.table.SeatView.{SeatView}
use Rattle.turn_log.specs.Queue.{IsHeard, IsQueue, Queue, known_of}

module _ {T I V : Type 0} (holds : List I → T → List (Known I V) → List ℕ → Type 0) (live : V → ℕ)
    (calm : V → Type 0) (k : Known I V) where
  -- the last moment, at which the rule held of all seats, and one of them knew k
  pub record IsLast (queue : Queue T I) (words : List ℕ) : Type 0 where
    pub views : List (SeatView T I V)
    pub seats : IsQueue live calm queue views
    pub whole : IsHeard queue.log views
    pub kept : holds queue.log queue.value (map known_of views) words
    pub id : ℕ
    pub mine : SeatView T I V
    pub there : get_elem? views id ≡ some mine
    pub knew : mine.known ≡ k

  -- no seat had a ticket, and these were the value and the user's words
  abbrev pub IsClosed : T → List ℕ → Type 0
  IsClosed value words =
      (queue : Queue T I) × IsLast queue words × (queue.long ≡ 0) × (queue.value ≡ value)

  -- some seats had a ticket, from the one that was served to the one that would be drawn next
  abbrev pub IsStillOpen : ℕ → ℕ → Type 0
  IsStillOpen ticket serving = (queue : Queue T I) × (words : List ℕ) × IsLast queue words
      × (0 < queue.long)
      × (serving ≡ queue.served) × (ticket ≡ (queue.served + queue.long) % 2 ^ 64)
