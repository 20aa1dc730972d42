-- What each step on the table tells of a seat.
use Rattle.std.specs.Prelude.{ℕ, ◌-◌, ◌≡◌, ◌≢◌, List, [], ◌∷◌, Option, Some}
use mathlib.Core.List.{IsPrefix}
use Rattle.atomic_table.specs.Table.{Me, Step}
use Rattle.turn_log.specs.declared.rule.Known.{Known}
use Rattle.turn_log.specs.declared.table.SeatView.{SeatView}
use Rattle.turn_log.specs.declared.table.Stage.TheVariants.{Waits, HasTurn}
use Rattle.turn_log.specs.Knowing.{at_turn, having_written}
use Rattle.turn_log.specs.Seats.{idle, view_of}

-- a seat's view, with what lies in the slots that it has
abbrev pub Mine : Type 0 → Type 0 → Type 0 → Type 0
Mine T I V = Me (Option T) (SeatView T I V)

-- the whole log begins with what the pass had seen and heard, and of both the user shows something
pub record Learns {T I V : Type 0} (shows : Known I V → List I → T → Type 0) (k : Known I V)
    (log : List I) (value : T) : Type 0 where
  pub saw : IsPrefix k.seen log
  pub heard : IsPrefix k.heard log
  pub shown : shows k log value

module _ {T I V : Type 0} where
  -- it has the ticket that it found
  abbrev pub drew : Step (Option T) → Mine T I V → ℕ → Mine T I V → Type 0
  drew step old found new = new ≡ (view_of (Waits found) old.0.known, old.1)

  -- where it found that its ticket is served, it has its turn and the slot; else nothing changed
  abbrev pub looked : (Known I V → List I → T → Type 0)
      → Step (Option T) → Mine T I V → ℕ → Mine T I V → Type 0
  looked shows step old found new = (ticket : ℕ) → old.0.stage ≡ Waits ticket
      → (found ≢ ticket → new ≡ old)
      × (found ≡ ticket → (value : T) × (log : List I) × Learns shows old.0.known log value
      × (new ≡ (view_of (HasTurn ticket value) (at_turn log old.0.known), (0, Some value) ∷ old.1)))

  -- the item of the value in the slot is the last of the log, and the log leads to this value
  abbrev pub wrote : (T → I) → (I → V → V)
      → Step (Option T) → Mine T I V → ℕ → Mine T I V → Type 0
  wrote item after step old found new = (ticket : ℕ) (before value : T)
      → old.0.stage ≡ HasTurn ticket before → old.1 ≡ (0, Some value) ∷ []
      → new ≡ (
        record old.0 {
          stage = HasTurn ticket value;
          known = having_written after (item value) old.0.known;
        },
        old.1,
      )

  -- it has neither ticket nor slot
  abbrev pub passed : Step (Option T) → Mine T I V → ℕ → Mine T I V → Type 0
  passed step old found new = new ≡ (idle old.0.known, [])

  -- the word stands at the place, counted from the first of the user's
  abbrev pub put_there : Step (Option T) → Mine T I V → ℕ → Mine T I V → Type 0
  put_there step old found new =
      new ≡ (record old.0 { puts = (step.word - 3, step.first) ∷ old.0.puts }, old.1)

  -- nothing changed, and the word that was found tells something
  abbrev pub read_there : (SeatView T I V → ℕ → ℕ → Type 0)
      → Step (Option T) → Mine T I V → ℕ → Mine T I V → Type 0
  read_there tells step old found new = (new ≡ old) × tells old.0 (step.word - 3) found
