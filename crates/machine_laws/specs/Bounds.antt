-- How large the counts of a run can get.
use Rattle.std.specs.Prelude.{ℕ, ◌*◌, ◌^◌, ◌<◌, ◌≤◌, List, length, ⊤}
use Rattle.std.specs.List.{AllByRecursion}
use Rattle.orca_names.specs.declared.names.Thing.{Thing}
use Rattle.behaviour_code.specs.declared.code.Program.{Program}
use Rattle.event_rule.specs.declared.event.Event.{Event}
use Rattle.letter_kinds.specs.Reports.{count_on, report_told, told_on_by}
use Rattle.letter_kinds.specs.declared.note.Note.{Note}
use Rattle.letter_kinds.specs.declared.note.Note.TheVariants.{Block, Unblock, Ack}
use Rattle.letter_kinds.specs.declared.note.Report.{Report}
use Rattle.machine_rules.specs.Actors.{Actors, seat_at}
use Rattle.machine_rules.specs.Balance.{decs_at, held_at, held_sum, incs_at, load_sum, own_at, owner_seat}
use Rattle.count_laws.specs.Bounds.{owner_count}
use Rattle.machine_rules.specs.Options.{Options}
use Rattle.machine_rules.specs.Run.{IsRun}
use Rattle.machine_rules.specs.State.{State}
use Rattle.orca_names.specs.declared.limits.TheConstants.{BOOK_LIMIT}

-- something holds of each count and of each sum of the balance
pub record OfEachCount (P : ℕ → Type 0) (actors : Actors) : Type 0 where
  -- what the owner counts, the increments among any actor's letters, and both for the owner
  pub own : (x : Thing) → P (own_at x (owner_seat actors x))
  pub incs : (x : Thing) (a : ℕ) → P (incs_at x (seat_at actors a))
  pub counted : (x : Thing) → P (owner_count x actors)
  -- what one actor holds, and what all hold
  pub held : (x : Thing) (a : ℕ) → P (held_at x (seat_at actors a))
  pub held_by_all : (x : Thing) → P (held_sum x actors)
  -- the letters that load it, and the decrements among any actor's letters
  pub loads : (x : Thing) → P (load_sum x actors)
  pub decs : (x : Thing) (a : ℕ) → P (decs_at x (seat_at actors a))

-- something holds of each count that a report tells: the actor's own, and its counts on others
pub record OfEachTold (P : ℕ → Type 0) (r : Report) : Type 0 where
  pub count : P r.count
  pub held : (x : ℕ) → P (count_on r.held x)

abbrev pub OfNote : (ℕ → Type 0) → Note → Type 0
OfNote P (Block a count held) = OfEachTold P (report_told a count held)
OfNote P (Unblock a) = ⊤
OfNote P (Ack token a) = ⊤

-- something holds of each count that a note or a kept report tells
pub record OfTold (P : ℕ → Type 0) (s : State) : Type 0 where
  pub notes : AllByRecursion (OfNote P) s.notes
  pub kept : AllByRecursion (OfEachTold P) s.detector.kept

-- after a run none is more than the weight for each event, and what all kept reports tell on one
-- actor is no more than that for each actor
abbrev pub RunsCountAtMost : Type 0
RunsCountAtMost =
    (program : Program) (options : Options) → 0 < options.weight → (book : List Event) (t : State)
    → IsRun program options book t →
    OfEachCount (λ n. n ≤ length book * options.weight) t.actors
    × OfTold (λ n. n ≤ length book * options.weight) t
    × ((x : ℕ) → told_on_by x t.detector.kept ≤ length t.actors * (length book * options.weight))

-- so where a run has no more events than a book may have, and the weight is none above 65,536, each
-- is below 2 ^ 43, and so is the number of tokens that were opened; and what all reports tell is
-- below 2 ^ 59
abbrev pub RunsCountInFewBits : Type 0
RunsCountInFewBits =
    (program : Program) (options : Options) → 0 < options.weight → (book : List Event) (t : State)
    → IsRun program options book t →
    length book ≤ BOOK_LIMIT → options.weight ≤ 65536 →
    OfEachCount (λ n. n < 2 ^ 43) t.actors × OfTold (λ n. n < 2 ^ 43) t
    × (t.detector.opened < 2 ^ 43) × ((x : ℕ) → told_on_by x t.detector.kept < 2 ^ 59)
