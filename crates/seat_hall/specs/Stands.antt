-- Laws of the rule, at every moment of a hall.
use Rattle.std.specs.Prelude.{ℕ, ◌≡◌, ◌<◌, ◌≤◌, List, ◌∷◌, ◌++◌, false, length, slice_get, Some}
use mathlib.Core.Option.{some}
use mathlib.Core.List.{IsPrefix}
use lib.ListN.{get_elem?}
use Rattle.orca_names.specs.declared.options.Options.{Options}
use Rattle.behaviour_code.specs.declared.code.Program.{Program}
use Rattle.event_rule.specs.Runs.{IsEnabled}
use Rattle.event_rule.specs.declared.event.Event.{Event}
use Rattle.event_rule.specs.declared.event.Event.TheVariants.{Reap}
use Rattle.letter_kinds.specs.Detector.{Token, has, token_numbered}
use Rattle.actor_cell.specs.declared.cell.Cell.{Cell}
use Rattle.machine_rules.specs.Next.{next}
use Rattle.machine_rules.specs.Run.{IsRun}
use Rattle.seat_hall.specs.declared.item.Item.{Item}
use Rattle.seat_hall.specs.declared.item.Item.TheVariants.{Entered}
use Rattle.seat_hall.specs.declared.item.PassView.{PassView}
use Rattle.seat_hall.specs.Fair.{Fair, Knower, has_number, hall_of}
use Rattle.seat_hall.specs.Halls.{HallView, LacksCell}
use Rattle.seat_hall.specs.Log.{Legal, begins, hall_from, state_in}
use Rattle.seat_hall.specs.Passes.{HasIn}

-- the book of a log is a run of the program, within the budget
abbrev pub BooksAreRuns : Type 0
BooksAreRuns =
    (program : Program) (options : Options) (budget : ℕ) (log : List Item)
    → Legal (begins program options budget) log
    → let last = hall_from (begins program options budget) log in
    IsRun program options last.book (state_in last) × (length last.book ≤ budget)

-- a pass, at any moment of a hall: it has this number, and has seen a beginning of the log
pub record IsOne (log : List Item) (passes : List Knower) (id pass : ℕ) (k : Knower) : Type 0 where
  pub there : get_elem? passes id ≡ some k
  pub number : 0 < has_number pass k
  pub saw : IsPrefix k.seen log

-- as far as the pass has seen, it has the cell
abbrev pub Has : ℕ → ℕ → Cell → Knower → Type 0
Has pass a c k = HasIn pass a c (hall_of k.client k.seen)

-- a cell that a pass has is the book's, and the hall's claim on it is this pass's; the hall lacks it, and so
-- does each other pass
abbrev pub CellsAreApart : Type 0
CellsAreApart =
    (log : List Item) (hall : HallView) (passes : List Knower) → Fair log hall passes
    → (id pass a : ℕ) (c : Cell) (k : Knower) → IsOne log passes id pass k → Has pass a c k
    → HasIn pass a c hall.logged × LacksCell a hall.logged
    × ((other number : ℕ) (d : Cell) (w : Knower) → IsOne log passes other number w → Has number a d w
    → other ≡ id)

-- no reap that can happen takes an actor whose cell a pass has
abbrev pub NoneIsReaped : Type 0
NoneIsReaped =
    (log : List Item) (hall : HallView) (passes : List Knower) → Fair log hall passes
    → (id pass a : ℕ) (c : Cell) (k : Knower) → IsOne log passes id pass k → Has pass a c k
    → (number : ℕ) (t : Token) → IsEnabled next (state_in hall.logged) (Reap number)
    → token_numbered number (state_in hall.logged).detector ≡ Some t → has t.members a ≡ false

-- an entry that a pass has seen stands in the book of the hall, at its place
abbrev pub EntriesStand : Type 0
EntriesStand =
    (log : List Item) (hall : HallView) (passes : List Knower) → Fair log hall passes
    → (id pass : ℕ) (k : Knower) → IsOne log passes id pass k
    → (before rest : List Item) (by : ℕ) (e : Event) → k.seen ≡ before ++ Entered by e ∷ rest
    → slice_get hall.logged.book (length (hall_of k.client before).book) ≡ Some e

-- two entries of one log at one place of the book are one
abbrev pub EntriesStandOnce : Type 0
EntriesStandOnce =
    (v : PassView) (log before earlier rest others : List Item) (one other : ℕ) (e f : Event)
    → log ≡ before ++ Entered one e ∷ rest → log ≡ earlier ++ Entered other f ∷ others
    → length (hall_of v before).book ≡ length (hall_of v earlier).book → before ≡ earlier
