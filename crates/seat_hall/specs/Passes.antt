-- A pass between its calls, and what its calls tell.
use Rattle.std.specs.Prelude.{ℕ, ◌≡◌, ◌≢◌, ◌==◌, ◌+◌, ◌<◌, ◌≤◌, List, [], ◌∷◌, ◌++◌, count_by, Bool, false, slice_get, Option, Some, None}
use Rattle.std.specs.Option.{option_map_or}
use mathlib.Core.List.{IsPrefix}
use Rattle.atomic_table.specs.declared.shared.Seat.{Seat}
use Rattle.atomic_table.specs.Seated.{TableId}
use Rattle.event_rule.specs.declared.event.Event.{Event}
use Rattle.actor_cell.specs.declared.cell.Cell.{Cell}
use Rattle.actor_cell.specs.Cells.{as_cell}
use Rattle.machine_rules.specs.Actors.{cell_at}
use Rattle.turn_log.specs.declared.table.SeatView.{SeatView}
use Rattle.turn_log.specs.Knowing.{longer}
use Rattle.turn_log.specs.Seats.{Has, IsAtTurn, IsIdle, IsSame, knows}
use Rattle.work_board.specs.declared.answers.Committed.{Committed}
use Rattle.hall_rules.specs.Causes.{event_at}
use Rattle.seat_hall.specs.declared.item.Item.{Item}
use Rattle.seat_hall.specs.declared.item.Item.TheVariants.{Claimed, Entered, Made}
use Rattle.seat_hall.specs.declared.item.PassView.{PassView}
use Rattle.seat_hall.specs.declared.task.SeatTask.{SeatTask}
use Rattle.seat_hall.specs.declared.taken.Taken.{Taken}
use Rattle.seat_hall.specs.Answers.{Enters, GivesNumber, Grants, IsShort}
use Rattle.seat_hall.specs.Fair.{Knower, hall_of, start_of}
use Rattle.seat_hall.specs.Halls.{HallView}
use Rattle.seat_hall.specs.Log.{Legal, Logged, claim_in, items_by, state_in}

-- the token of a pass
abbrev pub Token : Type 0
Token = Seat (Option HallView) (SeatView HallView Item PassView)

-- it has this number, and is in no call
abbrev pub IsPass : ℕ → Token → Type 0
IsPass pass t = IsIdle t × ((knows t).client.numbers ≡ pass ∷ [])

-- it is a token of this table, of a pass of this number that is in no call
abbrev pub IsSeated : TableId → ℕ → Token → Type 0
IsSeated table pass t = (t.table_id ≡ table) × IsPass pass t

abbrev pub seen : Token → List Item
seen t = (knows t).seen

-- the hall after a log, as the pass reckons it
abbrev pub hall : Token → List Item → Logged
hall t log = hall_of (knows t).client log

-- ---- a call

-- it stays the pass that it is, and had so many turns
pub record Stays (pass turns : ℕ) (old new : Token) : Type 0 where
  pub same : IsSame old new
  pub pass_is : IsPass pass new
  pub client : (knows new).client ≡ (knows old).client
  pub turns_had : (knows new).turns ≡ (knows old).turns + turns

-- the whole log at the step of a call of this pass: it begins with what the pass had seen, and with all
-- that it had heard of, goes on by items of others alone, and each of its items may follow
pub record IsWholeLog (pass : ℕ) (old : Token) (log : List Item) : Type 0 where
  pub between : List Item
  pub saw : log ≡ seen old ++ between
  pub others : items_by pass between ≡ []
  pub heard : IsPrefix (knows old).heard log
  pub legal : Legal (start_of (knows old).client) log

-- at its turn: the pass sees the whole log, of which this is the hall
pub record IsAtHall (pass : ℕ) (old new : Token) (h : HallView) : Type 0 where
  pub whole : IsWholeLog pass old (seen new)
  pub shows : h.logged ≡ hall old (seen new)
  pub heavy : 0 < (knows old).client.options.weight
  pub given : pass ≤ h.logged.made
  pub number : (knows new).client.numbers ≡ pass ∷ []
  pub client : (knows new).client ≡ (knows old).client

-- ---- the turn

-- it is a token of this table, whose pass has the turn, and holds the hall that lay there
pub record Holds (table : TableId) (h : HallView) (t : Token) : Type 0 where
  pub own : t.table_id ≡ table
  pub turn : IsAtTurn h t
  pub empty : Has None t

-- its turn came: it holds the hall, and has had one turn more
pub record GetsTurn (table : TableId) (pass : ℕ) (old new : Token) (h : HallView) : Type 0 where
  pub same : IsSame old new
  pub holds : Holds table h new
  pub at : IsAtHall pass old new h
  pub heard : (knows new).heard ≡ seen new
  pub turns : (knows new).turns ≡ (knows old).turns + 1

-- it put the hall back, has the turn still, and knows this
pub record PutsBack (old new : Token) (h : HallView) (known : Knower) : Type 0 where
  pub same : IsSame old new
  pub turn : IsAtTurn h new
  pub lies : Has (Some h) new
  pub knew : knows new ≡ known

-- it passed the turn on, and knows this
pub record PassesOn (pass : ℕ) (old new : Token) (known : Knower) : Type 0 where
  pub same : IsSame old new
  pub pass_is : IsPass pass new
  pub knew : knows new ≡ known

-- ---- what a call answers

-- a call at its own step: its answer is that of the hall after the whole log, of which its own item, if
-- any, is then the last; and of the pass's items the log has those from before and this one
pub record Calls (pass : ℕ) (old new : Token) (own : List Item) (answer : Logged → Type 0) : Type 0 where
  pub log : List Item
  pub whole : IsWholeLog pass old log
  pub now : seen new ≡ log ++ own
  pub mine : items_by pass (seen new) ≡ items_by pass (seen old) ++ own
  pub answers : answer (hall old log)

-- ---- cells

-- in this hall the pass has the actor's claim out, and this is its cell, which nothing reaps
pub record HasIn (pass a : ℕ) (c : Cell) (l : Logged) : Type 0 where
  pub claimed : claim_in l.claims a ≡ Some pass
  pub cell : cell_at (state_in l).actors a ≡ Some (as_cell c)
  pub busy : event_at (state_in l) a ≢ None

-- as far as the pass has seen, it has the cell
abbrev pub HasItsCell : ℕ → ℕ → Cell → Token → Type 0
HasItsCell pass a c t = HasIn pass a c (hall t (seen t))

-- in this hall the claim is the pass's: it has the claim's cell, and the claim is of this run
pub record IsClaimOf (pass : ℕ) (taken : Taken) (l : Logged) : Type 0 where
  pub has : HasIn pass taken.cell.heap.owner taken.cell l
  pub program : taken.code.now ≡ l.program
  pub options : taken.options ≡ l.options

-- the pass may commit the task: as far as it has seen, the claim is its own
abbrev pub MayCommit : ℕ → Token → SeatTask → Type 0
MayCommit pass t task = IsClaimOf pass task.taken (hall t (seen t))

-- it keeps its cells
abbrev pub KeepsCells : ℕ → Token → Token → Type 0
KeepsCells pass old new = (a : ℕ) (c : Cell) → HasItsCell pass a c old → HasItsCell pass a c new

-- it keeps its other cells
abbrev pub KeepsOthers : ℕ → ℕ → Token → Token → Type 0
KeepsOthers pass a old new =
    (b : ℕ) (c : Cell) → b ≢ a → HasItsCell pass b c old → HasItsCell pass b c new

-- the claim is of this pass
abbrev pub is_of : ℕ → Option ℕ → Bool
is_of pass claim = option_map_or (λ holder. holder == pass) claim false

-- how many of its claims are out
abbrev pub out : ℕ → Token → ℕ
out pass t = count_by (is_of pass) (hall t (seen t)).claims

-- ---- what a call leaves

-- the pass stays what it is, had so many turns, and keeps its cells
pub record StaysWith (pass turns : ℕ) (old new : Token) : Type 0 where
  pub stays : Stays pass turns old new
  pub cells : KeepsCells pass old new

-- and as many of its claims are out
pub record StaysWhole (pass turns : ℕ) (old new : Token) : Type 0 where
  pub stays : Stays pass turns old new
  pub cells : KeepsCells pass old new
  pub out_is : out pass new ≡ out pass old

-- the pass stays what it is, had one turn, and keeps its cells but for that of the actor a
pub record StaysWithout (pass a : ℕ) (old new : Token) : Type 0 where
  pub stays : Stays pass 1 old new
  pub cells : KeepsOthers pass a old new

-- a pass of this hall with no claim out
pub record IsIdlePass (table : TableId) (pass : ℕ) (t : Token) : Type 0 where
  pub own : t.table_id ≡ table
  pub pass_is : IsPass pass t
  pub none : out pass t ≡ 0

-- the event is the entry at this place of the book
abbrev pub StandsAt : Token → ℕ → Event → Type 0
StandsAt t place e = slice_get (hall t (seen t)).book place ≡ Some e

-- the event became an entry, and stands at the place that was told
pub record MakesEntry (asker : Option ℕ) (pass : ℕ) (e : Event) (done : Committed) (old new : Token)
    : Type 0 where
  pub calls : Calls pass old new (Entered pass e ∷ []) (Enters asker pass e done)
  pub stands : StandsAt new done.place e

-- the actor's first event became an entry, though nobody claimed it, and is no segment of a turn
pub record EntersFirst (pass a : ℕ) (done : Committed) (old new : Token) : Type 0 where
  pub e : Event
  pub calls : Calls pass old new (Entered pass e ∷ []) (λ l. IsShort a e l × Enters None pass e done l)
  pub stands : StandsAt new done.place e

-- the actor is claimed, and the pass may commit the claim, of which nothing was found yet
pub record GetsClaim (pass a : ℕ) (task : SeatTask) (old new : Token) : Type 0 where
  pub calls : Calls pass old new (Claimed pass a ∷ []) (Grants a task.taken)
  pub may : MayCommit pass new task
  pub fresh : task.tried ≡ false
  pub more : out pass new ≡ out pass old + 1

-- ---- a split, and its end

-- under its own turn the pass wrote that a pass is split off, as the last item; the new pass has this
-- number, has seen the same, of its own items just this one, and no claim of it is out
pub record SplitsOff (pass number : ℕ) (old new other : Token) : Type 0 where
  pub log : List Item
  pub whole : IsWholeLog pass old log
  pub now : seen new ≡ log ++ Made number ∷ []
  pub answers : GivesNumber number (hall old log)
  pub mine : items_by pass (seen new) ≡ items_by pass (seen old)
  pub same : seen other ≡ seen new
  pub own : items_by number (seen other) ≡ Made number ∷ []
  pub run : start_of (knows other).client ≡ start_of (knows old).client
  pub idle : IsIdlePass old.table_id number other

-- it saw nothing new, and has heard of the longer log of both
pub record TakesIn (old other new : Token) : Type 0 where
  pub seen_is : seen new ≡ seen old
  pub heard : (knows new).heard ≡ longer (knows old).heard (knows other).heard
