-- A call that goes on with its actor under the same turn.
use Rattle.std.specs.Prelude.{ℕ, ◌≡◌, ◌+◌, ◌<◌, ◌≤◌, Bool, true, false, List, [], ◌∷◌, ◌++◌, length, Option, Some, None, IfSome}
use Rattle.atomic_table.specs.Seated.{TableId}
use Rattle.event_rule.specs.declared.event.Event.{Event}
use Rattle.event_rule.specs.declared.event.Event.TheVariants.{Take}
use Rattle.turn_log.specs.Knowing.{having_written}
use Rattle.turn_log.specs.Seats.{Has, IsAtTurn, IsSame, knows}
use Rattle.work_board.specs.declared.answers.Committed.{Committed}
use Rattle.work_board.specs.declared.answers.Refuse.{Refuse}
use Rattle.seat_hall.specs.declared.item.Item.{Item}
use Rattle.seat_hall.specs.declared.item.Item.TheVariants.{Claimed, Entered}
use Rattle.seat_hall.specs.declared.task.SeatTask.{SeatTask}
use Rattle.seat_hall.specs.Answers.{Enters, Grants, NoAct, RefusesEntry, is_act}
use Rattle.seat_hall.specs.Fair.{Knower, after_item, hall_of, start_of}
use Rattle.seat_hall.specs.Halls.{HallView}
use Rattle.seat_hall.specs.Log.{Legal, Logged, after, hall_from}
use Rattle.seat_hall.specs.Passes.{Calls, IsPass, MayCommit, StandsAt, Token, out}

-- ---- what the whole call does

-- its items after the first: the entry of the letter that the actor then took, if it did, and its claim, if it
-- was claimed
abbrev pub taking : ℕ → ℕ → Bool → List Item
taking pass a true = Entered pass (Take a) ∷ []
taking pass a false = []

abbrev pub claiming : ℕ → ℕ → Option SeatTask → List Item
claiming pass a (Some task) = Claimed pass a ∷ []
claiming pass a None = []

-- the letter became the last entry, or it was refused
abbrev pub Takes : ℕ → ℕ → Bool → Logged → Type 0
Takes pass a true l = (done : Committed) × Enters None pass (Take a) done l
Takes pass a false l = (refuse : Refuse) × RefusesEntry None (Take a) refuse l

-- the claim is granted, for an act; or it would be refused, or be for no act
abbrev pub Claims : ℕ → Option SeatTask → Logged → Type 0
Claims a (Some task) l = Grants a task.taken l × (is_act task.taken.event ≡ true)
Claims a None l = NoAct a l

-- each of its answers is that of the hall before the item
pub record GoesOn (pass a : ℕ) (e : Event) (done : Committed) (took : Bool) (next : Option SeatTask)
    (l : Logged) : Type 0 where
  pub enters : Enters (Some pass) pass e done l
  pub takes : Takes pass a took (after l (Entered pass e))
  pub claims : Claims a next (hall_from (after l (Entered pass e)) (taking pass a took))

-- a call that made the event an entry, at the place that was told, and went on with the actor
pub record Advances (pass a : ℕ) (e : Event) (done : Committed) (next : Option SeatTask) (old new : Token)
    : Type 0 where
  pub took : Bool
  pub calls : Calls pass old new (Entered pass e ∷ taking pass a took ++ claiming pass a next)
      (GoesOn pass a e done took next)
  pub stands : StandsAt new done.place e

-- the pass has a claim on the actor in place of the one committed; nothing was found of it yet
pub record IsNext (pass a : ℕ) (old new : Token) (task : SeatTask) : Type 0 where
  pub owner : task.taken.cell.heap.owner ≡ a
  pub may : MayCommit pass new task
  pub fresh : task.tried ≡ false
  pub out_is : out pass new ≡ out pass old

-- a call that takes an actor up: each of its answers is that of the hall before the item
pub record TakesUp (pass a : ℕ) (took : Bool) (next : Option SeatTask) (l : Logged) : Type 0 where
  pub takes : Takes pass a took l
  pub claims : Claims a next (hall_from l (taking pass a took))

-- the pass has one claim more, which is on the actor; nothing was found of it yet
pub record IsTakenUp (pass a : ℕ) (old new : Token) (task : SeatTask) : Type 0 where
  pub owner : task.taken.cell.heap.owner ≡ a
  pub may : MayCommit pass new task
  pub fresh : task.tried ≡ false
  pub more : out pass new ≡ out pass old + 1

-- ---- a pass at its turn, between two of its items

-- the hall, as the pass reckons it
abbrev pub hall_by : Knower → Logged
hall_by k = hall_of k.client k.seen

-- it has seen the whole log, and this is the hall
pub record Reckons (pass : ℕ) (k : Knower) (h : HallView) : Type 0 where
  pub number : k.client.numbers ≡ pass ∷ []
  pub heard : k.heard ≡ k.seen
  pub legal : Legal (start_of k.client) k.seen
  pub shows : h.logged ≡ hall_by k
  pub heavy : 0 < k.client.options.weight
  pub given : pass ≤ h.logged.made

-- it is a token of this table, whose pass has the turn, and the hall lies in its slot
pub record IsUnder (table : TableId) (pass : ℕ) (t : Token) : Type 0 where
  pub own : t.table_id ≡ table
  pub lying : HallView
  pub turn : IsAtTurn lying t
  pub lies : Has (Some lying) t
  pub reckons : Reckons pass (knows t) lying

-- it wrote that the actor took a letter, or nothing
abbrev pub having_taken : ℕ → ℕ → Bool → Knower → Knower
having_taken pass a true k = having_written after_item (Entered pass (Take a)) k
having_taken pass a false k = k

abbrev pub Took : ℕ → ℕ → Bool → Knower → Knower → Type 0
Took pass a took k w = Takes pass a took (hall_by k) × (w ≡ having_taken pass a took k)

-- the turn stays
pub record TakesOn (table : TableId) (pass a : ℕ) (took : Bool) (old new : Token) : Type 0 where
  pub same : IsSame old new
  pub under : IsUnder table pass new
  pub took_is : Took pass a took (knows old) (knows new)

-- it wrote that it has the actor's claim, or nothing
abbrev pub having_claimed : ℕ → ℕ → Option SeatTask → Knower → Knower
having_claimed pass a (Some task) k = having_written after_item (Claimed pass a) k
having_claimed pass a None k = k

pub record ClaimedOn (pass a : ℕ) (next : Option SeatTask) (k w : Knower) : Type 0 where
  pub claims : Claims a next (hall_by k)
  pub within : IfSome next (λ task. a < length (hall_by k).claims)
  pub fresh : IfSome next (λ task. task.tried ≡ false)
  pub wrote : w ≡ having_claimed pass a next k

-- the turn is passed on
pub record ClaimsOn (pass a : ℕ) (next : Option SeatTask) (old new : Token) : Type 0 where
  pub same : IsSame old new
  pub pass_is : IsPass pass new
  pub claimed : ClaimedOn pass a next (knows old) (knows new)
