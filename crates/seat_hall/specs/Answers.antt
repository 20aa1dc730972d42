-- What a call answers in the hall before its item.
use Rattle.std.specs.Prelude.{ℕ, ◌≡◌, ◌+◌, ◌<◌, ◌≤◌, ◌⊎◌, Bool, true, false, length, Option, Some, None, Result, Ok, Err, IfSome}
use Rattle.orca_names.specs.declared.options.Options.{Options}
use Rattle.behaviour_code.specs.declared.code.Program.{Program}
use Rattle.event_rule.specs.Events.{actor_of}
use Rattle.event_rule.specs.declared.event.Event.{Event}
use Rattle.event_rule.specs.declared.event.Event.TheVariants.{Take, Go, Collect, Leave, Block, Hear, Scan, Reap}
use Rattle.actor_cell.specs.declared.cell.Cell.{Cell}
use Rattle.actor_cell.specs.declared.found.Found.{Found}
use Rattle.actor_cell.specs.Cells.{as_cell}
use Rattle.orca_parts.specs.Founds.{IsFoundUntold}
use Rattle.machine_rules.specs.Actors.{Actors, cell_at}
use Rattle.work_board.specs.Answered.{is_evaluated, segment}
use Rattle.work_board.specs.declared.answers.Committed.{Committed}
use Rattle.work_board.specs.declared.answers.Look.{Look}
use Rattle.work_board.specs.declared.answers.Refuse.{Refuse}
use Rattle.work_board.specs.declared.answers.Refuse.TheVariants.{NotReady}
use Rattle.hall_rules.specs.Answers.{IsEntered, TellsWork}
use Rattle.hall_rules.specs.Causes.{IsRefusal, event_at}
use Rattle.seat_hall.specs.declared.item.Item.TheVariants.{Claimed, Entered}
use Rattle.seat_hall.specs.declared.taken.Taken.{Taken}
use Rattle.seat_hall.specs.Halls.{HallView, says}
use Rattle.seat_hall.specs.Log.{Logged, after, claim_cause, entry_cause, most_made, plain, state_in}

-- the answer to a look is that of the plain hall
abbrev pub Tells : Look → Logged → Type 0
Tells answer l = TellsWork (plain l) answer

-- in this run: the actor's first event, its cell, and the length of the book
pub record IsTaken (a : ℕ) (taken : Taken) (l : Logged) : Type 0 where
  pub program : taken.code.now ≡ l.program
  pub options : taken.options ≡ l.options
  pub event : event_at (state_in l) a ≡ Some taken.event
  pub cell : cell_at (state_in l).actors a ≡ Some (as_cell taken.cell)
  pub owner : taken.cell.heap.owner ≡ a
  pub at : taken.at ≡ length l.book

-- the event is an act of its actor: it takes a letter, or goes on with its turn
abbrev pub is_act : Event → Bool
is_act (Take a) = true
is_act (Go a) = true
is_act (Collect a) = false
is_act (Leave a) = false
is_act (Block a) = false
is_act Hear = false
is_act Scan = false
is_act (Reap token) = false

-- the claim is granted, and this is what it gives
abbrev pub Grants : ℕ → Taken → Logged → Type 0
Grants a taken l = (claim_cause l a ≡ None) × IsTaken a taken l

-- so the claim was made of a pass, and this is the hall then
pub record Lends (pass a : ℕ) (taken : Taken) (l : Logged) (lent : HallView) : Type 0 where
  pub grants : Grants a taken l
  pub within : a < length l.claims
  pub claimed : lent ≡ says (after l (Claimed pass a)) (Claimed pass a)

-- a claim is refused, or would be for no act
abbrev pub NoAct : ℕ → Logged → Type 0
NoAct a l = claim_cause l a ≡ None → IfSome (event_at (state_in l) a) (λ e. is_act e ≡ false)

-- the claim is refused, and never for want of memory
abbrev pub RefusesClaim : ℕ → Refuse → Logged → Type 0
RefusesClaim a refuse l = claim_cause l a ≡ Some refuse

-- the event becomes the last entry of the one who asks: the pass of a claim, or nobody
pub record Enters (asker : Option ℕ) (pass : ℕ) (e : Event) (done : Committed) (l : Logged) : Type 0 where
  pub may : entry_cause l asker e ≡ None
  pub entered : IsEntered (plain l) e done (plain (after l (Entered pass e)))

abbrev pub RefusesEntry : Option ℕ → Event → Refuse → Logged → Type 0
RefusesEntry asker e refuse l = IsRefusal (entry_cause l asker e) refuse

-- what is answered to one who asks for an entry of the pass, and the hall then: that with the entry, or this one
abbrev pub EntersOr : Option ℕ → ℕ → Event → Logged → HallView → Result Committed Refuse → HallView → Type 0
EntersOr asker pass e l refused (Ok done) new =
    Enters asker pass e done l × (new ≡ says (after l (Entered pass e)) (Entered pass e))
EntersOr asker pass e l refused (Err refuse) new = RefusesEntry asker e refuse l × (new ≡ refused)

-- the event is the actor's first, and no segment of a turn
abbrev pub IsShort : ℕ → Event → Logged → Type 0
IsShort a e l = (event_at (state_in l) a ≡ Some e) × (segment e 0 ≡ None)

-- the event is left to a claim, as it is a segment of a turn, or a collection that may be long; or its entry is
-- refused
abbrev pub RefusesShort : Event → Refuse → Logged → Type 0
RefusesShort e refuse l = ((is_evaluated e ≡ true) × (refuse ≡ NotReady)) ⊎ RefusesEntry None e refuse l

-- a claim on the actor would be refused so; or none would, and its first event is not entered
abbrev pub RefusesFirst : ℕ → Refuse → Logged → Type 0
RefusesFirst a refuse l = RefusesClaim a refuse l
    ⊎ ((claim_cause l a ≡ None) × IfSome (event_at (state_in l) a) (λ e. RefusesShort e refuse l))

-- this was found of the cell of the event's actor
pub record IsFoundOf (options : Options) (program : Program) (actors : Actors) (e : Event)
    (found : Found) : Type 0 where
  pub cell : Cell
  pub its : actor_of e ≡ Some cell.heap.owner
  pub there : cell_at actors cell.heap.owner ≡ Some (as_cell cell)
  pub is : IsFoundUntold options program cell found

-- a pass is split off, with this number
abbrev pub GivesNumber : ℕ → Logged → Type 0
GivesNumber number l = (number ≡ l.made + 1) × (number ≤ most_made)

-- all numbers are given
abbrev pub AllAreGiven : Logged → Type 0
AllAreGiven l = l.made ≡ most_made
