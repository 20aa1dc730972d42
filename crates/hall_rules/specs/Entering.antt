-- When an event may become an entry, and what is done then.
use Rattle.std.specs.Prelude.{◌≡◌, ◌<◌, ◌+◌, ◌++◌, ◌∷◌, [], false, length, None, Option}
use Rattle.std.specs.Global.{Box}
use Rattle.std.specs.Option.{ForSome}
use Rattle.orca_names.specs.declared.limits.TheConstants.{BOOK_LIMIT}
use Rattle.event_rule.specs.Runs.{Goes}
use Rattle.event_rule.specs.declared.event.Event.{Event}
use Rattle.machine_rules.specs.Next.{next}
use Rattle.actor_cell.specs.declared.found.Found.{Found}
use Rattle.orca_parts.specs.Away.{is_out_for}
use Rattle.orca_parts.specs.Woken.{IsLowestWoken}
use Rattle.orca_core.specs.Machine.{Machine, IsFoundIn, IsSame, ReapsNoneAway}
use Rattle.run_book.specs.Books.{BookValue}
use Rattle.work_board.specs.declared.answers.Committed.{Committed}
use Rattle.work_board.specs.declared.answers.Refuse.{Refuse}
use Rattle.hall_rules.specs.Causes.{IsRefusal, full_cause, unready_cause}

-- the machine, which has no blocks, may do one event more and this one is enabled; neither its actor's
-- cell is away nor that of one whom it reaps; and what the place has, if anything, was found of its
-- actor's cell
pub record MayEnter (e : Event) (place : Option (Box Found)) (m : Machine) : Type 0 where
  pub early : m.steps < BOOK_LIMIT
  pub home : is_out_for m.out e ≡ false
  pub none : m.blocks ≡ []
  pub spares : ReapsNoneAway e m
  pub ready : unready_cause (next m.state e) ≡ None
  pub found : ForSome place (λ known. IsFoundIn e known.value m)

-- the event was done and became the last entry, and its place and whom it woke were answered; the machine
-- has no blocks still
pub record Enters (e : Event) (done : Committed) (m n : Machine) (book after : BookValue) : Type 0 where
  pub goes : next m.state e ≡ Goes n.state
  pub steps : n.steps ≡ m.steps + 1
  pub none : n.blocks ≡ []
  pub entry : after.entries ≡ book.entries ++ e ∷ []
  pub place : done.place ≡ length book.entries
  pub woke : IsLowestWoken m.state.actors n.state.actors done.woke

-- it was refused, as full or for want of memory, and nothing is another but room
pub record Refuses (e : Event) (refuse : Refuse) (m n : Machine) (book after : BookValue) : Type 0 where
  pub cause : IsRefusal (full_cause (next m.state e) e) refuse
  pub same : IsSame m n
  pub entries : after.entries ≡ book.entries
