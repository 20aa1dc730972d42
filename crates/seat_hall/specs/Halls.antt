-- The hall as it lies under the turn, without the cells that are out.
use Rattle.std.specs.Prelude.{ℕ, ◌≡◌, ◌≢◌, ◌+◌, ◌≤◌, [], is_some, true, List, length, count_by, Option, Some, None}
use Rattle.behaviour_code.specs.declared.code.Program.{Program}
use Rattle.machine_rules.specs.State.{State}
use Rattle.run_book.specs.Books.{BookValue, options_of_book}
use Rattle.orca_parts.specs.Away.{is_out}
use Rattle.orca_core.specs.Machine.{Machine}
use Rattle.hall_rules.specs.Causes.{event_at}
use Rattle.hall_rules.specs.Kept.{IsRunWithin}
use Rattle.seat_hall.specs.declared.item.Item.{Item}
use Rattle.seat_hall.specs.Log.{Logged, claim_in}
use Rattle.seat_hall.specs.Rooms.{RoomsView}

-- a hall as its callers see it: with all its cells, and the item by which it came to be
pub record HallView : Type 0 where
  pub logged : Logged
  pub last : Item

-- the hall after the item
abbrev pub says : Logged → Item → HallView
says logged last = record { logged = logged; last = last }

-- each claimed actor has an enabled event still, so that nothing reaps it
abbrev pub ClaimedAreBusy : State → List (Option ℕ) → Type 0
ClaimedAreBusy s claims = (a pass : ℕ) → claim_in claims a ≡ Some pass → event_at s a ≢ None

-- what the hall keeps: the book is a run, within the budget, that leads to the machine's state; the
-- machine has no blocks; the cells that are away are those of the claims; each actor has a place for
-- claims; as many rooms are out as claims; there is a room for each actor; and claimed actors are busy
pub record HallKeeps (program : Program) (budget : ℕ) (orca : Machine) (book : BookValue)
    (claims : List (Option ℕ)) (rooms : RoomsView) : Type 0 where
  pub one : IsRunWithin program (options_of_book book) budget orca.state orca.steps book.entries
  pub none : orca.blocks ≡ []
  pub away : (a : ℕ) → is_out orca.out a ≡ is_some (claim_in claims a)
  pub sized : length claims ≡ length orca.state.actors
  pub counted : rooms.out ≡ count_by is_some claims
  pub enough : length claims ≤ rooms.free + rooms.out
  pub busy : ClaimedAreBusy orca.state claims

-- no machine that may stand behind the hall has the actor's cell
abbrev pub LacksCell : ℕ → Logged → Type 0
LacksCell a l =
    (orca : Machine) (book : BookValue) (rooms : RoomsView)
    → HallKeeps l.program l.budget orca book l.claims rooms → is_out orca.out a ≡ true
