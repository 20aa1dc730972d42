-- What is known of a hall at its end.
use Rattle.std.specs.Prelude.{ℕ, ◌≡◌, ◌≢◌, ◌<◌, List, [], Some}
use mathlib.Core.List.{IsPrefix}
use Rattle.run_book.specs.Books.{BookValue}
use Rattle.orca_core.specs.Machine.{Machine}
use Rattle.turn_log.specs.Ends.{IsStillOpen}
use Rattle.turn_log.specs.Seats.{knows}
use Rattle.hall_rules.specs.Kept.{AreParts}
use Rattle.seat_hall.specs.declared.closing.Closing.{Closing}
use Rattle.seat_hall.specs.declared.closing.Closing.TheVariants.{Whole, Turning, Lent}
use Rattle.seat_hall.specs.declared.item.Item.{Item}
use Rattle.seat_hall.specs.Fair.{Calm, HallRule, live, start_of}
use Rattle.seat_hall.specs.Log.{Legal, Logged, claim_in, listed, plain}
use Rattle.seat_hall.specs.Passes.{Token, hall, seen}

-- the hall of the whole log, which begins with all that the pass saw and heard of
pub record IsLastHall (t : Token) (l : Logged) : Type 0 where
  pub log : List Item
  pub saw : IsPrefix (seen t) log
  pub heard : IsPrefix (knows t).heard log
  pub legal : Legal (start_of (knows t).client) log
  pub is : l ≡ hall t log

-- the last hall's parts, where no claim is out; it is of the pass's run, and its machine has no blocks
pub record IsWhole (t : Token) (orca : Machine) (book : BookValue) : Type 0 where
  pub last : Logged
  pub last_is : IsLastHall t last
  pub none : listed 0 last.claims ≡ []
  pub parts : AreParts (plain last) orca book
  pub blockless : orca.blocks ≡ []
  pub program : last.program ≡ (knows t).client.program
  pub options : last.options ≡ (knows t).client.options
  pub budget : last.budget ≡ (knows t).client.budget

-- the pass `holder` has the lowest actor on which a claim is out
pub record IsLowestClaim (holder actor : ℕ) (l : Logged) : Type 0 where
  pub claimed : claim_in l.claims actor ≡ Some holder
  pub lowest : (b pass : ℕ) → b < actor → claim_in l.claims b ≢ Some pass

pub record IsLent (t : Token) (holder actor : ℕ) : Type 0 where
  pub last : Logged
  pub last_is : IsLastHall t last
  pub lowest : IsLowestClaim holder actor last

-- what the last hall leaves, once nobody has the turn
abbrev pub Leaves : Logged → Closing → Type 0
Leaves l (Whole orca book) =
    (listed 0 l.claims ≡ []) × AreParts (plain l) orca book × (orca.blocks ≡ [])
Leaves l (Turning ticket serving) = ⊥
Leaves l (Lent holder actor) = IsLowestClaim holder actor l

-- some passes have a ticket, from the one that is served to the one that would be drawn next
abbrev pub IsTurning : Token → ℕ → ℕ → Type 0
IsTurning t ticket serving = (ticket ≢ serving) × IsStillOpen HallRule live Calm (knows t) ticket serving

-- how the hall ends: whole; or with a turn out; or with a claim out
abbrev pub Closes : Token → Closing → Type 0
Closes t (Whole orca book) = IsWhole t orca book
Closes t (Turning ticket serving) = IsTurning t ticket serving
Closes t (Lent holder actor) = IsLent t holder actor
