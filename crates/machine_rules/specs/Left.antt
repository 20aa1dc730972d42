-- What is left in the machine that collects, and what was freed.
use Rattle.std.specs.Prelude.{◌<◌, ◌≡◌, true, List, length, is_some, Some}
use Rattle.orca_names.specs.Names.{owner_of}
use Rattle.orca_names.specs.declared.names.Thing.{Thing}
use Rattle.orca_names.specs.declared.names.Thing.TheVariants.{Actor, Obj}
use Rattle.letter_kinds.specs.Holdings.{has_own}
use Rattle.plain_rules.specs.declared.PlainActor.{PlainActor}
use Rattle.machine_rules.specs.Actors.{Actors, Seat, seat_at}
use Rattle.plain_rules.specs.Machine.{plain_row}

-- its owner is present and has it
pub record IsLeft (actors : Actors) (x : Thing) : Type 0 where
  pub seat : Seat
  pub present : seat_at actors (owner_of x) ≡ Some seat
  pub kept : has_own seat.cell.holdings x ≡ true

-- it was ever made
abbrev pub IsMade : List PlainActor → Thing → Type 0
IsMade actors (Actor a) = a < length actors
IsMade actors (Obj n) = is_some (plain_row actors n) ≡ true

-- it was made and is no longer there
abbrev pub IsFreed : List PlainActor → Actors → Thing → Type 0
IsFreed made actors x = IsMade made x × (¬ IsLeft actors x)
