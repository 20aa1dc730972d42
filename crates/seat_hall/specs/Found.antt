-- What was found of a claim.
use Rattle.actor_cell.specs.declared.found.Found.{Found}
use Rattle.orca_parts.specs.Founds.{IsFoundUntold}
use Rattle.seat_hall.specs.declared.taken.Taken.{Taken}

-- this is what the claim's cell would do
abbrev pub IsFoundOn : Taken → Found → Type 0
IsFoundOn taken found = IsFoundUntold taken.options taken.code.now taken.cell found
