-- The balance of counts, thing by thing.
use Rattle.std.specs.Prelude.{◌≡◌, ◌↔◌, ◌+◌, List, map, Contains}
use Rattle.std.specs.List.Sorted.{IsStrictlySortedBy}
use Rattle.orca_names.specs.Names.{thing_cmp}
use Rattle.orca_names.specs.declared.names.Thing.{Thing}
use Rattle.orca_names.specs.declared.tally.Sums.{Sums}
use Rattle.machine_rules.specs.Actors.{Actors}
use Rattle.machine_rules.specs.Balance.{decs_at, held_sum, incs_at, load_sum, own_at, owner_seat}
use Rattle.machine_rules.specs.Left.{IsLeft}

-- what its owner counts of a thing, what waits for the owner, what all hold, and how many letters
-- load it
abbrev pub sums_of : Actors → Thing → Sums
sums_of actors x = record {
  thing = x;
  count = own_at x (owner_seat actors x);
  inc = incs_at x (owner_seat actors x);
  dec = decs_at x (owner_seat actors x);
  held = held_sum x actors;
  letters = load_sum x actors;
}

-- the lines of exactly the things that are left, in the order of things
pub record IsTally (actors : Actors) (sums : List Sums) : Type 0 where
  pub things : List Thing
  pub left : (x : Thing) → Contains things x ↔ IsLeft actors x
  pub rising : IsStrictlySortedBy thing_cmp things
  pub lines : sums ≡ map (sums_of actors) things

-- the numbers of a line balance
abbrev pub Balances : Sums → Type 0
Balances s = s.count + s.inc ≡ s.held + s.letters + s.dec
