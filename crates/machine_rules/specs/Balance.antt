-- The balance of counts (Orca, OOPSLA 2017): what the owner counts, with the increments under way, is
-- what others hold and letters load, with the decrements under way.
use Rattle.std.specs.Prelude.{ℕ, ◌+◌, ◌≡◌, Option, Some, None, sum_by}
use Rattle.orca_names.specs.Names.{owner_of}
use Rattle.orca_names.specs.declared.names.Thing.{Thing}
use Rattle.letter_kinds.specs.Holdings.{held_in, own_in}
use Rattle.letter_kinds.specs.Sums.{dec_of, inc_of, load_count}
use Rattle.machine_rules.specs.Actors.{Actors, Seat, seat_at}

-- ---- of one seat; of an actor that is gone there is nothing

-- its own count of x
unfoldable pub own_at : Thing → Option Seat → ℕ
own_at x None = 0
own_at x (Some o) = own_in o.cell.holdings x

-- the increments of x among its letters
unfoldable pub incs_at : Thing → Option Seat → ℕ
incs_at x None = 0
incs_at x (Some o) = sum_by (inc_of x) o.mail

-- the decrements of x among its letters
unfoldable pub decs_at : Thing → Option Seat → ℕ
decs_at x None = 0
decs_at x (Some o) = sum_by (dec_of x) o.mail

-- the count that it holds on x
unfoldable pub held_at : Thing → Option Seat → ℕ
held_at x None = 0
held_at x (Some o) = held_in o.cell.holdings x

-- how many of its letters load x
unfoldable pub loads_at : Thing → Option Seat → ℕ
loads_at x None = 0
loads_at x (Some o) = sum_by (load_count x) o.mail

-- ---- of all

abbrev pub owner_seat : Actors → Thing → Option Seat
owner_seat actors x = seat_at actors (owner_of x)

abbrev pub held_sum : Thing → Actors → ℕ
held_sum x actors = sum_by (held_at x) actors

abbrev pub load_sum : Thing → Actors → ℕ
load_sum x actors = sum_by (loads_at x) actors

-- the counts of each thing balance
abbrev pub IsBalanced : Actors → Type 0
IsBalanced actors = (x : Thing) →
    own_at x (owner_seat actors x) + incs_at x (owner_seat actors x)
    ≡ held_sum x actors + load_sum x actors + decs_at x (owner_seat actors x)
