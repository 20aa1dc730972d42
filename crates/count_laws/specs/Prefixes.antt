-- Prefixes of an actor's letters never take from a count what is not there.
use Rattle.std.specs.Prelude.{ℕ, ◌+◌, ◌≤◌, min, drop, take, List, Option, Some, None, sum_by, ⊤}
use Rattle.orca_names.specs.declared.names.Thing.{Thing}
use Rattle.letter_kinds.specs.Letters.{Letter}
use Rattle.letter_kinds.specs.Holdings.{own_in}
use Rattle.letter_kinds.specs.Sums.{dec_of, inc_of, load_count}
use Rattle.machine_rules.specs.Actors.{Actors, Seat}
use Rattle.machine_rules.specs.Balance.{owner_seat}
use Rattle.orca_names.specs.declared.trace.Trace.{Trace}
use Rattle.orca_names.specs.declared.trace.Trace.TheVariants.{Deep, Roots}

-- what is left where an increment still waits
abbrev pub spare : Trace → ℕ
spare Deep = 1
spare Roots = 0

-- however many letters are taken, what they take from a count of n is there, and with deep tracing,
-- where an increment still waits behind them, one is left
unfoldable pub IsCovered : Trace → Thing → ℕ → List Letter → Type 0
IsCovered trace x n mail = (k : ℕ) →
    sum_by (dec_of x) (take k mail) + sum_by (load_count x) (take k mail)
    + min (spare trace) (sum_by (inc_of x) (drop k mail)) ≤ n + sum_by (inc_of x) (take k mail)

abbrev pub IsCoveredAt : Trace → Thing → Option Seat → Type 0
IsCoveredAt trace x None = ⊤
IsCoveredAt trace x (Some o) = IsCovered trace x (own_in o.cell.holdings x) o.mail

-- no letter takes from a count what is not there
abbrev pub NeverOverdraws : Trace → Actors → Type 0
NeverOverdraws trace actors = (x : Thing) → IsCoveredAt trace x (owner_seat actors x)
