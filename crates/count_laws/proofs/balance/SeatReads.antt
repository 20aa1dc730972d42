-- What a seat and a letter read.
use Rattle.std.proofs.Common.{◌≡◌, ℕ, Option, None, List, refl}
use Rattle.letter_kinds.specs.Holdings.{Row, own_in, held_in}
use Rattle.letter_kinds.specs.Sums.{amount_of, times_loaded, inc_of, dec_of, load_count}
use Rattle.letter_kinds.specs.Letters.{Letter, App, Inc, Dec, Confirm}
use Rattle.machine_rules.specs.Actors.{seat}
use Rattle.machine_rules.specs.Balance.{own_at, incs_at, decs_at, held_at, loads_at}
use Rattle.machine_rules.specs.Cell.{Cell}
use Rattle.orca_names.specs.declared.names.Thing.{Thing}
use Rattle.orca_names.specs.declared.names.Value.{Value}
use Rattle.std.specs.Prelude.{sum_by}

-- what a seat reads
module _ (x : Thing) (c : Cell) (ls : List Letter) where
  pub own_at-seat : own_at x (seat c ls) ≡ own_in c.holdings x
  unfolding own_at
  own_at-seat = refl

  pub held_at-seat : held_at x (seat c ls) ≡ held_in c.holdings x
  unfolding held_at
  held_at-seat = refl

  pub incs_at-seat : incs_at x (seat c ls) ≡ sum_by (inc_of x) ls
  unfolding incs_at
  incs_at-seat = refl

  pub decs_at-seat : decs_at x (seat c ls) ≡ sum_by (dec_of x) ls
  unfolding decs_at
  decs_at-seat = refl

  pub loads_at-seat : loads_at x (seat c ls) ≡ sum_by (load_count x) ls
  unfolding loads_at
  loads_at-seat = refl

module _ (x : Thing) where
  pub own_at-none : own_at x None ≡ 0
  unfolding own_at
  own_at-none = refl

  pub held_at-none : held_at x None ≡ 0
  unfolding held_at
  held_at-none = refl

  pub incs_at-none : incs_at x None ≡ 0
  unfolding incs_at
  incs_at-none = refl

  pub decs_at-none : decs_at x None ≡ 0
  unfolding decs_at
  decs_at-none = refl

  pub loads_at-none : loads_at x None ≡ 0
  unfolding loads_at
  loads_at-none = refl

module _ (x : Thing) (b : ℕ) (vs : List Value) (load rows : List (Thing × Option Row)) where
  pub letter_App : (inc_of x (App b vs load rows) ≡ 0) × (dec_of x (App b vs load rows) ≡ 0) × (load_count x (App b vs load rows) ≡ times_loaded x load)
  unfolding inc_of dec_of load_count
  letter_App = (refl, refl, refl)

module _ (x : Thing) (es : List (Thing × ℕ)) where
  pub letter_Inc : (inc_of x (Inc es) ≡ amount_of x es) × (dec_of x (Inc es) ≡ 0) × (load_count x (Inc es) ≡ 0)
  unfolding inc_of dec_of load_count
  letter_Inc = (refl, refl, refl)

  pub letter_Dec : (inc_of x (Dec es) ≡ 0) × (dec_of x (Dec es) ≡ amount_of x es) × (load_count x (Dec es) ≡ 0)
  unfolding inc_of dec_of load_count
  letter_Dec = (refl, refl, refl)

pub letter_Confirm : (x : Thing) (t : ℕ) → (inc_of x (Confirm t) ≡ 0) × (dec_of x (Confirm t) ≡ 0) × (load_count x (Confirm t) ≡ 0)
unfolding inc_of dec_of load_count
letter_Confirm x t = (refl, refl, refl)
