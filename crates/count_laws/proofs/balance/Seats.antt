-- One seat of the actors is changed: what is owed is said of that seat alone.
use Rattle.std.proofs.Common.{◌≡◌, ◌≢◌, ℕ, ◌+◌, ◌<◌, Option, Some, None, List, length, set, ap, arith, ⊎_elim, get_or-set_same, get_or-set_other}
use Rattle.std.proofs.lemmas.Bool.{cases_eq}
use Rattle.std.proofs.lemmas.List.Sums.{sum_by-set}
use Rattle.letter_kinds.specs.Letters.{Letter}
use Rattle.count_laws.proofs.balance.InHand.{BalancedWith}
use Rattle.machine_rules.specs.Actors.{Seat, Actors, seat, seat_at}
use Rattle.machine_rules.specs.Balance.{own_at, incs_at, decs_at, held_at, loads_at, held_sum, load_sum}
use Rattle.machine_rules.specs.Cell.{Cell}
use Rattle.orca_names.specs.Names.{owner_of}
use Rattle.orca_names.specs.declared.names.Thing.{Thing}

-- the actor is present
abbrev pub IsPresent : Actors → ℕ → Type 0
IsPresent s a = (o : Seat) × (seat_at s a ≡ Some o)

-- The seat at b is changed from old to new. What is owed is said of that seat alone.
module _ (s : Actors) (b : ℕ) (old new : Option Seat) (within : b < length s) (was : seat_at s b ≡ old) where
  pub at_same : (i : ℕ) → i ≡ b → seat_at (set s b new) i ≡ new
  at_same i e = rw e (get_or-set_same s b new None within)

  pub at_other : (i : ℕ) → i ≢ b → seat_at (set s b new) i ≡ seat_at s i
  at_other i n = get_or-set_other s b i new None n

  pub held_sum-set : (x : Thing) → held_sum x (set s b new) + held_at x old ≡ held_sum x s + held_at x new
  held_sum-set x = rw (← was) (sum_by-set (held_at x) s b new None within)

  pub load_sum-set : (x : Thing) → load_sum x (set s b new) + loads_at x old ≡ load_sum x s + loads_at x new
  load_sum-set x = rw (← was) (sum_by-set (loads_at x) s b new None within)

  pub balanced-set : (d e d' e' : Thing → ℕ)
      → ((x : Thing) → owner_of x ≡ b →
      own_at x new + incs_at x new + d' x + (held_at x old + loads_at x old + decs_at x old + e x)
      ≡ held_at x new + loads_at x new + decs_at x new + e' x + (own_at x old + incs_at x old + d x))
      → ((x : Thing) → owner_of x ≢ b → d' x + (held_at x old + loads_at x old + e x) ≡ held_at x new + loads_at x new + e' x + d x)
      → BalancedWith d e s → BalancedWith d' e' (set s b new)
  balanced-set d e d' e' mine others bal x = ⊎_elim
      (λ is. let h = held_sum-set x in let l = load_sum-set x in let m = mine x is in let z = bal x in
      let n = at_same (owner_of x) is in
      let o : seat_at s (owner_of x) ≡ old = rw is was in
      let z' = rw o at z in
      rw n (omega arith))
      (λ not. let h = held_sum-set x in let l = load_sum-set x in let m = others x not in let z = bal x in
      rw (at_other (owner_of x) not) (omega arith))
      (cases_eq (owner_of x) b)

cell_or : Cell → Option Seat → Cell
cell_or c None = c
cell_or c (Some o) = o.cell

mail_or : List Letter → Option Seat → List Letter
mail_or ls None = ls
mail_or ls (Some o) = o.mail

pub some_seat : (c d : Cell) (ls ms : List Letter) → seat c ls ≡ seat d ms → (c ≡ d) × (ls ≡ ms)
unfolding cell_or mail_or
some_seat c d ls ms e = (ap (cell_or c) e, ap (mail_or ls) e)
