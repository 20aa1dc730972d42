-- A letter in the hand is pushed.
use Rattle.std.proofs.Common.{◌≡◌, ℕ, ◌+◌, Some, refl, arith}
use Rattle.std.proofs.lemmas.List.Sums.{sum_by_push}
use Rattle.letter_kinds.proofs.Counts.{cond_eq, cond_ne}
use Rattle.count_laws.proofs.balance.Seats.{balanced-set, IsPresent}
use Rattle.machine_rules.proofs.Present.{present_below}
use Rattle.letter_kinds.specs.Sums.{inc_of, dec_of, load_count}
use Rattle.letter_kinds.specs.Letters.{Letter}
use Rattle.count_laws.proofs.balance.InHand.{BalancedWith, credit, debit}
use Rattle.machine_rules.specs.Actors.{Seat, Actors, with_letter_more, push_letter}
use Rattle.machine_rules.specs.Balance.{own_at, incs_at, decs_at, held_at, loads_at}
use Rattle.orca_names.specs.Names.{owner_of}
use Rattle.orca_names.specs.declared.names.Thing.{Thing}

-- what a seat reads with one more letter
module _ (x : Thing) (o : Seat) (l : Letter) where
  pub own_at_push : own_at x (with_letter_more l (Some o)) ≡ own_at x (Some o)
  unfolding own_at
  own_at_push = refl

  pub held_at_push : held_at x (with_letter_more l (Some o)) ≡ held_at x (Some o)
  unfolding held_at
  held_at_push = refl

  pub incs_at_push : incs_at x (with_letter_more l (Some o)) ≡ incs_at x (Some o) + inc_of x l
  unfolding incs_at
  incs_at_push = sum_by_push (inc_of x) o.mail l

  pub decs_at_push : decs_at x (with_letter_more l (Some o)) ≡ decs_at x (Some o) + dec_of x l
  unfolding decs_at
  decs_at_push = sum_by_push (dec_of x) o.mail l

  pub loads_at_push : loads_at x (with_letter_more l (Some o)) ≡ loads_at x (Some o) + load_count x l
  unfolding loads_at
  loads_at_push = sum_by_push (load_count x) o.mail l

pub push_balanced : (s : Actors) (b : ℕ) (l : Letter) (d e : Thing → ℕ) → IsPresent s b
    → BalancedWith (λ x. credit b l x + d x) (λ x. debit b l x + e x) s → BalancedWith d e (push_letter b l s)
unfolding push_letter
push_balanced s b l d e (o, at) bal =
    rw at (balanced-set s b (Some o) (with_letter_more l (Some o)) (present_below s b o at) at _ _ d e
    (λ x is.
    let c = cond_eq (owner_of x) b (inc_of x l) 0 is in
    let c' = cond_eq (owner_of x) b (dec_of x l) 0 is in
    omega (arith, own_at_push x o l, held_at_push x o l, incs_at_push x o l, decs_at_push x o l, loads_at_push x o l))
    (λ x not.
    let c = cond_ne (owner_of x) b (inc_of x l) 0 not in
    let c' = cond_ne (owner_of x) b (dec_of x l) 0 not in
    omega (arith, held_at_push x o l, loads_at_push x o l))
    bal)
