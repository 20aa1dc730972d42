-- Taking a letter keeps the balance and the prefixes.
use Rattle.std.proofs.Common.{◌≡◌, ◌≢◌, ℕ, ◌+◌, List, ◌∷◌, refl, ◌∙◌, ap, arith, subst, ◌<◌, true}
use Rattle.std.proofs.lemmas.List.Sums.{sum_by-cons}
use Rattle.letter_kinds.proofs.Counts.{own-receive, held-receive, held-receive_own}
use Rattle.letter_kinds.proofs.Amounts.{own-raise_all, held-raise_all, own-lower_all, held-lower_all}
use Rattle.count_laws.proofs.balance.Seats.{balanced-set}
use Rattle.machine_rules.proofs.Present.{present_below}
use Rattle.count_laws.proofs.balance.Safety.{safe_taken, safe_first, prefix-set}
use Rattle.count_laws.proofs.balance.SeatReads.{own_at-seat, held_at-seat, incs_at-seat, decs_at-seat, loads_at-seat, letter_App, letter_Inc, letter_Dec, letter_Confirm}
use Rattle.letter_kinds.specs.Holdings.{own_in, held_in, has_own}
use Rattle.letter_kinds.specs.Sums.{inc_of, dec_of, load_count}
use Rattle.letter_kinds.specs.Letters.{Letter, App, Inc, Dec, Confirm}
use Rattle.count_laws.proofs.balance.InHand.{none, take_letter, Balanced}
use Rattle.orca_names.specs.declared.trace.Trace.{Trace}
use Rattle.machine_rules.specs.Actors.{Actors, seat_at, seat}
use Rattle.count_laws.specs.Prefixes.{IsCovered, IsCoveredAt, NeverOverdraws}
use Rattle.machine_rules.specs.Cell.{Cell}
use Rattle.machine_rules.specs.Take.{cell_after}
use Rattle.orca_names.specs.Names.{owner_of}
use Rattle.orca_names.specs.declared.names.Thing.{Thing}
use Rattle.behaviour_code.specs.declared.code.Program.{Program}

module _ (program : Program) (me : ℕ) (x : Thing) (c : Cell) (ls : List Letter) where
  -- the count that taking a letter leaves on a thing of one's own
  pub own-taken : (trace : Trace) (l : Letter) → owner_of x ≡ me → IsCovered trace x (own_in c.holdings x) (l ∷ ls) → (0 < inc_of x l → has_own c.holdings x ≡ true) → own_in (cell_after program me l c).holdings x + load_count x l + dec_of x l ≡ own_in c.holdings x + inc_of x l
  own-taken trace (App b vs load rows) o safe has =
      let f = safe_first trace x (own_in c.holdings x) (App b vs load rows) ls safe in let a = letter_App x b vs load rows in
      omega (arith, f, a.0, a.1, a.2, own-receive me x load c.holdings o)
  own-taken trace (Inc es) o safe has =
      let f = safe_first trace x (own_in c.holdings x) (Inc es) ls safe in let a = letter_Inc x es in
      let r = own-raise_all me x es c.holdings o (λ some. has (omega (arith, a.0))) in
      omega (arith, f, a.0, a.1, a.2)
  own-taken trace (Dec es) o safe has =
      let f = safe_first trace x (own_in c.holdings x) (Dec es) ls safe in let a = letter_Dec x es in
      omega (arith, f, a.0, a.1, a.2, own-lower_all me x es c.holdings o)
  own-taken trace (Confirm t) o safe has = let a = letter_Confirm x t in omega (arith, a.0, a.1, a.2)

  pub held-taken_own : (l : Letter) → owner_of x ≡ me → held_in (cell_after program me l c).holdings x ≡ held_in c.holdings x
  held-taken_own (App b vs load rows) o = held-receive_own me x load c.holdings o
  held-taken_own (Inc es) o = held-raise_all me x es c.holdings
  held-taken_own (Dec es) o = held-lower_all me x es c.holdings
  held-taken_own (Confirm t) o = refl

  pub held-taken : (l : Letter) → owner_of x ≢ me → held_in (cell_after program me l c).holdings x ≡ held_in c.holdings x + load_count x l
  held-taken (App b vs load rows) o = let a = letter_App x b vs load rows in
      omega (arith, a.2, held-receive me x load c.holdings o)
  held-taken (Inc es) o = let a = letter_Inc x es in
      omega (arith, a.2, held-raise_all me x es c.holdings)
  held-taken (Dec es) o = let a = letter_Dec x es in
      omega (arith, a.2, held-lower_all me x es c.holdings)
  held-taken (Confirm t) o = let a = letter_Confirm x t in omega (arith, a.2)

module _ (trace : Trace) (program : Program) (s : Actors) (a : ℕ) (c : Cell) (l : Letter) (ls : List Letter) (at : seat_at s a ≡ seat c (l ∷ ls)) (p : NeverOverdraws trace s)
    (has : (x : Thing) → owner_of x ≡ a → 0 < inc_of x l → has_own c.holdings x ≡ true) where
  pub safe_here : (x : Thing) → owner_of x ≡ a → IsCovered trace x (own_in c.holdings x) (l ∷ ls)
  safe_here x o = subst (IsCoveredAt trace x) (ap (seat_at s) o ∙ at) (p x)

  pub take_balanced : Balanced s → Balanced (take_letter program a c l ls s)
  take_balanced = balanced-set s a (seat c (l ∷ ls)) (seat (cell_after program a l c) ls) (present_below s a _ at) at none none none none
      (λ x is.
      omega (
        arith,
        own-taken program a x c ls trace l is (safe_here x is) (has x is),
        held-taken_own program a x c ls l is,
        own_at-seat x (cell_after program a l c) ls,
        incs_at-seat x (cell_after program a l c) ls,
        decs_at-seat x (cell_after program a l c) ls,
        held_at-seat x (cell_after program a l c) ls,
        loads_at-seat x (cell_after program a l c) ls,
        own_at-seat x c (l ∷ ls),
        incs_at-seat x c (l ∷ ls),
        decs_at-seat x c (l ∷ ls),
        held_at-seat x c (l ∷ ls),
        loads_at-seat x c (l ∷ ls),
        sum_by-cons (inc_of x) l ls,
        sum_by-cons (dec_of x) l ls,
        sum_by-cons (load_count x) l ls,
      ))
      (λ x not.
      omega (
        arith,
        held-taken program a x c ls l not,
        held_at-seat x (cell_after program a l c) ls,
        loads_at-seat x (cell_after program a l c) ls,
        held_at-seat x c (l ∷ ls),
        loads_at-seat x c (l ∷ ls),
        sum_by-cons (load_count x) l ls,
      ))

  pub take_prefix : NeverOverdraws trace (take_letter program a c l ls s)
  take_prefix = prefix-set trace s a (seat c (l ∷ ls)) (seat (cell_after program a l c) ls) (present_below s a _ at) at
      (λ x is safe. safe_taken trace x (own_in c.holdings x) _ l ls (omega (arith, own-taken program a x c ls trace l is safe (has x is))) safe) p
