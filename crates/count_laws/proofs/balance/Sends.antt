-- Sending and minting keep the balance and the prefixes.
use Rattle.std.proofs.Common.{◌≡◌, ◌≢◌, ℕ, zero, suc, ◌+◌, ◌<◌, ◌≤◌, ◌==◌, cond, Bool, true, false, Option, Some, None, List, [], ◌∷◌, ◌++◌, set, refl, sym, ◌∙◌, ap, arith, ⊎_elim}
use Rattle.std.proofs.lemmas.Bool.{cases_eq}
use Rattle.std.proofs.lemmas.List.Sums.{sum_by_push}
use Rattle.letter_kinds.proofs.Sums.{sum-at}
use Rattle.letter_kinds.proofs.Counts.{own-send, held-send, held-send_own, cond_eq, cond_ne}
use Rattle.letter_kinds.proofs.Amounts.{held-mint_all, own-mint_all}
use Rattle.count_laws.proofs.balance.Seats.{balanced-set, at_same, at_other, held_sum-set, IsPresent}
use Rattle.machine_rules.proofs.Present.{present_below}
use Rattle.count_laws.proofs.balance.Posting.{push_balanced, held_at_push}
use Rattle.count_laws.proofs.balance.Safety.{safe_more, safe_push, prefix-set}
use Rattle.count_laws.proofs.balance.SeatReads.{own_at-seat, held_at-seat, incs_at-seat, decs_at-seat, loads_at-seat, letter_App, letter_Inc, own_at-none, incs_at-none}
use Rattle.letter_kinds.specs.Counting.{send, mint_all}
use Rattle.letter_kinds.specs.Holdings.{Row, own_in, held_in, has_own}
use Rattle.letter_kinds.specs.Sums.{amount_of, times_loaded, inc_of, dec_of, load_count}
use Rattle.letter_kinds.specs.Letters.{Letter, App, Inc}
use Rattle.count_laws.proofs.balance.InHand.{BalancedWith, credit, debit, none, Balanced}
use Rattle.orca_names.specs.declared.trace.Trace.{Trace}
use Rattle.orca_names.specs.declared.trace.Trace.TheVariants.{Deep}
use Rattle.machine_rules.specs.Actors.{Seat, Actors, seat_at, with_letter_more, push_letter, seat}
use Rattle.machine_rules.specs.Balance.{own_at, incs_at, held_at, loads_at, held_sum, load_sum, owner_seat}
use Rattle.count_laws.specs.Prefixes.{NeverOverdraws}
use Rattle.machine_rules.specs.Cell.{Cell}
use Rattle.machine_rules.specs.Go.{post, mint}
use Rattle.orca_names.specs.Names.{owner_of}
use Rattle.orca_names.specs.declared.names.Thing.{Thing}
use Rattle.orca_names.specs.declared.names.Value.{Value}

-- what is counted, or to be raised, has an owner that is present
present_if : (x : Thing) (s : Actors) (o : Option Seat) → owner_seat s x ≡ o → 0 < own_at x o + incs_at x o → IsPresent s (owner_of x)
present_if x s None e h = absurd (omega (arith, own_at-none x, incs_at-none x))
present_if x s (Some o) e h = (o, e)

pub present_owner : (x : Thing) (s : Actors) → 0 < own_at x (owner_seat s x) + incs_at x (owner_seat s x) → IsPresent s (owner_of x)
present_owner x s h = present_if x s (owner_seat s x) refl h

pub held_below : (x : Thing) (s : Actors) (a : ℕ) (c : Cell) (ls : List Letter) → seat_at s a ≡ seat c ls → held_in c.holdings x ≤ held_sum x s
held_below x s a c ls at =
    let w = sum-at (held_at x) s a None (present_below s a _ at) in
    let h = held_at-seat x c ls in
    let w' = rw at at w in omega arith

-- pushing keeps the prefixes
pub push_is : (s : Actors) (b : ℕ) (l : Letter) (o : Seat) → seat_at s b ≡ Some o → push_letter b l s ≡ set s b (with_letter_more l (Some o))
unfolding push_letter
push_is s b l o at = rw at refl

seat_below : (x : Thing) (s : Actors) (b : ℕ) (o : Seat) → seat_at s b ≡ Some o → loads_at x (Some o) ≤ load_sum x s
seat_below x s b o at = let w = sum-at (loads_at x) s b None (present_below s b o at) in rw at at w

module _ (trace : Trace) (s : Actors) (b : ℕ) (l : Letter) (e : Thing → ℕ) (o : Seat) (at : seat_at s b ≡ Some o) (bal : BalancedWith none e (push_letter b l s))
    (pushed : trace ≡ Deep → (x : Thing) → owner_of x ≡ b → 0 < inc_of x l → inc_of x l < held_sum x (push_letter b l s)) where
  here : (x : Thing) → owner_of x ≡ b → owner_seat (push_letter b l s) x ≡ with_letter_more l (Some o)
  here x is = rw (push_is s b l o at) (at_same s b (Some o) (with_letter_more l (Some o)) (present_below s b o at) at (owner_of x) is)

  loads_below : (x : Thing) → owner_of x ≡ b → loads_at x (with_letter_more l (Some o)) ≤ load_sum x (push_letter b l s)
  loads_below x is = seat_below x (push_letter b l s) b (record o { mail = o.mail ++ l ∷ [] }) (ap (seat_at (push_letter b l s)) (sym is) ∙ here x is)

  pub push_prefix : NeverOverdraws trace s → NeverOverdraws trace (push_letter b l s)
  push_prefix p = rw (push_is s b l o at) (prefix-set trace s b (Some o) (with_letter_more l (Some o)) (present_below s b o at) at
      (λ x is safe.
      let h = here x is in
      let z' = rw h at (bal x) in
      let w = loads_below x is in
      let i1 = incs_at-seat x o.cell (o.mail ++ l ∷ []) in
      let d1 = decs_at-seat x o.cell (o.mail ++ l ∷ []) in
      let l1 = loads_at-seat x o.cell (o.mail ++ l ∷ []) in
      let o1 = own_at-seat x o.cell (o.mail ++ l ∷ []) in
      safe_push trace x (own_in o.cell.holdings x) o.mail l
      (omega arith)
      (λ deep some. let q' = pushed deep x is some in omega (arith, sum_by_push (inc_of x) o.mail l, sum_by_push (dec_of x) o.mail l, sum_by_push (load_count x) o.mail l))
      safe) p)

pub held_sum-push : (s : Actors) (b : ℕ) (l : Letter) (o : Seat) (at : seat_at s b ≡ Some o) (x : Thing) → held_sum x (push_letter b l s) ≡ held_sum x s
held_sum-push s b l o at x =
    let h = held_sum-set s b (Some o) (with_letter_more l (Some o)) (present_below s b o at) at x in
    rw (push_is s b l o at) (omega (arith, held_at_push x o l))

-- the cell of a is changed, and its letters stay
module _ (s : Actors) (a : ℕ) (c0 c : Cell) (mail : List Letter) (at : seat_at s a ≡ seat c0 mail) where
  pub cell_balanced : (d e d' e' : Thing → ℕ)
      → ((x : Thing) → owner_of x ≡ a → own_in c.holdings x + d' x + (held_in c0.holdings x + e x) ≡ held_in c.holdings x + e' x + (own_in c0.holdings x + d x))
      → ((x : Thing) → owner_of x ≢ a → d' x + (held_in c0.holdings x + e x) ≡ held_in c.holdings x + e' x + d x)
      → BalancedWith d e s → BalancedWith d' e' (set s a (seat c mail))
  cell_balanced d e d' e' mine others = balanced-set s a (seat c0 mail) (seat c mail) (present_below s a _ at) at d e d' e'
      (λ x is. let m = mine x is in
      omega (
        arith,
        own_at-seat x c mail,
        incs_at-seat x c mail,
        decs_at-seat x c mail,
        held_at-seat x c mail,
        loads_at-seat x c mail,
        own_at-seat x c0 mail,
        incs_at-seat x c0 mail,
        decs_at-seat x c0 mail,
        held_at-seat x c0 mail,
        loads_at-seat x c0 mail,
      ))
      (λ x not. let m = others x not in
      omega (arith, held_at-seat x c mail, loads_at-seat x c mail, held_at-seat x c0 mail, loads_at-seat x c0 mail))

  pub cell_prefix : (trace : Trace) → ((x : Thing) → owner_of x ≡ a → own_in c0.holdings x ≤ own_in c.holdings x) → NeverOverdraws trace s → NeverOverdraws trace (set s a (seat c mail))
  cell_prefix trace up = prefix-set trace s a (seat c0 mail) (seat c mail) (present_below s a _ at) at (λ x is. safe_more trace x (own_in c0.holdings x) (own_in c.holdings x) mail (up x is))

  pub cell_there : seat_at (set s a (seat c mail)) a ≡ seat c mail
  cell_there = at_same s a (seat c0 mail) (seat c mail) (present_below s a _ at) at a refl

  pub cell_present : (b : ℕ) → IsPresent s b → IsPresent (set s a (seat c mail)) b
  cell_present b (o, is) = ⊎_elim
      (λ same. (record { cell = c; mail = mail }, at_same s a (seat c0 mail) (seat c mail) (present_below s a _ at) at b same))
      (λ not. (o, at_other s a (seat c0 mail) (seat c mail) (present_below s a _ at) at b not ∙ is))
      (cases_eq b a)

pub cond_zero : (b : Bool) (n : ℕ) → n ≡ 0 → cond b n 0 ≡ 0
cond_zero true n e = e
cond_zero false n e = refl

-- Post: the segment's cell c has the counts of the cell c0 before it
module _ (s : Actors) (a : ℕ) (c0 c : Cell) (mail : List Letter) (at : seat_at s a ≡ seat c0 mail)
    (b behaviour : ℕ) (args : List Value) (load rows : List (Thing × Option Row))
    (own_same : (x : Thing) → owner_of x ≡ a → own_in c.holdings x ≡ own_in c0.holdings x) (held_same : (x : Thing) → held_in c.holdings x ≡ held_in c0.holdings x)
    (has : (x : Thing) → owner_of x ≡ a → 0 < times_loaded x load → has_own c.holdings x ≡ true)
    (enough : (x : Thing) → owner_of x ≢ a → times_loaded x load ≤ held_in c.holdings x)
    (target : IsPresent s b) where
  abbrev sent : Cell → Cell
  sent d = record d { holdings = send a load d.holdings }

  pub post_balanced : Balanced s → Balanced (post a c mail b behaviour args load rows s)
  post_balanced bal = push_balanced (set s a (seat (sent c) mail)) b (App behaviour args load rows) none none (cell_present s a c0 (sent c) mail at b target)
      (cell_balanced s a c0 (sent c) mail at none none _ _
      (λ x is.
      let l = letter_App x behaviour args load rows in
      let q = own-send a x load c.holdings is (has x is) in
      let h = held-send_own a x load c.holdings is in
      let os = own_same x is in let hs = held_same x in
      let n = cond_zero (owner_of x == b) (inc_of x (App behaviour args load rows)) l.0 in
      let n' = cond_zero (owner_of x == b) (dec_of x (App behaviour args load rows)) l.1 in
      omega (arith, l.2))
      (λ x not.
      let l = letter_App x behaviour args load rows in
      let h = held-send a x load c.holdings not in
      let en = enough x not in let hs = held_same x in
      let n = cond_zero (owner_of x == b) (inc_of x (App behaviour args load rows)) l.0 in
      let n' = cond_zero (owner_of x == b) (dec_of x (App behaviour args load rows)) l.1 in
      omega (arith, l.2))
      bal)

  pub post_prefix : (trace : Trace) → Balanced s → NeverOverdraws trace s → NeverOverdraws trace (post a c mail b behaviour args load rows s)
  post_prefix trace bal p =
      let there = cell_present s a c0 (sent c) mail at b target in
      push_prefix trace (set s a (seat (sent c) mail)) b (App behaviour args load rows) none there.0 there.1 (post_balanced bal)
      (λ deep x is some. absurd (let l = letter_App x behaviour args load rows in omega (arith, l.0)))
      (cell_prefix s a c0 (sent c) mail at trace (λ x is. let q = own-send a x load c.holdings is (has x is) in let os = own_same x is in omega arith) p)

none_of : (n : ℕ) → ¬ (0 < n) → 0 ≡ n
none_of zero h = refl
none_of (suc n) h = absurd (h (omega arith))

-- Mint, for things of b of which a has some
module _ (s : Actors) (a : ℕ) (c : Cell) (mail : List Letter) (at : seat_at s a ≡ seat c mail)
    (b : ℕ) (es : List (Thing × ℕ)) (theirs : (x : Thing) → 0 < amount_of x es → owner_of x ≡ b)
    (target : IsPresent s b) where
  abbrev minted : Cell
  minted = record c { holdings = mint_all es c.holdings }

  pub mint_balanced : Balanced s → Balanced (mint a c mail b es s)
  mint_balanced bal = push_balanced (set s a (seat minted mail)) b (Inc es) none none (cell_present s a c minted mail at b target)
      (cell_balanced s a c minted mail at none none _ _
      (λ x is. let f = fits x in let h = held-mint_all x es c.holdings in let o = own-mint_all x es c.holdings in omega (arith, f.0, f.1))
      (λ x not. let f = fits x in let h = held-mint_all x es c.holdings in omega (arith, f.0, f.1))
      bal)
    where
      no_amount : (x : Thing) → owner_of x ≢ b → 0 ≡ amount_of x es
      no_amount x not = none_of (amount_of x es) (λ some. not (theirs x some))

      fits : (x : Thing) → (credit b (Inc es) x ≡ amount_of x es) × (debit b (Inc es) x ≡ 0)
      fits x =
          let l = letter_Inc x es in (
            ⊎_elim (λ is. cond_eq (owner_of x) b (inc_of x (Inc es)) 0 is ∙ l.0)
                (λ not. cond_ne (owner_of x) b (inc_of x (Inc es)) 0 not ∙ no_amount x not)
                (cases_eq (owner_of x) b),
            (let n' = cond_zero (owner_of x == b) (dec_of x (Inc es)) l.1 in omega (arith, l.2)),
          )

  pub mint_prefix : (trace : Trace) → (trace ≡ Deep → (x : Thing) → 0 < amount_of x es → 0 < held_in c.holdings x) → Balanced s → NeverOverdraws trace s → NeverOverdraws trace (mint a c mail b es s)
  mint_prefix trace some_held bal p =
      let there = cell_present s a c minted mail at b target in
      push_prefix trace (set s a (seat minted mail)) b (Inc es) none there.0 there.1 (mint_balanced bal)
      (λ deep x is some.
      let l = letter_Inc x es in
      let t = some_held deep x (omega (arith, l.0)) in
      let h = held-mint_all x es c.holdings in
      let b' = held_below x (set s a (seat minted mail)) a minted mail (cell_there s a c minted mail at) in
      let k = held_sum-push (set s a (seat minted mail)) b (Inc es) there.0 there.1 x in
      omega (arith, l.0, t))
      (cell_prefix s a c minted mail at trace (λ x is. let o = own-mint_all x es c.holdings in omega arith) p)
