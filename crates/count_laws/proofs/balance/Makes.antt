-- One actor more: the balance and the prefixes are kept.
use Rattle.std.proofs.Common.{◌≡◌, ◌≢◌, ℕ, ◌+◌, ◌<◌, ◌≤◌, cond, Option, None, List, [], ◌∷◌, ◌++◌, length, set, refl, sym, ◌∙◌, ap, arith, subst, ⊎_elim, length-set, length-append}
use Rattle.std.proofs.lemmas.List.{get_or_past, get_or_push, get_or_append_left}
use Rattle.std.proofs.lemmas.Bool.{cases_eq, cases_lt}
use Rattle.std.specs.FinMap as m
use Rattle.std.proofs.lemmas.List.Sums.{sum_by_push}
use Rattle.letter_kinds.proofs.Sums.{sum-nil}
use Rattle.orca_names.proofs.ThingOrder.{cases_thing, is_eq_true, is_ne_false}
use Rattle.letter_kinds.proofs.Counts.{held_set_same, held_set_other, own_set_held}
use Rattle.count_laws.proofs.balance.SeatReads.{own_at-seat, held_at-seat, incs_at-seat, decs_at-seat, loads_at-seat, own_at-none, incs_at-none, decs_at-none}
use Rattle.count_laws.proofs.balance.Safety.{safe_nil}
use Rattle.count_laws.proofs.balance.Sends.{cell_balanced, cell_prefix}
use Rattle.letter_kinds.specs.Counting.{gain}
use Rattle.letter_kinds.specs.Holdings.{Holdings, own_in, held_in}
use Rattle.letter_kinds.specs.Sums.{inc_of, dec_of, load_count}
use Rattle.letter_kinds.specs.Letters.{Letter}
use Rattle.count_laws.proofs.balance.InHand.{BalancedWith, none, Balanced}
use Rattle.orca_names.specs.declared.trace.Trace.{Trace}
use Rattle.machine_rules.specs.Actors.{Seat, Actors, seat_at, seat}
use Rattle.machine_rules.specs.Balance.{own_at, incs_at, decs_at, held_at, loads_at}
use Rattle.count_laws.specs.Prefixes.{IsCoveredAt, NeverOverdraws}
use Rattle.machine_rules.specs.Cell.{Cell}
use Rattle.machine_rules.specs.Go.{make}
use Rattle.orca_names.specs.Names.{owner_of, is_thing}
use Rattle.orca_names.specs.declared.names.Thing.{Thing}
use Rattle.orca_names.specs.declared.names.Thing.TheVariants.{Actor, Obj}

-- one more actor
module _ (s : Actors) (new : Option Seat) where
  pub more_last : (i : ℕ) → i ≡ length s → seat_at (s ++ new ∷ []) i ≡ new
  more_last i e = get_or_push s new None i (sym e)

  more_past : (i : ℕ) → length s ≤ i → seat_at s i ≡ None
  more_past i h = get_or_past s i None h

  pub more_other : (i : ℕ) → i ≢ length s → seat_at (s ++ new ∷ []) i ≡ seat_at s i
  more_other i n = ⊎_elim
      (λ h. get_or_append_left s (new ∷ []) None i h)
      (λ h. get_or_past (s ++ new ∷ []) i None (omega (arith, length-append s (new ∷ []), ne_split i (length s) n h)) ∙ sym (more_past i h))
      (cases_lt i (length s))
    where
      ne_split : (i j : ℕ) → i ≢ j → j ≤ i → j < i
      ne_split i j n h = omega arith

  pub balanced-more : (d e : Thing → ℕ)
      → ((x : Thing) → owner_of x ≡ length s → own_at x new + incs_at x new + 0 + e x ≡ held_at x new + loads_at x new + decs_at x new + 0 + d x)
      → ((x : Thing) → owner_of x ≢ length s → held_at x new + loads_at x new + d x ≡ e x)
      → BalancedWith d e s → BalancedWith none none (s ++ new ∷ [])
  balanced-more d e mine others bal x =
      let h = sum_by_push (held_at x) s new in let l = sum_by_push (loads_at x) s new in let z = bal x in
      ⊎_elim
      (λ is. let q = mine x is in
      let gone = more_past (owner_of x) (omega arith) in
      let z' = rw gone at z in
      rw (more_last (owner_of x) is) (omega (arith, own_at-none x, incs_at-none x, decs_at-none x)))
      (λ not. let q = others x not in rw (more_other (owner_of x) not) (omega arith))
      (cases_eq (owner_of x) (length s))

  pub prefix-more : (trace : Trace) → ((x : Thing) → owner_of x ≡ length s → IsCoveredAt trace x new) → NeverOverdraws trace s → NeverOverdraws trace (s ++ new ∷ [])
  prefix-more trace mine p x = ⊎_elim
      (λ is. subst (IsCoveredAt trace x) (sym (more_last (owner_of x) is)) (mine x is))
      (λ not. subst (IsCoveredAt trace x) (sym (more_other (owner_of x) not)) (p x))
      (cases_eq (owner_of x) (length s))

-- a cell that counts w on itself and nothing else
abbrev pub IsFresh : ℕ → Holdings → Type 0
IsFresh w c = (c.count ≡ w) × ((k : ℕ) → m.get c.rows k ≡ None) × ((x : Thing) → m.get c.foreign x ≡ None)

pub fresh_held : (w : ℕ) (c : Holdings) → IsFresh w c → (x : Thing) → held_in c x ≡ 0
unfolding held_in
fresh_held w c f x = rw (f.2 x) refl

-- what the maker of the actor n holds on it
abbrev pub given : ℕ → ℕ → Thing → ℕ
given w n x = cond (is_thing x (Actor n)) w 0

pub given_other : (w n : ℕ) (x : Thing) → x ≢ Actor n → given w n x ≡ 0
given_other w n x h = rw (is_ne_false x (Actor n) h) refl

fresh_own : (w n : ℕ) (c : Holdings) → IsFresh w c → (x : Thing) → owner_of x ≡ n → own_in c x ≡ given w n x
unfolding own_in
fresh_own w n c f (Actor a) o = f.0 ∙ sym (rw (is_eq_true (Actor a) (Actor n) (ap Actor o)) refl)
fresh_own w n c f (Obj q) o = rw (f.1 q.serial) (sym (given_other w n (Obj q) (λ e. cc)))

pub held_given : (w n : ℕ) (c : Holdings) (x : Thing) → held_in (gain w (Actor n) None c) x ≡ held_in c x + given w n x
held_given w n c x = ⊎_elim
    (λ e. rw (is_eq_true x (Actor n) e) (held_set_same (λ h. h + w) x (Actor n) None c e))
    (λ ne. rw (is_ne_false x (Actor n) ne) (let u = held_set_other (λ h. h + w) x (Actor n) None c ne in omega arith))
    (cases_thing x (Actor n))

module _ (w : ℕ) (s : Actors) (a : ℕ) (c0 c : Cell) (mail : List Letter) (at : seat_at s a ≡ seat c0 mail) (own_same : (x : Thing) → own_in c.holdings x ≡ own_in c0.holdings x) (held_same : (x : Thing) → held_in c.holdings x ≡ held_in c0.holdings x)
    (fresh : Cell) (is_fresh : IsFresh w fresh.holdings) where
  -- the maker holds the new actor
  abbrev maker : Cell
  maker = record c { holdings = gain w (Actor (length s)) None c.holdings }

  pub make_balanced : Balanced s → Balanced (make w a c mail fresh s)
  make_balanced bal =
      let n = length s in
      let long = length-set s a (seat maker mail) in
      balanced-more (set s a (seat maker mail)) (seat fresh []) (given w n) none
      (λ x is.
      let o = fresh_own w n fresh.holdings is_fresh x (is ∙ long) in
      omega (
        arith,
        own_at-seat x fresh [],
        held_at-seat x fresh [],
        incs_at-seat x fresh [],
        decs_at-seat x fresh [],
        loads_at-seat x fresh [],
        sum-nil (inc_of x),
        sum-nil (dec_of x),
        sum-nil (load_count x),
        fresh_held w fresh.holdings is_fresh x,
      ))
      (λ x not.
      let o = given_other w n x (λ e. not (ap owner_of e ∙ sym long)) in
      omega (arith, held_at-seat x fresh [], loads_at-seat x fresh [], sum-nil (load_count x), fresh_held w fresh.holdings is_fresh x))
      (cell_balanced s a c0 maker mail at none none (given w n) none
      (λ x is. let h = held_given w n c.holdings x in let o = own_set_held (λ h. h + w) x (Actor n) None c.holdings in let p = own_same x in let q = held_same x in omega arith)
      (λ x not. let h = held_given w n c.holdings x in let q = held_same x in omega arith)
      bal)

  pub make_prefix : (trace : Trace) → NeverOverdraws trace s → NeverOverdraws trace (make w a c mail fresh s)
  make_prefix trace p =
      let n = length s in
      prefix-more (set s a (seat maker mail)) (seat fresh []) trace
      (λ x is. safe_nil trace x (own_in fresh.holdings x))
      (cell_prefix s a c0 maker mail at trace (λ x is. let o = own_set_held (λ h. h + w) x (Actor n) None c.holdings in let p = own_same x in omega arith) p)
