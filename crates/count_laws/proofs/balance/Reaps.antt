-- A reap keeps the balance and the prefixes: what the members held outside goes back in Decs.
use Rattle.std.proofs.Common.{◌≡◌, ◌≢◌, ◌⊎◌, ℕ, ◌+◌, ◌<◌, ◌==◌, cond, true, false, Option, Some, None, List, [], ◌∷◌, ◌++◌, length, set, refl, sym, ◌∙◌, ap, arith, subst, append_assoc, append-nil, inl, inr, ⊎_elim, ne_eqb, length-set}
use Rattle.std.specs.Prelude.{⊤}
use Rattle.std.specs.List.{AllByRecursion}
use Rattle.std.proofs.lemmas.Bool.{cases_Bool, cases_eq}
use Rattle.letter_kinds.proofs.Sums.{sum-zero}
use Rattle.letter_kinds.proofs.Counts.{cond_eq, cond_ne, amount-nil}
use Rattle.count_laws.proofs.balance.Seats.{balanced-set, at_same, at_other}
use Rattle.count_laws.proofs.balance.Safety.{prefix-set}
use Rattle.count_laws.proofs.balance.SeatReads.{own_at-none, incs_at-none, decs_at-none, held_at-none, loads_at-none, held_at-seat}
use Rattle.count_laws.proofs.balance.Sweeps.{owed, owed-groups, Firm, firm_groups, decs_keep}
use Rattle.count_laws.proofs.balance.Sweeping.{amount-given_back}
use Rattle.letter_kinds.specs.Counting.{given_back, by_owner}
use Rattle.letter_kinds.specs.Detector.{has}
use Rattle.count_laws.proofs.balance.InHand.{BalancedWith, none, AllCounted, Balanced}
use Rattle.orca_names.specs.declared.trace.Trace.{Trace}
use Rattle.machine_rules.specs.Actors.{Seat, Actors, push_decs, seat_at}
use Rattle.machine_rules.specs.Balance.{own_at, incs_at, decs_at, held_at, loads_at}
use Rattle.count_laws.specs.Prefixes.{NeverOverdraws}
use Rattle.machine_rules.specs.Detect.{empty_seats, held_outside, reap_decs}
use Rattle.orca_names.specs.Names.{owner_of}
use Rattle.orca_names.specs.declared.names.Thing.{Thing}

owed-append : (gs hs : List (ℕ × List (Thing × ℕ))) (x : Thing) → owed (gs ++ hs) x ≡ owed gs x + owed hs x
unfolding owed
owed-append [] hs x = omega arith
owed-append (g ∷ gs) hs x = let r = owed-append gs hs x in omega arith

firm_append : (gs hs : List (ℕ × List (Thing × ℕ))) → Firm gs → Firm hs → Firm (gs ++ hs)
firm_append [] hs f h = h
firm_append (g ∷ gs) hs f h = (f.0, firm_append gs hs f.1 h)

-- what a thing of a member, or another, loses as the member goes
abbrev lost : ℕ → Option Seat → Thing → ℕ
lost m o x = cond (owner_of x == m) (own_at x o + incs_at x o) 0

abbrev kept : ℕ → Option Seat → Thing → ℕ
kept m o x = held_at x o + loads_at x o + cond (owner_of x == m) (decs_at x o) 0

remove_one : (s : Actors) (m : ℕ) (d e : Thing → ℕ) → m < length s → BalancedWith d e s
    → BalancedWith (λ x. lost m (seat_at s m) x + d x) (λ x. kept m (seat_at s m) x + e x) (set s m None)
remove_one s m d e within = balanced-set s m (seat_at s m) None within refl d e _ _
    (λ x is.
    let a = cond_eq (owner_of x) m (own_at x (seat_at s m) + incs_at x (seat_at s m)) 0 is in
    let b = cond_eq (owner_of x) m (decs_at x (seat_at s m)) 0 is in
    omega (arith, own_at-none x, incs_at-none x, decs_at-none x, held_at-none x, loads_at-none x))
    (λ x not.
    let a = cond_ne (owner_of x) m (own_at x (seat_at s m) + incs_at x (seat_at s m)) 0 not in
    let b = cond_ne (owner_of x) m (decs_at x (seat_at s m)) 0 not in
    omega (arith, held_at-none x, loads_at-none x))

remove_prefix : (trace : Trace) (s : Actors) (m : ℕ) → m < length s → NeverOverdraws trace s → NeverOverdraws trace (set s m None)
remove_prefix trace s m within = prefix-set trace s m (seat_at s m) None within refl (λ x is h. tt)

-- the facts about what is still to go: each is of the set, has no letter, and its entries are counted
pub record Ready (all : List ℕ) (s : Actors) (m : ℕ) : Type 0 where
  pub within : m < length s
  pub quiet : (x : Thing) → loads_at x (seat_at s m) ≡ 0
  pub firm : AllCounted (held_outside all (seat_at s m))

owed_back : (all : List ℕ) (o : Option Seat) (x : Thing) → has all (owner_of x) ≡ false → owed (by_owner (held_outside all o)) x ≡ held_at x o
owed_back all None x out = owed-groups [] x ∙ amount-nil x ∙ sym (held_at-none x)
owed_back all (Some o) x out = owed-groups (given_back (λ x. has all (owner_of x)) o.cell.holdings) x ∙ amount-given_back (λ x. has all (owner_of x)) o.cell.holdings x ∙ rw out (sym (held_at-seat x o.cell o.mail))

owed_in : (all : List ℕ) (o : Option Seat) (x : Thing) → has all (owner_of x) ≡ true → owed (by_owner (held_outside all o)) x ≡ 0
owed_in all None x out = owed-groups [] x ∙ amount-nil x
owed_in all (Some o) x out = owed-groups (given_back (λ x. has all (owner_of x)) o.cell.holdings) x ∙ amount-given_back (λ x. has all (owner_of x)) o.cell.holdings x ∙ rw out refl

-- one member after another
abbrev pub AllReady : List ℕ → List ℕ → Actors → Type 0
AllReady all [] s = ⊤
AllReady all (m ∷ ms) s = Ready all s m × AllReady all ms s

ready_later : (all : List ℕ) (s : Actors) (k m : ℕ) → k < length s → Ready all s m → Ready all (set s k None) m
ready_later all s k m within r = ⊎_elim
    (λ same. let n = at_same s k (seat_at s k) None within refl m same in record {
      within = rw (length-set s k None) r.within;
      quiet = λ x. rw n (loads_at-none x);
      firm = rw n tt;
    })
    (λ other. let n = at_other s k (seat_at s k) None within refl m other in record {
      within = rw (length-set s k None) r.within;
      quiet = λ x. rw n (r.quiet x);
      firm = rw n r.firm;
    })
    (cases_eq m k)

all_ready_later : (all : List ℕ) (s : Actors) (k : ℕ) (ms : List ℕ) → k < length s → AllReady all ms s → AllReady all ms (set s k None)
all_ready_later all s k [] within h = tt
all_ready_later all s k (m ∷ ms) within h = (ready_later all s k m within h.0, all_ready_later all s k ms within h.1)

pub record Under (trace : Trace) (all ms : List ℕ) (gs : List (ℕ × List (Thing × ℕ))) (s : Actors) (d e : Thing → ℕ) : Type 0 where
  pub bal : BalancedWith d e s
  pub prefix : NeverOverdraws trace s
  pub firm : Firm gs
  pub outside : (x : Thing) → has all (owner_of x) ≡ false → (d x ≡ 0) × (e x ≡ owed gs x)
  pub inside : (x : Thing) → has all (owner_of x) ≡ true → owed gs x ≡ 0
  pub clean : (x : Thing) (i : ℕ) → has all (owner_of x) ≡ true → has all i ≡ false → (held_at x (seat_at s i) ≡ 0) × (loads_at x (seat_at s i) ≡ 0)
  pub gone : (i : ℕ) → has all i ≡ true → (seat_at s i ≡ None) ⊎ (has ms i ≡ true)

done : (trace : Trace) (all : List ℕ) (gs : List (ℕ × List (Thing × ℕ))) (s : Actors) (d e : Thing → ℕ) → Under trace all [] gs s d e → BalancedWith none (owed gs) s
done trace all gs s d e u x = ⊎_elim
    (λ ins.
    let n = none_at (owner_of x) ins in
    let h = sum-zero (held_at x) s None (λ i. (zero_at x ins i).0) in
    let l = sum-zero (loads_at x) s None (λ i. (zero_at x ins i).1) in
    let o = u.inside x ins in
    rw n (omega (arith, own_at-none x, incs_at-none x, decs_at-none x)))
    (λ out. let o = u.outside x out in let b = u.bal x in omega (arith, o.0, o.1))
    (cases_Bool (has all (owner_of x)))
  where
    none_at : (i : ℕ) → has all i ≡ true → seat_at s i ≡ None
    none_at i h = ⊎_elim (λ e. e) (λ no. cc) (u.gone i h)

    zero_at : (x : Thing) → has all (owner_of x) ≡ true → (i : ℕ) → (held_at x (seat_at s i) ≡ 0) × (loads_at x (seat_at s i) ≡ 0)
    zero_at x ins i = ⊎_elim
        (λ h. let n = none_at i h in rw n (held_at-none x, loads_at-none x))
        (λ out. u.clean x i ins out)
        (cases_Bool (has all i))

one_more : (trace : Trace) (all ms : List ℕ) (m : ℕ) (gs : List (ℕ × List (Thing × ℕ))) (s : Actors) (d e : Thing → ℕ) → has all m ≡ true → Ready all s m → Under trace all (m ∷ ms) gs s d e
    → Under trace all ms (gs ++ by_owner (held_outside all (seat_at s m))) (set s m None) (λ x. lost m (seat_at s m) x + d x) (λ x. kept m (seat_at s m) x + e x)
one_more trace all ms m gs s d e member r u = record {
  bal = remove_one s m d e r.within u.bal;
  prefix = remove_prefix trace s m r.within u.prefix;
  firm = firm_append gs _ u.firm (firm_groups _ r.firm);
  outside = λ x out.
      let o = u.outside x out in
      let not : owner_of x ≢ m = λ same. (let z = ap (has all) same in cc) in
      let a = cond_ne (owner_of x) m (own_at x (seat_at s m) + incs_at x (seat_at s m)) 0 not in
      let b = cond_ne (owner_of x) m (decs_at x (seat_at s m)) 0 not in
      let w = owed-append gs (by_owner (held_outside all (seat_at s m))) x in
      let v = owed_back all (seat_at s m) x out in
      let q = r.quiet x in
      (omega (arith, o.0), omega (arith, o.1));
  inside = λ x ins.
      let w = owed-append gs (by_owner (held_outside all (seat_at s m))) x in
      let v = owed_in all (seat_at s m) x ins in
      let i = u.inside x ins in omega arith;
  clean = λ x i ins out.
      let not : i ≢ m = λ same. (let z = ap (has all) same in cc) in
      rw (at_other s m (seat_at s m) None r.within refl i not) (u.clean x i ins out);
  gone = λ i ins. gone_more i (cases_eq i m) (u.gone i ins);
}
  where
    gone_more : (i : ℕ) → (i ≡ m) ⊎ (i ≢ m) → (seat_at s i ≡ None) ⊎ (has (m ∷ ms) i ≡ true) → (seat_at (set s m None) i ≡ None) ⊎ (has ms i ≡ true)
    gone_more i (inl same) q = inl (at_same s m (seat_at s m) None r.within refl i same)
    gone_more i (inr other) (inl n) = inl (at_other s m (seat_at s m) None r.within refl i other ∙ n)
    gone_more i (inr other) (inr q) = inr (rw (ne_eqb m i (λ e. other (sym e))) at q)

abbrev pub AllIn : List ℕ → List ℕ → Type 0
AllIn all ms = AllByRecursion (λ m. has all m ≡ true) ms

-- once these Decs are out
abbrev StaysBalanced : Trace → List (ℕ × List (Thing × ℕ)) → Actors → Type 0
StaysBalanced trace decs s = Balanced (push_decs decs s) × NeverOverdraws trace (push_decs decs s)

pub reap_keeps : (trace : Trace) (all ms : List ℕ) (gs : List (ℕ × List (Thing × ℕ))) (s : Actors) (d e : Thing → ℕ) → AllIn all ms → AllReady all ms s → Under trace all ms gs s d e
    → StaysBalanced trace (gs ++ reap_decs all ms s) (empty_seats ms s)
unfolding empty_seats reap_decs
reap_keeps trace all [] gs s d e ins ready u = subst (λ decs. StaysBalanced trace decs s) (sym (append-nil gs)) (decs_keep trace gs s u.firm (done trace all gs s d e u) u.prefix)
reap_keeps trace all (m ∷ ms) gs s d e ins ready u =
    let cleared = set s m None in
    let more = by_owner (held_outside all (seat_at s m)) in
    subst (λ decs. StaysBalanced trace decs (empty_seats ms cleared)) (append_assoc gs more (reap_decs all ms cleared))
    (reap_keeps trace all ms (gs ++ more) cleared _ _ ins.1
    (all_ready_later all s m ms ready.0.within ready.1)
    (one_more trace all ms m gs s d e ins.0 ready.0 u))
