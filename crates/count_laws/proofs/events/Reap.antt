-- A reap of sealed members keeps all that is kept of the counts.
use Rattle.std.proofs.Common.{◌≡◌, ◌≢◌, ◌⊎◌, ℕ, zero, suc, ◌<◌, true, false, Option, Some, None, List, [], ◌∷◌, ◌++◌, length, set, refl, sym, ◌∙◌, ap, arith, subst, inl, inr, ⊎_elim, length-set, get_or-set_same, get_or-set_other}
use Rattle.std.specs.List.{AllByRecursion}
use Rattle.std.proofs.lemmas.Bool.{cases_eq, cases_lt}
use Rattle.std.proofs.lemmas.List.{get_or_past}
use Rattle.machine_rules.proofs.Present.{present_below}
use Rattle.count_laws.proofs.balance.SeatReads.{held_at-seat, loads_at-seat, held_at-none, loads_at-none}
use Rattle.count_laws.proofs.knowledge.Global.{mail_push}
use Rattle.count_laws.proofs.events.Every.{every_decs, agrees_decs, length-decs}
use Rattle.count_laws.proofs.balance.Sweeping.{firm_counted}
use Rattle.count_laws.proofs.knowledge.Freed.{load_into}
use Rattle.count_laws.proofs.balance.Sweeps.{owed}
use Rattle.count_laws.proofs.balance.Reaps.{Ready, AllReady, Under, AllIn, reap_keeps}
use Rattle.letter_kinds.specs.Detector.{has}
use Rattle.letter_kinds.specs.Holdings.{Row, held_in}
use Rattle.letter_kinds.specs.Sums.{load_count}
use Rattle.letter_kinds.specs.Letters.{Letter, Dec}
use Rattle.count_laws.proofs.balance.InHand.{in_hand, out_of_hand, none}
use Rattle.orca_names.specs.declared.trace.Trace.{Trace}
use Rattle.orca_names.specs.declared.trace.Trace.TheVariants.{Deep}
use Rattle.machine_rules.specs.Actors.{Seat, Actors, seat_at, seat, Every}
use Rattle.count_laws.specs.Agreement.{Person, person_at, person_of, IsRootPerson, Agrees, app_letters}
use Rattle.machine_rules.specs.Balance.{held_at, loads_at}
use Rattle.machine_rules.specs.Cell.{Cell}
use Rattle.machine_rules.specs.Detect.{empty_seats, reap_decs, reap_members}
use Rattle.count_laws.specs.Facts.{IsFirmAt, KeepsCounts, IsSound}
use Rattle.count_laws.specs.Known.{ReachesThrough, IsKnown, in_table, IsSoundAt}
use Rattle.orca_names.specs.Names.{owner_of}
use Rattle.orca_names.specs.declared.names.Thing.{Thing}
use Rattle.orca_names.specs.declared.names.Thing.TheVariants.{Actor, Obj}
use Rattle.reach_walk.specs.Reach.{root, owned}
use Rattle.std.specs.Prelude.{sum_by, ⊤}

-- who reaches a thing reaches its owner
owner_reached : (all : Thing → Option Row) {roots : Thing → Type 0} (x : Thing) → ReachesThrough all roots x → ReachesThrough all roots (Actor (owner_of x))
owner_reached all (Actor a) h = h
owner_reached all (Obj n) h = owned h

-- a seat is cleared
pub every_none : (Q : ℕ → Cell → List Letter → Type 0) (s : Actors) (m : ℕ) → Every Q s → Every Q (set s m None)
every_none Q s m every a c ls at = ⊎_elim
    (λ same. ⊎_elim
    (λ within. absurd (apart c ls (sym (get_or-set_same s m None None within) ∙ subst (λ (i : ℕ). seat_at (set s m None) i ≡ seat c ls) same at)))
    (λ past. absurd (apart c ls (sym (get_or_past (set s m None) m None (let z = length-set s m None in omega arith)) ∙ subst (λ (i : ℕ). seat_at (set s m None) i ≡ seat c ls) same at)))
    (cases_lt m (length s)))
    (λ other. every a c ls (sym (get_or-set_other s m a None None other) ∙ at))
    (cases_eq a m)
  where
    apart : (c : Cell) (ls : List Letter) → None ≢ seat c ls
    apart c ls e = cc

pub every_emptied : (Q : ℕ → Cell → List Letter → Type 0) (ms : List ℕ) (s : Actors) → Every Q s → Every Q (empty_seats ms s)
unfolding empty_seats
every_emptied Q [] s every = every
every_emptied Q (m ∷ ms) s every = every_emptied Q ms (set s m None) (every_none Q s m every)

pub every_reap : (Q : ℕ → Cell → List Letter → Type 0) → ((es : List (Thing × ℕ)) (a : ℕ) (c : Cell) (ls : List Letter) → Q a c ls → Q a c (ls ++ Dec es ∷ []))
    → (ms : List ℕ) (s : Actors) → Every Q s → Every Q (reap_members ms s)
every_reap Q stable ms s every = every_decs Q stable (reap_decs ms ms s) (empty_seats ms s) (every_emptied Q ms s every)

agrees_none : (ps : List Person) (s : Actors) (m : ℕ) → ¬ IsRootPerson (person_at ps m) → Agrees ps s → Agrees ps (set s m None)
agrees_none ps s m idle ag = record {
  present = every_none (λ a c ls. person_at ps a ≡ person_of c ls) s m ag.present;
  absent = λ a at r. ⊎_elim
      (λ same. idle (subst (λ (i : ℕ). IsRootPerson (person_at ps i)) same r))
      (λ other. ag.absent a (sym (get_or-set_other s m a None None other) ∙ at) r)
      (cases_eq a m);
}

abbrev Idle : List Person → List ℕ → Type 0
Idle ps [] = ⊤
Idle ps (m ∷ ms) = (¬ IsRootPerson (person_at ps m)) × Idle ps ms

agrees_emptied : (ps : List Person) (ms : List ℕ) (s : Actors) → Idle ps ms → Agrees ps s → Agrees ps (empty_seats ms s)
unfolding empty_seats
agrees_emptied ps [] s idle ag = ag
agrees_emptied ps (m ∷ ms) s idle ag = agrees_emptied ps ms (set s m None) idle.1 (agrees_none ps s m idle.0 ag)

agrees_reap : (ps : List Person) (ms : List ℕ) (s : Actors) → Idle ps ms → Agrees ps s → Agrees ps (reap_members ms s)
agrees_reap ps ms s idle ag = agrees_decs ps (reap_decs ms ms s) (empty_seats ms s) (agrees_emptied ps ms s idle ag)

pub length-emptied : (ms : List ℕ) (s : Actors) → length (empty_seats ms s) ≡ length s
unfolding empty_seats
length-emptied [] s = refl
length-emptied (m ∷ ms) s = length-emptied ms (set s m None) ∙ length-set s m None

pub length-reap : (ms : List ℕ) (s : Actors) → length (reap_members ms s) ≡ length s
length-reap ms s = length-decs (reap_decs ms ms s) (empty_seats ms s) ∙ length-emptied ms s

-- a member of the set: present, without a root, no letter that loads
pub record Sealed (s : Actors) (m : ℕ) : Type 0 where
  pub cell : Cell
  pub mail : List Letter
  pub at : seat_at s m ≡ seat cell mail
  pub idle : cell.frame ≡ None
  pub free : cell.fields.pinned ≡ false
  pub bare : app_letters mail ≡ []
  pub quiet : (x : Thing) → sum_by (load_count x) mail ≡ 0

abbrev pub AllSealed : Actors → List ℕ → Type 0
AllSealed s ms = AllByRecursion (Sealed s) ms

module _ (trace : Trace) (all : Thing → Option Row) (ps : List Person) (s : Actors) (inv : KeepsCounts trace all ps s) (ms : List ℕ)
    (ins : AllIn ms ms) (is_sealed : AllSealed s ms)
    (held_none : (x : Thing) (i : ℕ) (c : Cell) (ls : List Letter) → has ms (owner_of x) ≡ true → has ms i ≡ false → seat_at s i ≡ seat c ls → held_in c.holdings x ≡ 0)
    (loads_none : (x : Thing) (i : ℕ) (c : Cell) (ls : List Letter) → has ms (owner_of x) ≡ true → has ms i ≡ false → seat_at s i ≡ seat c ls → sum_by (load_count x) ls ≡ 0) where
  clean : (x : Thing) (i : ℕ) → has ms (owner_of x) ≡ true → has ms i ≡ false → (held_at x (seat_at s i) ≡ 0) × (loads_at x (seat_at s i) ≡ 0)
  clean x i inside out = by_seat (seat_at s i) refl
    where
      by_seat : (o : Option Seat) → seat_at s i ≡ o → (held_at x o ≡ 0) × (loads_at x o ≡ 0)
      by_seat None e = (held_at-none x, loads_at-none x)
      by_seat (Some o) e = (held_at-seat x o.cell o.mail ∙ held_none x i o.cell o.mail inside out e, loads_at-seat x o.cell o.mail ∙ loads_none x i o.cell o.mail inside out e)

  ready_one : (m : ℕ) → Sealed s m → Ready ms s m
  ready_one m q = record {
    within = present_below s m _ q.at;
    quiet = λ x. rw q.at (loads_at-seat x q.cell q.mail ∙ q.quiet x);
    firm = rw q.at (firm_counted (λ x. has ms (owner_of x)) q.cell.holdings (inv.firm m q.cell q.mail q.at));
  }

  ready_all : (ks : List ℕ) → AllSealed s ks → AllReady ms ks s
  ready_all [] h = tt
  ready_all (m ∷ ks) h = (ready_one m h.0, ready_all ks h.1)

  idle_one : (m : ℕ) → Sealed s m → ¬ IsRootPerson (person_at ps m)
  idle_one m q r = by_person (subst IsRootPerson (inv.agrees.present m q.cell q.mail q.at) r)
    where
      by_person : ¬ IsRootPerson (person_of q.cell q.mail)
      by_person (inl e) = let z = q.free in cc
      by_person (inr (inl f)) = f q.idle
      by_person (inr (inr f)) = f q.bare

  idle_all : (ks : List ℕ) → AllSealed s ks → Idle ps ks
  idle_all [] h = tt
  idle_all (m ∷ ks) h = (idle_one m h.0, idle_all ks h.1)

  owed_none : (x : Thing) → owed [] x ≡ 0
  unfolding owed
  owed_none x = refl

  under : Under trace ms ms [] s none none
  under = record {
    bal = in_hand s inv.balanced;
    prefix = inv.prefixes;
    firm = tt;
    outside = λ x out. (refl, sym (owed_none x));
    inside = λ x ins. owed_none x;
    clean = clean;
    gone = λ i h. inr h;
  }

  -- a reap
  pub reap_put : Every (IsSound trace all) (reap_members ms s) → KeepsCounts trace all ps (reap_members ms s)
  reap_put sound =
      let both = reap_keeps trace ms ms [] s none none ins (ready_all ms is_sealed) under in
      record {
        balanced = out_of_hand _ both.0;
        prefixes = both.1;
        sound = sound;
        agrees = agrees_reap ps ms s (idle_all ms is_sealed) inv.agrees;
        bare = inv.bare;
        long = inv.long ∙ sym (length-reap ms s);
        firm = every_reap IsFirmAt (λ es b d ks q. q) ms s inv.firm;
      }

module _ (all : Thing → Option Row) (ps : List Person) (s : Actors) (inv : KeepsCounts Deep all ps s) (ms : List ℕ)
    (ins : AllIn ms ms) (is_sealed : AllSealed s ms)
    (alone : (m i : ℕ) (c : Cell) (ls : List Letter) → has ms m ≡ true → has ms i ≡ false → seat_at s i ≡ seat c ls → (held_in c.holdings (Actor m) ≡ 0) × (sum_by (load_count (Actor m)) ls ≡ 0)) where
  zero_or : (n : ℕ) → (n ≡ 0) ⊎ (0 < n)
  zero_or zero = inl refl
  zero_or (suc n) = inr (omega arith)

  -- who holds a thing of a member holds the member
  held_none : (x : Thing) (i : ℕ) (c : Cell) (ls : List Letter) → has ms (owner_of x) ≡ true → has ms i ≡ false → seat_at s i ≡ seat c ls → held_in c.holdings x ≡ 0
  held_none x i c ls inside out at = ⊎_elim (λ z. z)
      (λ some. absurd (by_known ((inv.sound i c ls at).closed (Actor (owner_of x)) (owner_reached all x (root (in_table some))))))
      (zero_or (held_in c.holdings x))
    where
      by_known : ¬ IsKnown i c.holdings (Actor (owner_of x))
      by_known (inl own) = let z = ap (has ms) own.0 in cc
      by_known (inr other) = let z = (alone (owner_of x) i c ls inside out at).0 in let w = other.1 in absurd (omega arith)

  loads_none : (x : Thing) (i : ℕ) (c : Cell) (ls : List Letter) → has ms (owner_of x) ≡ true → has ms i ≡ false → seat_at s i ≡ seat c ls → sum_by (load_count x) ls ≡ 0
  loads_none x i c ls inside out at = ⊎_elim (λ z. z)
      (λ some. absurd (let z = (alone (owner_of x) i c ls inside out at).1 in
      let w = load_into all x (Actor (owner_of x)) ls (inv.sound i c ls at).loads (λ args load is h. is.whole (Actor (owner_of x)) (owner_reached all x (is.reached x h))) some in omega arith))
      (zero_or (sum_by (load_count x) ls))

  pub reap_keeps_counts : KeepsCounts Deep all ps (reap_members ms s)
  reap_keeps_counts = reap_put Deep all ps s inv ms ins is_sealed held_none loads_none
      (every_reap (IsSoundAt all) (λ es b d ks q. record { closed = q.closed; rows = q.rows; loads = mail_push all ks (Dec es) tt q.loads }) ms s inv.sound)
