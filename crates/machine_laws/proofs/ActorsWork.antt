-- How much work is left in all actors, where a seat changes, letters come, and members are reaped.
use Rattle.std.proofs.Common.{◌≡◌, ℕ, zero, suc, ◌+◌, ◌*◌, ◌≤◌, ◌<◌, Bool, false, if◌then◌else◌, Option, Some, None, List, [], ◌∷◌, length, set, ap, append-nil, length-append, arith, ⊎_elim}
use Rattle.std.proofs.Math.Nat.{suc-mul}
use Rattle.std.proofs.lemmas.Bool.{cases_lt}
use Rattle.std.proofs.lemmas.List.{get_or_past}
use Rattle.std.proofs.lemmas.List.Sums.{sum_by-set, sum_by_push}
use Rattle.std.specs.Prelude.{sum_by}
use Rattle.orca_names.specs.Names.{owner_of}
use Rattle.letter_kinds.specs.Counting.{Amount, by_owner}
use Rattle.letter_kinds.specs.Detector.{has}
use Rattle.letter_kinds.specs.Letters.{Letter, Confirm, Dec}
use Rattle.machine_rules.specs.Actors.{Actors, Seat, push_decs, push_letter, seat_at, with_letter_more}
use Rattle.machine_rules.specs.Detect.{ask_all, empty_seats, held_outside, reap_decs, reap_members}
use Rattle.machine_laws.proofs.Moving.{sum_by-set_past}
use Rattle.machine_laws.proofs.TableWork.{by_owner-length, sweep-work}
use Rattle.machine_laws.specs.Work.{actors_work, count_work, letter_work, seat_work, silence_work, table_work}

-- ---- over numbers

pub more_times : (few many each : ℕ) → few ≤ many → few * each ≤ many * each
more_times zero many each le = omega arith
more_times (suc few) zero each le = absurd (omega arith)
more_times (suc few) (suc many) each le = omega (arith, suc-mul few each, suc-mul many each, more_times few many each (omega arith))

both_times : (a b each : ℕ) → (a + b) * each ≡ a * each + b * each
both_times zero b each = omega arith
both_times (suc a) b each = omega (arith, suc-mul (a + b) each, suc-mul a each, both_times a b each)

module _ (n : ℕ) where
  -- ---- one seat

  pub set-work : (s : Actors) (a : ℕ) (o : Option Seat) → a < length s → actors_work n (set s a o) + seat_work n (seat_at s a) ≡ actors_work n s + seat_work n o
  set-work s a o within = sum_by-set (seat_work n) s a o None within

  -- who is taken away leaves the rest
  clear-work : (s : Actors) (a : ℕ) → actors_work n (set s a None) + seat_work n (seat_at s a) ≡ actors_work n s
  clear-work s a = ⊎_elim
      (λ within. omega (arith, set-work s a None within))
      (λ past. omega (arith, sum_by-set_past (seat_work n) s a None past, ap (seat_work n) (get_or_past s a None past)))
      (cases_lt a (length s))

  -- ---- letters

  seat_more : (letter : Letter) (o : Option Seat) → seat_work n (with_letter_more letter o) ≤ seat_work n o + letter_work n letter
  seat_more letter None = omega arith
  seat_more letter (Some o) = omega (arith, sum_by_push (letter_work n) o.mail letter)

  pub push-work : (b : ℕ) (letter : Letter) (s : Actors) → actors_work n (push_letter b letter s) ≤ actors_work n s + letter_work n letter
  unfolding push_letter
  push-work b letter s = ⊎_elim
      (λ within. omega (arith, set-work s b (with_letter_more letter (seat_at s b)) within, seat_more letter (seat_at s b)))
      (λ past. omega (arith, sum_by-set_past (seat_work n) s b (with_letter_more letter (seat_at s b)) past))
      (cases_lt b (length s))

  pub decs-work : (groups : List (ℕ × List Amount)) (s : Actors) → actors_work n (push_decs groups s) ≤ actors_work n s + length groups * count_work n
  unfolding push_decs
  decs-work [] s = omega arith
  decs-work (group ∷ groups) s =
      one_more (actors_work n (push_decs groups (push_letter group.0 (Dec group.1) s))) _ (actors_work n s) (length groups) (count_work n)
      (decs-work groups (push_letter group.0 (Dec group.1) s)) (push-work group.0 (Dec group.1) s)
    where
      one_more : (after between before groups each : ℕ) → after ≤ between + groups * each → between ≤ before + each → after ≤ before + suc groups * each
      one_more after between before groups each rest one = omega (arith, rest, one, suc-mul groups each)

  pub asks-work : (members : List ℕ) (token : ℕ) (s : Actors) → actors_work n (ask_all members token s) ≤ actors_work n s + 2 * length members
  asks-work [] token s = omega arith
  asks-work (a ∷ members) token s = omega (arith, asks-work members token (push_letter a (Confirm token) s), push-work a (Confirm token) s)

  -- ---- a reap

  -- the Decs that an actor sends as it goes count no more than its table
  table_covers : (members : List ℕ) (o : Seat) → length (by_owner (held_outside members (Some o))) * count_work n ≤ table_work n o.cell.holdings
  table_covers members o =
      let table = sweep-work n (λ x. has members (owner_of x)) 0 o.cell.holdings in
      let few = more_times (length (by_owner (held_outside members (Some o)))) (length (held_outside members (Some o))) (count_work n) (by_owner-length (held_outside members (Some o))) in
      omega (arith, table, few)

  member-work : (members : List ℕ) (o : Option Seat) → length (by_owner (held_outside members o)) * count_work n ≤ seat_work n o
  unfolding by_owner
  member-work members None = omega arith
  member-work members (Some o) = omega (arith, table_covers members o)

  -- the Decs of all who go count no more than their seats did
  emptied-work : (members rest : List ℕ) (s : Actors) → actors_work n (empty_seats rest s) + length (reap_decs members rest s) * count_work n ≤ actors_work n s
  unfolding empty_seats reap_decs
  emptied-work members [] s = omega arith
  emptied-work members (a ∷ rest) s =
      let decs = by_owner (held_outside members (seat_at s a)) in
      let more = reap_decs members rest (set s a None) in
      let later = emptied-work members rest (set s a None) in
      omega (arith, later, ap (λ (l : ℕ). l * count_work n) (length-append decs more), both_times (length decs) (length more) (count_work n), member-work members (seat_at s a), clear-work s a)

  pub reaped-work : (members : List ℕ) (s : Actors) → actors_work n (reap_members members s) ≤ actors_work n s
  reaped-work members s = omega (arith, decs-work (reap_decs members members s) (empty_seats members s), emptied-work members members s)

  -- who leaves had no report out
  pub leave-work : (s : Actors) (a : ℕ) (o : Seat) → seat_at s a ≡ Some o → o.cell.reported ≡ false → actors_work n (reap_members (a ∷ []) s) + silence_work n ≤ actors_work n s
  unfolding empty_seats reap_decs
  leave-work s a o at quiet =
      let decs = decs-work (reap_decs (a ∷ []) (a ∷ []) s) (set s a None) in
      let same = ap (λ (groups : List (ℕ × List Amount)). length groups * count_work n) (append-nil (by_owner (held_outside (a ∷ []) (seat_at s a)))) in
      let mine : seat_work n (Some o) ≡ table_work n o.cell.holdings + sum_by (letter_work n) o.mail + (if o.cell.dirty then 1 else 0) + silence_work n =
      ap (λ (q : Bool). table_work n o.cell.holdings + sum_by (letter_work n) o.mail + (if o.cell.dirty then 1 else 0) + (if q then 0 else silence_work n)) quiet in
      let few : length (by_owner (held_outside (a ∷ []) (seat_at s a))) * count_work n ≤ table_work n o.cell.holdings = rw at (table_covers (a ∷ []) o) in
      omega (arith, decs, same, few, mine, clear-work s a, ap (seat_work n) at)
