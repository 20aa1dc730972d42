-- A reap, as the detector's laws see it.
use Rattle.std.proofs.Common.{◌≡◌, ℕ, ◌<◌, ◌≤◌, Bool, true, false, cond, Option, Some, None, List, [], ◌∷◌, ◌++◌, length, set, refl, ap, sym, subst, ◌∙◌, arith, ⊎_elim, get_or-set_same, get_or-set_other, length-set, ne_eqb, Contains}
use Rattle.std.proofs.lemmas.Bool.{cases_eq, cases_lt, false≢true}
use Rattle.std.proofs.lemmas.List.{get_or_past}
use Rattle.std.proofs.lemmas.List.Sums.{sum_by-set}
use Rattle.orca_names.specs.Names.{owner_of}
use Rattle.orca_names.specs.declared.names.Thing.{Thing}
use Rattle.orca_names.specs.declared.names.Thing.TheVariants.{Actor}
use Rattle.letter_kinds.specs.Counting.{given_back, by_owner}
use Rattle.letter_kinds.specs.Detector.{all_acked, has, Detector, Token, close_token}
use Rattle.letter_kinds.specs.Holdings.{Row, held_in}
use Rattle.letter_kinds.specs.Letters.{Letter, Dec}
use Rattle.letter_kinds.specs.declared.note.Note.{Note}
use Rattle.count_laws.proofs.away.Untouched.{emptied_other}
use Rattle.count_laws.proofs.events.EitherMode.{held_owner}
use Rattle.count_laws.proofs.events.Reap.{every_none, length-reap}
use Rattle.count_laws.proofs.balance.Reaps.{AllIn}
use Rattle.count_laws.proofs.balance.SeatReads.{loads_at-none}
use Rattle.count_laws.proofs.balance.Sweeping.{amount-given_back, firm_counted}
use Rattle.count_laws.proofs.balance.Sweeps.{owed, owed-groups, firm_groups}
use Rattle.orca_names.specs.declared.trace.Trace.{Trace}
use Rattle.machine_rules.specs.Actors.{Actors, cell_at, Seat, cell_of, letters_of, mail_at, push_decs, push_letter, seat_at, with_letter_more, Every}
use Rattle.count_laws.specs.Agreement.{Person}
use Rattle.machine_rules.specs.Balance.{loads_at, load_sum}
use Rattle.machine_rules.specs.Cell.{Cell}
use Rattle.machine_rules.specs.Detect.{empty_seats, held_outside, reap_decs, reap_members}
use Rattle.count_laws.specs.Facts.{KeepsCounts}
use Rattle.detector_laws.proofs.Members.{each_has}
use Rattle.detector_laws.specs.Cells.{held_on}
use Rattle.detector_laws.specs.Confirms.{NoConfirms}
use Rattle.detector_laws.specs.Events.{Departs, Reaps}
use Rattle.machine_laws.proofs.Collecting.{owner_held, NotTo, not_to, decs_quiet, decs_adds, decs_loads}
use Rattle.machine_laws.proofs.Moving.{sum_by-set_past}
use Rattle.machine_rules.proofs.Posting.{push_other, push_here}
use Rattle.machine_laws.proofs.Seen.{world_of}

-- ---- the members are gone

set_clears : (s : Actors) (m : ℕ) → seat_at (set s m None) m ≡ None
set_clears s m = ⊎_elim
    (λ within. get_or-set_same s m None None within)
    (λ past. get_or_past (set s m None) m None (let z = length-set s m None in omega arith))
    (cases_lt m (length s))

still_none : (s : Actors) (m i : ℕ) → seat_at s i ≡ None → seat_at (set s m None) i ≡ None
still_none s m i e = ⊎_elim (λ same. rw same (set_clears s m)) (λ other. get_or-set_other s m i None None other ∙ e) (cases_eq i m)

push_none : (s : Actors) (b i : ℕ) (l : Letter) → seat_at s i ≡ None → seat_at (push_letter b l s) i ≡ None
push_none s b i l e = ⊎_elim
    (λ same. ap (seat_at (push_letter b l s)) same ∙ push_here s b l ∙ ap (with_letter_more l) (ap (seat_at s) (sym same) ∙ e))
    (λ other. push_other s b l i other ∙ e)
    (cases_eq i b)

decs_none : (gs : List (ℕ × List (Thing × ℕ))) (s : Actors) (i : ℕ) → seat_at s i ≡ None → seat_at (push_decs gs s) i ≡ None
unfolding push_decs
decs_none [] s i e = e
decs_none (g ∷ gs) s i e = decs_none gs (push_letter g.0 (Dec g.1) s) i (push_none s g.0 i (Dec g.1) e)

emptied_none : (ms : List ℕ) (s : Actors) (i : ℕ) → seat_at s i ≡ None → seat_at (empty_seats ms s) i ≡ None
unfolding empty_seats
emptied_none [] s i e = e
emptied_none (m ∷ ms) s i e = emptied_none ms (set s m None) i (still_none s m i e)

emptied_gone : (ms : List ℕ) (s : Actors) (i : ℕ) → has ms i ≡ true → seat_at (empty_seats ms s) i ≡ None
unfolding empty_seats
emptied_gone [] s i h = absurd (false≢true h)
emptied_gone (m ∷ ms) s i h = ⊎_elim
    (λ same. emptied_none ms (set s m None) i (ap (seat_at (set s m None)) same ∙ set_clears s m))
    (λ other. emptied_gone ms (set s m None) i (rw (ne_eqb m i (λ e. other (sym e))) at h))
    (cases_eq i m)

-- ---- the others stay, and get Decs

abbrev AddsAt : Actors → Actors → ℕ → Type 0
AddsAt s s' b = (cell_at s' b ≡ cell_at s b) × ((come : List Letter) × (mail_at s' b ≡ mail_at s b ++ come) × NoConfirms come)

reap_adds : (ms : List ℕ) (s : Actors) (b : ℕ) → has ms b ≡ false → AddsAt s (reap_members ms s) b
reap_adds ms s b out =
    let z = decs_adds (reap_decs ms ms s) (empty_seats ms s) in
    let come = z.mail b in
    let there = emptied_other ms s b out in
    (z.cell b ∙ ap cell_of there, (come.0, come.1 ∙ ap (λ (o : Option Seat). letters_of o ++ come.0) there, come.2))

not_to_append : (b : ℕ) (gs hs : List (ℕ × List (Thing × ℕ))) → NotTo b gs → NotTo b hs → NotTo b (gs ++ hs)
not_to_append b [] hs h k = k
not_to_append b (g ∷ gs) hs h k = (h.0, not_to_append b gs hs h.1 k)

-- no Dec of a member goes to b
abbrev Spares : List ℕ → ℕ → ℕ → Cell → List Letter → Type 0
Spares all b m c ls = has all m ≡ true → NotTo b (by_owner (given_back (λ x. has all (owner_of x)) c.holdings))

spared : (all : List ℕ) (b m : ℕ) (s : Actors) (o : Option Seat) → seat_at s m ≡ o → has all m ≡ true → Every (Spares all b) s → NotTo b (by_owner (held_outside all o))
unfolding by_owner
spared all b m s None e ins every = tt
spared all b m s (Some o) e ins every = every m o.cell o.mail e ins

reap_decs_spare : (all ms : List ℕ) (s : Actors) (b : ℕ) → AllIn all ms → Every (Spares all b) s → NotTo b (reap_decs all ms s)
unfolding reap_decs
reap_decs_spare all [] s b ins every = tt
reap_decs_spare all (m ∷ ms) s b ins every = not_to_append b (by_owner (held_outside all (seat_at s m))) (reap_decs all ms (set s m None))
    (spared all b m s (seat_at s m) refl ins.0 every) (reap_decs_spare all ms (set s m None) b ins.1 (every_none (Spares all b) s m every))

reap_quiet : (ms : List ℕ) (s : Actors) (b : ℕ) → AllIn ms ms → has ms b ≡ false → Every (Spares ms b) s → seat_at (reap_members ms s) b ≡ seat_at s b
reap_quiet ms s b ins out every = decs_quiet b (reap_decs ms ms s) (empty_seats ms s) (reap_decs_spare ms ms s b ins every) ∙ emptied_other ms s b out

-- ---- loads

clear_loads : (x : Thing) (s : Actors) (m : ℕ) → load_sum x (set s m None) ≤ load_sum x s
clear_loads x s m = ⊎_elim
    (λ lt. omega (arith, sum_by-set (loads_at x) s m None None lt, loads_at-none x))
    (λ ge. omega (arith, sum_by-set_past (loads_at x) s m None ge))
    (cases_lt m (length s))

emptied_loads : (x : Thing) (ms : List ℕ) (s : Actors) → load_sum x (empty_seats ms s) ≤ load_sum x s
unfolding empty_seats
emptied_loads x [] s = omega arith
emptied_loads x (m ∷ ms) s = omega (arith, emptied_loads x ms (set s m None), clear_loads x s m)

reap_loads : (x : Thing) (ms : List ℕ) (s : Actors) → load_sum x (reap_members ms s) ≤ load_sum x s
reap_loads x ms s = omega (arith, decs_loads x (reap_decs ms ms s) (empty_seats ms s), emptied_loads x ms s)

module _ (s : Actors) (d after : Detector) (ns : List Note) (ms : List ℕ) (trace : Trace) (all : Thing → Option Row) (ps : List Person) (keeps : KeepsCounts trace all ps s) where
  gone_at : (m : ℕ) → has ms m ≡ true → seat_at (reap_members ms s) m ≡ None
  gone_at m h = decs_none (reap_decs ms ms s) (empty_seats ms s) m (emptied_gone ms s m h)

  spares : (i : ℕ) → has ms i ≡ false → ((m : ℕ) → has ms m ≡ true → held_on (cell_at s m) i ≡ 0) → Every (Spares ms i) s
  spares i out free m c ls at ins = not_to i (by_owner (given_back marked c.holdings)) (firm_groups _ (firm_counted marked c.holdings (keeps.firm m c ls at))) unowed
    where
      marked : Thing → Bool
      marked = λ x. has ms (owner_of x)

      some : (q : Bool) (n : ℕ) → 0 < cond q 0 n → 0 < n
      some true n h = absurd (omega arith)
      some false n h = h

      unowed : (x : Thing) → owner_of x ≡ i → ¬ (0 < owed (by_owner (given_back marked c.holdings)) x)
      unowed x o p =
          let held = some (marked x) (held_in c.holdings x) (subst (λ (k : ℕ). 0 < k) (owed-groups (given_back marked c.holdings) x ∙ amount-given_back marked c.holdings x) p) in
          let up : 0 < held_in c.holdings (Actor (owner_of x)) = owner_held m c (held_owner trace all ps s keeps m c ls at) x held (λ e. false≢true (sym out ∙ ap (has ms) (sym o ∙ e) ∙ ins)) in
          let z = ap (λ (k : ℕ). held_in c.holdings (Actor k)) o in
          let w = sym (ap (λ o. held_on (cell_of o) i) at) ∙ free m ins in
          absurd (omega arith)

  pub departs : Departs (world_of s d ns) ms (world_of (reap_members ms s) after ns)
  departs = record {
    made = length-reap ms s;
    notes = refl;
    clears = λ m h. let e = gone_at m h in (ap cell_of e, ap letters_of e);
    stays = λ i out. (reap_adds ms s i out).0;
    sends = λ i out. (reap_adds ms s i out).1;
    sends_held = λ i out free. ap letters_of (reap_quiet ms s i (each_has _ ms (λ m h. h)) out (spares i out free));
    unloaded = λ x h. omega (arith, h, reap_loads (Actor x) ms s);
  }

module _ (s : Actors) (d : Detector) (ns : List Note) (t : Token) (trace : Trace) (all : Thing → Option Row) (ps : List Person) (keeps : KeepsCounts trace all ps s) (opened : Contains d.tokens t) (acked : all_acked t ≡ true) where
  pub reap_reaps : Reaps (world_of s d ns) t (world_of (reap_members t.members s) (close_token t d) ns)
  reap_reaps = record { is_open = opened; acked = acked; detector = refl; departs = departs s d (close_token t d) ns t.members trace all ps keeps }
