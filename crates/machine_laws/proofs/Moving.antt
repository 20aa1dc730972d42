-- What every event of an actor does to the detector's world.
use Rattle.std.proofs.Common.{◌≡◌, ◌≢◌, ◌⊎◌, ℕ, zero, suc, ◌+◌, ◌<◌, ◌≤◌, true, false, Option, Some, None, is_some, List, [], ◌∷◌, ◌++◌, length, set, refl, ap, sym, ◌∙◌, arith, inl, inr, ⊎_elim, get_or-set_same, get_or-set_other, length-set, append-nil, append_assoc}
use Rattle.std.proofs.lemmas.Bool.{cases_eq, cases_lt}
use Rattle.std.proofs.lemmas.List.Sums.{sum_by-cons, sum_by-set}
use Rattle.std.specs.Prelude.{sum_by}
use Rattle.orca_names.specs.declared.names.Thing.{Thing}
use Rattle.orca_names.specs.declared.names.Thing.TheVariants.{Actor}
use Rattle.letter_kinds.specs.Detector.{Detector, has}
use Rattle.letter_kinds.specs.Holdings.{held_in}
use Rattle.letter_kinds.specs.Sums.{load_count}
use Rattle.letter_kinds.specs.Letters.{Letter}
use Rattle.letter_kinds.specs.declared.note.Note.{Note}
use Rattle.machine_rules.proofs.Posting.{added_cell, length-push, push_here, push_other}
use Rattle.count_laws.proofs.balance.Posting.{loads_at_push}
use Rattle.count_laws.proofs.balance.SeatReads.{loads_at-none}
use Rattle.machine_rules.proofs.Present.{present_below}
use Rattle.machine_rules.specs.Actors.{Actors, Seat, cell_at, cell_of, letters_of, mail_at, push_letter, seat, seat_at, with_letter_more}
use Rattle.machine_rules.specs.Balance.{loads_at, load_sum}
use Rattle.machine_rules.specs.Cell.{Cell}
use Rattle.detector_laws.specs.Cells.{held_on}
use Rattle.detector_laws.specs.Confirms.{NoConfirms, is_confirm}
use Rattle.detector_laws.specs.Events.{IsApart, Moves}
use Rattle.machine_laws.proofs.Noted.{noted}
use Rattle.machine_laws.proofs.Seen.{world_of}

no_confirms-append : (ms ls : List Letter) → NoConfirms ms → NoConfirms ls → NoConfirms (ms ++ ls)
no_confirms-append [] ls h k = k
no_confirms-append (m ∷ ms) ls h k = (h.0, no_confirms-append ms ls h.1 k)

-- ---- one letter

pub sum_by-set_past : {A : Type 0} (f : A → ℕ) (xs : List A) (i : ℕ) (y : A) → length xs ≤ i → sum_by f (set xs i y) ≡ sum_by f xs
sum_by-set_past f [] i y h = refl
sum_by-set_past f (x ∷ xs) zero y h = absurd (omega arith)
sum_by-set_past f (x ∷ xs) (suc i) y h = omega (arith, sum_by-cons f x xs, sum_by-cons f x (set xs i y), sum_by-set_past f xs i y (omega arith))

loads_more : (x : Thing) (l : Letter) (o : Option Seat) → loads_at x (with_letter_more l o) ≤ loads_at x o + load_count x l
loads_more x l None = omega (arith, loads_at-none x)
loads_more x l (Some o) = omega (arith, loads_at_push x o l)

module _ (s : Actors) (b : ℕ) (l : Letter) where
  pub push_loads : (x : Thing) → load_sum x (push_letter b l s) ≤ load_sum x s + load_count x l
  unfolding push_letter
  push_loads x = ⊎_elim
      (λ lt. omega (arith, sum_by-set (loads_at x) s b (with_letter_more l (seat_at s b)) None lt, loads_more x l (seat_at s b)))
      (λ ge. omega (arith, sum_by-set_past (loads_at x) s b (with_letter_more l (seat_at s b)) ge))
      (cases_lt b (length s))

loads_same : (x : Thing) (l : Letter) (o : Option Seat) → load_count x l ≡ 0 → loads_at x (with_letter_more l o) ≡ loads_at x o
loads_same x l None h = refl
loads_same x l (Some o) h = omega (arith, loads_at_push x o l)

pub push_loads_same : (s : Actors) (b : ℕ) (l : Letter) (x : Thing) → load_count x l ≡ 0 → load_sum x (push_letter b l s) ≡ load_sum x s
unfolding push_letter
push_loads_same s b l x h = ⊎_elim
    (λ lt. omega (arith, sum_by-set (loads_at x) s b (with_letter_more l (seat_at s b)) None lt, loads_same x l (seat_at s b) h))
    (λ ge. sum_by-set_past (loads_at x) s b (with_letter_more l (seat_at s b)) ge)
    (cases_lt b (length s))

-- ---- sending

-- cells stay, letters other than Confirms come
pub record Adds (s s' : Actors) : Type 0 where
  pub size : length s' ≡ length s
  pub cell : (b : ℕ) → cell_at s' b ≡ cell_at s b
  pub mail : (b : ℕ) → (come : List Letter) × (mail_at s' b ≡ mail_at s b ++ come) × NoConfirms come

pub adds_none : (s : Actors) → Adds s s
adds_none s = record { size = refl; cell = λ b. refl; mail = λ b. ([], sym (append-nil (mail_at s b)), tt) }

pub adds_then : (s t u : Actors) → Adds s t → Adds t u → Adds s u
adds_then s t u p q = record {
  size = q.size ∙ p.size;
  cell = λ b. q.cell b ∙ p.cell b;
  mail = λ b. let x = p.mail b in let y = q.mail b in (x.0 ++ y.0, y.1 ∙ ap (λ (m : List Letter). m ++ y.0) x.1 ∙ append_assoc (mail_at s b) x.0 y.0, no_confirms-append x.0 y.0 x.2 y.2);
}

added_mail : (l : Letter) (o : Option Seat) → is_confirm l ≡ false → (come : List Letter) × (letters_of (with_letter_more l o) ≡ letters_of o ++ come) × NoConfirms come
added_mail l None k = ([], refl, tt)
added_mail l (Some o) k = (l ∷ [], refl, (k, tt))

pub adds_push : (s : Actors) (b : ℕ) (l : Letter) → is_confirm l ≡ false → Adds s (push_letter b l s)
adds_push s b l k = record {
  size = length-push b l s;
  cell = λ i. ⊎_elim
      (λ same. rw same (ap cell_of (push_here s b l) ∙ added_cell l (seat_at s b)))
      (λ other. ap cell_of (push_other s b l i other))
      (cases_eq i b);
  mail = λ i. ⊎_elim
      (λ same. rw same (let z = added_mail l (seat_at s b) k in (z.0, ap letters_of (push_here s b l) ∙ z.1, z.2)))
      (λ other. ([], ap letters_of (push_other s b l i other) ∙ sym (append-nil (mail_at s i)), tt))
      (cases_eq i b);
}

-- ---- an event: the seat of a is changed, and then letters are sent

abbrev pub Cause : Cell → List Letter → Type 0
Cause c ls = (is_some c.frame ≡ true) ⊎ (c.dirty ≡ true) ⊎ ((first : Letter) × (rest : List Letter) × (ls ≡ first ∷ rest) × (is_confirm first ≡ false))

pub not_same : (ms : List ℕ) (a m : ℕ) → has ms a ≡ false → has ms m ≡ true → m ≢ a
not_same ms a m out ins e = let z = ap (has ms) e in cc

-- who is no member of a set that is apart holds no member
pub unheld : (s : Actors) (d : Detector) (ns : List Note) (a : ℕ) (c : Cell) (ls : List Letter) → seat_at s a ≡ seat c ls → (ms : List ℕ) → IsApart (world_of s d ns) ms → has ms a ≡ false
    → (m : ℕ) → has ms m ≡ true → held_in c.holdings (Actor m) ≡ 0
unheld s d ns a c ls at ms is out m ins = ap (λ o. held_on (cell_of o) m) (sym at) ∙ (is m ins).2 a out

module _ (s s' : Actors) (d : Detector) (ns : List Note) (a : ℕ) (c c' : Cell) (ls rest : List Letter) (at : seat_at s a ≡ seat c ls)
    (adds : Adds (set s a (seat c' rest)) s') (gone : List Letter) (left : ls ≡ gone ++ rest) (woken : c'.reported ≡ false) (cause : Cause c ls) where
  within : a < length s
  within = present_below s a _ at

  mine : seat_at (set s a (seat c' rest)) a ≡ seat c' rest
  mine = get_or-set_same s a (seat c' rest) None within

  there : (b : ℕ) → b ≢ a → seat_at (set s a (seat c' rest)) b ≡ seat_at s b
  there b n = get_or-set_other s a b (seat c' rest) None n

  my_mail : mail_at s a ≡ ls
  my_mail = ap letters_of at

  pub moves_apart : ((ms : List ℕ) → IsApart (world_of s d ns) ms → has ms a ≡ false → (m : ℕ) → has ms m ≡ true
      → (mail_at s' m ≡ mail_at s m) × (load_sum (Actor m) s' ≡ 0) × (held_in c'.holdings (Actor m) ≡ 0)) → Moves (world_of s d ns) a (world_of s' d (noted a c ns))
  moves_apart apart = record {
    old = c;
    new = c';
    here = ap cell_of at;
    there = adds.cell a ∙ ap cell_of mine;
    woken = woken;
    made = within;
    grows = omega (arith, adds.size, length-set s a (seat c' rest));
    cause = ⊎_elim inl (λ r. inr (⊎_elim inl (λ l. inr (l.0, l.1, my_mail ∙ l.2, l.3)) r)) cause;
    detector = refl;
    notes = refl;
    others = λ b n. inl (adds.cell b ∙ ap cell_of (there b n));
    own = let m = adds.mail a in (gone, rest, m.0, my_mail ∙ left, m.1 ∙ ap (λ (o : Option Seat). letters_of o ++ m.0) mine, m.2);
    sends = λ b n. let m = adds.mail b in (m.0, m.1 ∙ ap (λ (o : Option Seat). letters_of o ++ m.0) (there b n), m.2);
    apart = apart;
  }

  -- it sends to those that it holds, and loads and holds afterwards what it held or what was loaded
  pub moves : ((b : ℕ) → b ≢ a → held_in c.holdings (Actor b) ≡ 0 → mail_at s' b ≡ mail_at s b)
      → ((b : ℕ) → b ≢ a → held_in c.holdings (Actor b) ≡ 0 → load_sum (Actor b) s ≡ 0 → load_sum (Actor b) s' ≡ 0)
      → ((b : ℕ) → b ≢ a → held_in c.holdings (Actor b) ≡ 0 → load_sum (Actor b) s ≡ 0 → held_in c'.holdings (Actor b) ≡ 0) → Moves (world_of s d ns) a (world_of s' d (noted a c ns))
  moves quiet loads holds = moves_apart (λ ms is out m ins.
      let n = not_same ms a m out ins in
      let h = unheld s d ns a c ls at ms is out m ins in
      (quiet m n h, loads m n h (is m ins).1, holds m n h (is m ins).1))
