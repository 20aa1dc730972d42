-- A scan, as the detector's laws see it; it keeps all that is kept of the counts.
use Rattle.std.proofs.Common.{◌≡◌, ℕ, suc, ◌≤◌, ◌==◌, true, false, if◌then◌else◌, ◌&&◌, is_some, get_or, set, subst, Option, Some, None, List, [], ◌∷◌, ◌++◌, length, refl, ap, sym, ◌∙◌, arith, ⊎_elim, eq-eqb, ne_eqb, zero, ◌<◌}
use Rattle.std.proofs.lemmas.Bool.{cases_eq, cases_lt, false≢true}
use Rattle.std.specs.List.{AllByRecursion}
use Rattle.std.specs.Prelude.{sum_by, ⊤}
use Rattle.std.proofs.lemmas.List.{length-map}
use Rattle.std.proofs.lemmas.List.Sums.{sum_by-cons}
use mathlib.Core.Path.{fun_ext}
use Rattle.orca_names.specs.Names.{owner_of}
use Rattle.orca_names.specs.declared.names.Thing.{Thing}
use Rattle.orca_names.specs.declared.names.Thing.TheVariants.{Actor}
use Rattle.letter_kinds.proofs.Sums.{sum-nil}
use Rattle.letter_kinds.specs.Closed.{largest_closed}
use Rattle.letter_kinds.specs.Detector.{Detector, after_scan, has, closed_set, candidates}
use Rattle.letter_kinds.specs.Holdings.{Row}
use Rattle.letter_kinds.specs.Reports.{kept_report}
use Rattle.letter_kinds.specs.Sums.{inc_of, dec_of}
use Rattle.letter_kinds.specs.Letters.{Letter, Confirm}
use Rattle.letter_kinds.specs.declared.note.Note.{Note}
use Rattle.letter_kinds.specs.declared.note.Report.{Report}
use Rattle.count_laws.proofs.roots.Same.{roots_push}
use Rattle.count_laws.proofs.agreement.Agreeing.{agrees_push_other}
use Rattle.count_laws.proofs.events.Every.{every_push}
use Rattle.count_laws.proofs.knowledge.Global.{mail_push}
use Rattle.count_laws.proofs.balance.InHand.{Balanced, in_hand, none, out_of_hand}
use Rattle.count_laws.proofs.balance.Posting.{push_balanced}
use Rattle.count_laws.proofs.balance.SeatReads.{letter_Confirm}
use Rattle.count_laws.proofs.balance.Sends.{push_prefix, cond_zero}
use Rattle.machine_rules.specs.Cell.{Cell}
use Rattle.orca_names.specs.declared.trace.Trace.{Trace}
use Rattle.orca_names.specs.declared.trace.Trace.TheVariants.{Deep}
use Rattle.orca_names.specs.declared.trace.Trace.TheVariants as options
use Rattle.machine_rules.specs.Actors.{Actors, cell_at, Seat, cell_of, letters_of, mail_at, push_letter, seat_at, with_letter_more}
use Rattle.count_laws.specs.Agreement.{Person}
use Rattle.machine_rules.specs.Balance.{load_sum}
use Rattle.machine_rules.specs.Detect.{ask_all}
use Rattle.count_laws.specs.Facts.{IsFirmAt, KeepsCounts, IsSound}
use Rattle.detector_laws.proofs.Cells.{some_not_none}
use Rattle.detector_laws.proofs.Members.{contained_each, each_contained}
use Rattle.detector_laws.proofs.Names.{has_name, names, named}
use Rattle.detector_laws.proofs.Scan.{IsChosen, largest_chosen}
use Rattle.detector_laws.proofs.Sums.{some_le_all}
use Rattle.detector_laws.specs.Balance.{sum_below}
use Rattle.detector_laws.proofs.Order.{AllAbove, rising_parts}
use Rattle.detector_laws.specs.Reports.{IsRising}
use Rattle.detector_laws.specs.World as view
use Rattle.detector_laws.specs.World.{World, ReportsAreExact}
use Rattle.machine_laws.proofs.Moving.{push_loads_same}
use Rattle.machine_rules.proofs.Posting.{push_here, push_other, added_cell, length-push}
use Rattle.machine_laws.proofs.Seen.{world_of}
use Rattle.count_laws.proofs.bounds.Bounding.{length-asked}

-- what an actor knows does not hang on Confirms
abbrev pub Confirming : Trace → (Thing → Option Row) → Type 0
Confirming trace all = (t i : ℕ) (c : Cell) (ms : List Letter) → IsSound trace all i c ms → IsSound trace all i c (ms ++ Confirm t ∷ [])

pub confirms_deep : (all : Thing → Option Row) → Confirming Deep all
confirms_deep all t i c ms q = record { closed = q.closed; rows = q.rows; loads = mail_push all ms (Confirm t) tt q.loads }

pub confirms_all : (trace : Trace) (all : Thing → Option Row) → Confirming trace all
confirms_all Deep all = confirms_deep all
confirms_all options.Roots all = λ t. roots_push all (Confirm t) tt (λ x. (letter_Confirm x t).0)

-- ---- one Confirm

module _ (s : Actors) (b t : ℕ) where
  ask_cell : (i : ℕ) → cell_at (push_letter b (Confirm t) s) i ≡ cell_at s i
  ask_cell i = ⊎_elim
      (λ same. rw same (ap cell_of (push_here s b (Confirm t)) ∙ added_cell (Confirm t) (seat_at s b)))
      (λ other. ap cell_of (push_other s b (Confirm t) i other))
      (cases_eq i b)

  ask_mail : mail_at (push_letter b (Confirm t) s) b ≡ (if is_some (cell_at s b) then mail_at s b ++ Confirm t ∷ [] else mail_at s b)
  ask_mail = ap letters_of (push_here s b (Confirm t)) ∙ more (seat_at s b)
    where
      more : (o : Option Seat) → letters_of (with_letter_more (Confirm t) o) ≡ (if is_some (cell_of o) then letters_of o ++ Confirm t ∷ [] else letters_of o)
      more None = refl
      more (Some o) = refl

  -- who is gone gets nothing
  ask_nobody : seat_at s b ≡ None → push_letter b (Confirm t) s ≡ s
  unfolding push_letter
  ask_nobody gone = ap (λ o. set s b (with_letter_more (Confirm t) o)) gone ∙ ap (set s b) (sym gone) ∙ set_same s b None
    where
      set_same : {A : Type 0} (xs : List A) (i : ℕ) (d : A) → set xs i (get_or xs i d) ≡ xs
      set_same [] i d = refl
      set_same (x ∷ xs) zero d = refl
      set_same (x ∷ xs) (suc i) d = ap (λ ys. x ∷ ys) (set_same xs i d)

  ask_here : (trace : Trace) (all : Thing → Option Row) (ps : List Person) (confirm : Confirming trace all) → (q : Seat) × (seat_at s b ≡ Some q) → KeepsCounts trace all ps s → KeepsCounts trace all ps (push_letter b (Confirm t) s)
  ask_here trace all ps confirm o keeps =
      let l = Confirm t in
      let bal : Balanced (push_letter b l s) = push_balanced s b l none none o
      (λ x. let z = in_hand s keeps.balanced x in let k = letter_Confirm x t in let p = cond_zero (owner_of x == b) (inc_of x l) k.0 in let q = cond_zero (owner_of x == b) (dec_of x l) k.1 in omega (arith, k.2)) in
      record {
        balanced = out_of_hand _ bal;
        prefixes = push_prefix trace s b l none o.0 o.1 bal (λ deep x is some. absurd (let k = letter_Confirm x t in omega (arith, k.0))) keeps.prefixes;
        sound = every_push (IsSound trace all) l (λ i c ms q. confirm t i c ms q) s b keeps.sound;
        agrees = agrees_push_other ps s b l o.0 o.1 refl keeps.agrees;
        bare = keeps.bare;
        long = keeps.long ∙ sym (length-push b l s);
        firm = every_push IsFirmAt l (λ i c ms q. q) s b keeps.firm;
      }

  ask_keeps : (trace : Trace) (all : Thing → Option Row) (ps : List Person) (confirm : Confirming trace all) → KeepsCounts trace all ps s → KeepsCounts trace all ps (push_letter b (Confirm t) s)
  ask_keeps trace all ps confirm keeps = by_seat (seat_at s b) refl
    where
      by_seat : (o : Option Seat) → seat_at s b ≡ o → KeepsCounts trace all ps (push_letter b (Confirm t) s)
      by_seat None gone = subst (KeepsCounts trace all ps) (sym (ask_nobody gone)) keeps
      by_seat (Some q) there = ask_here trace all ps confirm (q, there) keeps

  ask_loads : (x : Thing) → load_sum x (push_letter b (Confirm t) s) ≡ load_sum x s
  ask_loads x = push_loads_same s b (Confirm t) x (letter_Confirm x t).2

-- ---- a Confirm to each

asks_cell : (ms : List ℕ) (t : ℕ) (s : Actors) (b : ℕ) → cell_at (ask_all ms t s) b ≡ cell_at s b
asks_cell [] t s b = refl
asks_cell (m ∷ ms) t s b = asks_cell ms t (push_letter m (Confirm t) s) b ∙ ask_cell s m t b

asks_loads : (ms : List ℕ) (t : ℕ) (s : Actors) (x : Thing) → load_sum x (ask_all ms t s) ≡ load_sum x s
asks_loads [] t s x = refl
asks_loads (m ∷ ms) t s x = asks_loads ms t (push_letter m (Confirm t) s) x ∙ ask_loads s m t x

asks_keep : (trace : Trace) (all : Thing → Option Row) (confirm : Confirming trace all) (ms : List ℕ) (t : ℕ) (s : Actors) (ps : List Person) → KeepsCounts trace all ps s → KeepsCounts trace all ps (ask_all ms t s)
asks_keep trace all confirm [] t s ps keeps = keeps
asks_keep trace all confirm (m ∷ ms) t s ps keeps = asks_keep trace all confirm ms t (push_letter m (Confirm t) s) ps (ask_keeps s m t trace all ps confirm keeps)

abbrev Distinct : List ℕ → Type 0
Distinct [] = ⊤
Distinct (m ∷ ms) = (has ms m ≡ false) × Distinct ms

asks_other : (ms : List ℕ) (t : ℕ) (s : Actors) (b : ℕ) → has ms b ≡ false → mail_at (ask_all ms t s) b ≡ mail_at s b
asks_other [] t s b out = refl
asks_other (m ∷ ms) t s b out = ⊎_elim
    (λ same. absurd (let z = eq-eqb m b (sym same) in false≢true (sym out ∙ rw z refl)))
    (λ other. asks_other ms t (push_letter m (Confirm t) s) b (rw (ne_eqb m b (λ e. other (sym e))) at out) ∙ ap letters_of (push_other s m (Confirm t) b other))
    (cases_eq b m)

asks_mail : (ms : List ℕ) (t : ℕ) (s : Actors) → Distinct ms → (b : ℕ)
    → mail_at (ask_all ms t s) b ≡ (if has ms b && is_some (cell_at s b) then mail_at s b ++ Confirm t ∷ [] else mail_at s b)
asks_mail [] t s apart b = refl
asks_mail (m ∷ ms) t s apart b = ⊎_elim
    (λ same. rw (eq-eqb m b (sym same), same) (asks_other ms t (push_letter m (Confirm t) s) m apart.0 ∙ ask_mail s m t))
    (λ other. rw (ne_eqb m b (λ e. other (sym e)))
    (asks_mail ms t (push_letter m (Confirm t) s) apart.1 b
    ∙ (λ i. let there = push_other s m (Confirm t) b other in if has ms b && is_some (cell_of (there i)) then letters_of (there i) ++ Confirm t ∷ [] else letters_of (there i))))
    (cases_eq b m)

-- the chosen are distinct
above_out : (a b : ℕ) (rs : List Report) → b ≤ a → AllAbove a rs → has (names rs) b ≡ false
above_out a b [] le h = refl
above_out a b (r ∷ rs) le h = rw (ne_eqb r.actor b (λ e. let q = h.0 in absurd (omega arith))) (above_out a b rs le h.1)

rising_distinct : (rs : List Report) → IsRising rs → Distinct (names rs)
rising_distinct [] h = tt
rising_distinct (r ∷ rs) h =
    let (above, rest) = rising_parts r rs h in (above_out r.actor r.actor rs (omega arith) above, rising_distinct rs rest)

ones : (rs : List Report) → sum_by (λ r. 1) rs ≡ length rs
ones [] = sum-nil (λ (r : Report). 1)
ones (r ∷ rs) = omega (arith, sum_by-cons (λ (r : Report). 1) r rs, ones rs)

ones_below : (n : ℕ) → sum_below n (λ b. 1) ≡ n
ones_below zero = refl
ones_below (suc n) = omega (arith, ones_below n)

module _ (s : Actors) (d : Detector) (ns : List Note) (rising : IsRising d.kept) (kept : ReportsAreExact (world_of s d ns)) where
  chosen : IsChosen (world_of s d ns) (largest_closed (candidates d))
  chosen = largest_chosen (world_of s d ns) rising

  distinct : Distinct (closed_set d)
  distinct = rising_distinct (largest_closed (candidates d)) chosen.rising

  -- they were made
  all_made : (m : ℕ) → has (closed_set d) m ≡ true → m < length s
  all_made m h = ⊎_elim
      (λ below. below)
      (λ past.
      let q = named (largest_closed (candidates d)) m h in
      let some = each_contained (λ (r : Report). kept_report d.kept r.actor ≡ Some r) (largest_closed (candidates d)) chosen.kept q.0 q.1 in
      let none = (kept.unmade m past).0 in
      absurd (some_not_none (ap (kept_report d.kept) (sym q.2) ∙ some) none))
      (cases_lt m (length s))

  -- no more are asked than there are actors
  pub few_asked : length (closed_set d) ≤ length s
  few_asked =
      let asked = largest_closed (candidates d) in
      let within : AllByRecursion (λ r. r.actor < length s) asked = contained_each (λ r. r.actor < length s) asked (λ r i. all_made r.actor (has_name asked r i)) in
      omega (arith, some_le_all (length s) (λ b. 1) asked chosen.rising within, ones asked, ones_below (length s), length-map asked (λ r. r.actor))

  pub scan_keeps : (trace : Trace) (all : Thing → Option Row) (confirm : Confirming trace all) (ps : List Person) → KeepsCounts trace all ps s → KeepsCounts trace all ps (ask_all (closed_set d) (suc d.opened) s)
  scan_keeps trace all confirm ps keeps = asks_keep trace all confirm (closed_set d) (suc d.opened) s ps keeps

  pub scan_is : world_of (ask_all (closed_set d) (suc d.opened) s) (after_scan d (closed_set d)) ns ≡ view.scan_in_world (world_of s d ns)
  scan_is =
      let t = suc d.opened in
      let made : length (ask_all (closed_set d) (suc d.opened) s) ≡ length s = length-asked (closed_set d) t s in
      let cell : cell_at (ask_all (closed_set d) t s) ≡ cell_at s = fun_ext (λ b. asks_cell (closed_set d) t s b) in
      let mail : mail_at (ask_all (closed_set d) t s) ≡ view.confirms_of (closed_set d) t (cell_at s) (mail_at s) = fun_ext (λ b. asks_mail (closed_set d) t s distinct b) in
      let loaded : (λ x. load_sum (Actor x) (ask_all (closed_set d) t s)) ≡ (λ x. load_sum (Actor x) s) = fun_ext (λ x. asks_loads (closed_set d) t s (Actor x)) in
      λ i. record { made = made i; cell = cell i; mail = mail i; loaded = loaded i; detector = after_scan d (closed_set d); notes = ns }
