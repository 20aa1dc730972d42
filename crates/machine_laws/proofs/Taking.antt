-- A take, as the detector's laws see it.
use Rattle.std.proofs.Common.{◌≡◌, ◌≢◌, ℕ, ◌+◌, ◌≤◌, false, if◌then◌else◌, None, List, [], ◌∷◌, ◌++◌, length, set, refl, ap, sym, ◌∙◌, arith, inr, ⊎_elim, get_or-set_same, get_or-set_other, length-set, eq-eqb, ne_eqb}
use Rattle.std.proofs.lemmas.Bool.{cases_eq, false≢true}
use Rattle.std.proofs.lemmas.List.Sums.{sum_by-cons}
use mathlib.Core.Path.{fun_ext}
use Rattle.orca_names.specs.declared.names.Thing.{Thing}
use Rattle.orca_names.specs.declared.names.Thing.TheVariants.{Actor}
use Rattle.behaviour_code.specs.declared.code.Program.{Program}
use Rattle.letter_kinds.proofs.Amounts.{held-raise_all, held-lower_all}
use Rattle.letter_kinds.proofs.Counts.{held-receive}
use Rattle.letter_kinds.specs.Detector.{Detector}
use Rattle.letter_kinds.specs.Holdings.{held_in}
use Rattle.letter_kinds.specs.Sums.{load_count}
use Rattle.letter_kinds.specs.Letters.{Letter, App, Inc, Dec, Confirm}
use Rattle.letter_kinds.specs.declared.note.Note.{Note}
use Rattle.letter_kinds.specs.declared.note.Note.TheVariants.{Ack}
use Rattle.count_laws.proofs.balance.InHand.{take_letter}
use Rattle.count_laws.proofs.balance.SeatReads.{letter_App, letter_Confirm, loads_at-seat}
use Rattle.count_laws.proofs.balance.Seats.{load_sum-set}
use Rattle.machine_rules.proofs.Present.{present_below}
use Rattle.machine_rules.specs.Actors.{Actors, cell_at, cell_of, letters_of, mail_at, seat, seat_at}
use Rattle.machine_rules.specs.Balance.{load_sum}
use Rattle.machine_rules.specs.Cell.{Cell}
use Rattle.machine_rules.specs.Take.{cell_after}
use Rattle.detector_laws.specs.Cells.{is_reporting}
use Rattle.detector_laws.specs.Confirms.{is_confirm}
use Rattle.detector_laws.specs.Events.{Moves}
use Rattle.detector_laws.specs.World as view
use Rattle.detector_laws.specs.World.{take_confirm}
use Rattle.machine_laws.proofs.Moving.{adds_none, moves}
use Rattle.machine_laws.proofs.Noted.{noted, acked}
use Rattle.machine_laws.proofs.Seen.{world_of}

module _ (program : Program) (s : Actors) (d : Detector) (ns : List Note) (a : ℕ) (c : Cell) (l : Letter) (ls : List Letter) (at : seat_at s a ≡ seat c (l ∷ ls)) where
  fewer : (x : Thing) (c' : Cell) → load_sum x (set s a (seat c' ls)) + load_count x l ≡ load_sum x s
  fewer x c' = omega (arith, load_sum-set s a (seat c (l ∷ ls)) (seat c' ls) (present_below s a _ at) at x, loads_at-seat x c (l ∷ ls), loads_at-seat x c' ls, sum_by-cons (load_count x) l ls)

  -- a letter other than a Confirm
  took : (c' : Cell) → is_confirm l ≡ false → c'.reported ≡ false → ((b : ℕ) → b ≢ a → held_in c'.holdings (Actor b) ≤ held_in c.holdings (Actor b) + load_count (Actor b) l)
      → Moves (world_of s d ns) a (world_of (set s a (seat c' ls)) d (noted a c ns))
  took c' other woken held =
      let s1 = set s a (seat c' ls) in
      moves s s1 d ns a c c' (l ∷ ls) ls at (adds_none s1) (l ∷ []) refl woken (inr (inr (l, ls, refl, other)))
      (λ b n h. ap letters_of (get_or-set_other s a b (seat c' ls) None n))
      (λ b n h u. omega (arith, u, fewer (Actor b) c'))
      (λ b n h u. omega (arith, held b n, h, u, fewer (Actor b) c'))

module _ (program : Program) (s : Actors) (d : Detector) (ns : List Note) (a : ℕ) (c : Cell) where
  pub take_moves : (l : Letter) (ls : List Letter) → seat_at s a ≡ seat c (l ∷ ls) → is_confirm l ≡ false → Moves (world_of s d ns) a (world_of (take_letter program a c l ls s) d (noted a c ns))
  take_moves (App h args load rows) ls at o = took program s d ns a c (App h args load rows) ls at (cell_after program a (App h args load rows) c) refl refl
      (λ b n. omega (arith, held-receive a (Actor b) load c.holdings n, (letter_App (Actor b) h args load rows).2))
  take_moves (Inc es) ls at o = took program s d ns a c (Inc es) ls at (cell_after program a (Inc es) c) refl refl
      (λ b n. omega (arith, held-raise_all a (Actor b) es c.holdings))
  take_moves (Dec es) ls at o = took program s d ns a c (Dec es) ls at (cell_after program a (Dec es) c) refl refl
      (λ b n. omega (arith, held-lower_all a (Actor b) es c.holdings))
  take_moves (Confirm t) ls at o = absurd (false≢true (sym o))

  -- a Confirm is, to the detector's laws, theirs
  pub confirm_is : (t : ℕ) (ls : List Letter) → seat_at s a ≡ seat c (Confirm t ∷ ls) → world_of (take_letter program a c (Confirm t) ls s) d (acked a t c ns) ≡ take_confirm (world_of s d ns) a t ls
  confirm_is t ls at =
      let s1 = set s a (seat c ls) in
      let within = present_below s a _ at in
      let made : length s1 ≡ length s = length-set s a (seat c ls) in
      let mine = get_or-set_same s a (seat c ls) None within in
      let cell : cell_at s1 ≡ cell_at s = fun_ext (λ b. ⊎_elim
      (λ same. rw same (ap cell_of mine ∙ sym (ap cell_of at)))
      (λ other. ap cell_of (get_or-set_other s a b (seat c ls) None other))
      (cases_eq b a)) in
      let mail : mail_at s1 ≡ view.at (mail_at s) a ls = fun_ext (λ b. ⊎_elim
      (λ same. rw (eq-eqb b a same, same) (ap letters_of mine))
      (λ other. rw (ne_eqb b a other) (ap letters_of (get_or-set_other s a b (seat c ls) None other)))
      (cases_eq b a)) in
      let loaded : (λ x. load_sum (Actor x) s1) ≡ (λ x. load_sum (Actor x) s) = fun_ext (λ x. omega (arith, fewer program s d ns a c (Confirm t) ls at (Actor x) c, (letter_Confirm (Actor x) t).2)) in
      let notes : acked a t c ns ≡ (if is_reporting (cell_at s a) then ns ++ Ack t a ∷ [] else ns) = ap (λ o. if is_reporting (cell_of o) then ns ++ Ack t a ∷ [] else ns) (sym at) in
      λ i. record { made = made i; cell = cell i; mail = mail i; loaded = loaded i; detector = d; notes = notes i }
