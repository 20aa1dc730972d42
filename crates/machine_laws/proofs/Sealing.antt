-- A reap keeps what holds of the counts: what it asks is what the seal says.
use Rattle.std.proofs.Common.{◌≡◌, ℕ, true, false, Option, Some, None, List, [], ◌∷◌, refl, ap, sym, subst, ◌∙◌, arith}
use Rattle.std.proofs.lemmas.Bool.{false≢true}
use Rattle.std.proofs.lemmas.List.Sums.{sum_by-cons}
use Rattle.std.specs.Prelude.{sum_by}
use Rattle.orca_names.specs.declared.names.Thing.{Thing}
use Rattle.orca_names.specs.declared.names.Thing.TheVariants.{Actor}
use Rattle.letter_kinds.proofs.Sums.{sum-at, sum-nil}
use Rattle.letter_kinds.specs.Detector.{has, Token}
use Rattle.letter_kinds.specs.Holdings.{held_in, Row}
use Rattle.letter_kinds.specs.Sums.{load_count}
use Rattle.letter_kinds.specs.Letters.{Letter, Confirm}
use Rattle.letter_kinds.specs.declared.note.Note.{Note}
use Rattle.count_laws.proofs.events.EitherMode.{reap_keeps}
use Rattle.count_laws.proofs.events.Reap.{AllSealed, Sealed}
use Rattle.count_laws.proofs.balance.SeatReads.{loads_at-seat, letter_Confirm}
use Rattle.machine_rules.proofs.Present.{present_below}
use Rattle.orca_names.specs.declared.trace.Trace.{Trace}
use Rattle.machine_rules.specs.Actors.{Actors, cell_at, Seat, cell_of, letters_of, mail_at, seat, seat_at}
use Rattle.count_laws.specs.Agreement.{app_letters, Person}
use Rattle.machine_rules.specs.Balance.{loads_at, load_sum}
use Rattle.machine_rules.specs.Cell.{Cell}
use Rattle.machine_rules.specs.Detect.{reap_members}
use Rattle.count_laws.specs.Facts.{KeepsCounts}
use Rattle.detector_laws.proofs.Cells.{same_some, some_not_none}
use Rattle.detector_laws.proofs.Letters.{EndsInConfirm-only}
use Rattle.detector_laws.proofs.Members.{each_has}
use Rattle.detector_laws.specs.Cells.{held_on}
use Rattle.detector_laws.specs.Confirms.{OnlyConfirms}
use Rattle.detector_laws.specs.Tokens.{IsSealed}

only : (ls : List Letter) → OnlyConfirms ls → (app_letters ls ≡ []) × ((x : Thing) → sum_by (load_count x) ls ≡ 0)
only [] h = (refl, λ x. sum-nil (load_count x))
only (Confirm t ∷ ls) h = let rest = only ls h.1 in (rest.0, λ x. omega (arith, sum_by-cons (load_count x) (Confirm t) ls, rest.1 x, (letter_Confirm x t).2))
only (l ∷ ls) h = absurd (false≢true h.0)

module _ (s : Actors) (ns : List Note) (t : Token) (trace : Trace) (all : Thing → Option Row) (ps : List Person) (keeps : KeepsCounts trace all ps s)
    (seal : IsSealed (cell_at s) (mail_at s) (λ x. load_sum (Actor x) s) ns t) where
  one : (m : ℕ) → has t.members m ≡ true → (o : Option Seat) → seat_at s m ≡ o → Sealed s m
  one m h None e = absurd (some_not_none (seal m h).blocked.here (ap cell_of e))
  one m h (Some o) e =
      let q = seal m h in
      let letters = only o.mail (subst (λ q. OnlyConfirms (letters_of q)) e (EndsInConfirm-only t.number (mail_at s m) q.letters)) in
      let same : q.blocked.cell ≡ o.cell = same_some q.blocked.here (ap cell_of e) in
      record {
        cell = o.cell;
        mail = o.mail;
        at = e;
        idle = ap (λ (c : Cell). c.frame) (sym same) ∙ q.blocked.idle;
        free = ap (λ (c : Cell). c.fields.pinned) (sym same) ∙ q.blocked.unpinned;
        bare = letters.0;
        quiet = letters.1;
      }

  -- each member is sealed
  pub members_sealed : AllSealed s t.members
  members_sealed = each_has (Sealed s) t.members (λ m ins. one m ins (seat_at s m) refl)

  -- none but a member holds a member, and no letter of another loads one
  pub members_alone : (m i : ℕ) (c : Cell) (ls : List Letter) → has t.members m ≡ true → has t.members i ≡ false → seat_at s i ≡ seat c ls → (held_in c.holdings (Actor m) ≡ 0) × (sum_by (load_count (Actor m)) ls ≡ 0)
  members_alone m i c ls ins out at =
      let q = seal m ins in
      let w = sum-at (loads_at (Actor m)) s i None (present_below s i _ at) in
      let v = rw at at w in
      (sym (ap (λ o. held_on (cell_of o) m) at) ∙ q.held i out, omega (arith, q.unloaded, v, loads_at-seat (Actor m) c ls))

  pub members_keep : KeepsCounts trace all ps (reap_members t.members s)
  members_keep = reap_keeps trace all ps s keeps t.members (each_has _ t.members (λ m h. h)) members_sealed members_alone
