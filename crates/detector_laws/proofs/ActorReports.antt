-- Events of actors keep what holds of reports.
use Rattle.std.proofs.Common.{◌≡◌, ℕ, ◌≢◌, ◌≤◌, Bool, true, false, if◌then◌else◌, ⊎_elim, List, [], ◌∷◌, ◌++◌, Option, Some, None, arith, refl, ap, sym, subst, ◌∙◌}
use Rattle.std.proofs.lemmas.Bool.{cases_eq, cond_both, false≢true}
use Rattle.std.proofs.lemmas.Bool.Decides.{nat_tests}
use Rattle.letter_kinds.specs.Detector.{Detector}
use Rattle.letter_kinds.specs.Reports.{block_note, kept_report}
use Rattle.letter_kinds.specs.Letters.{Letter, Confirm}
use Rattle.letter_kinds.specs.declared.note.Note.{Note}
use Rattle.letter_kinds.specs.declared.note.Note.TheVariants.{Unblock, Ack}
use Rattle.letter_kinds.specs.declared.note.Report.{Report}
use Rattle.machine_rules.specs.Cell.{Cell}
use Rattle.machine_rules.proofs.Guards.{may_report}
use Rattle.detector_laws.proofs.Cells.{blocked_reports}
use Rattle.detector_laws.proofs.Maps.{at_cases}
use Rattle.detector_laws.proofs.Notes.{with_notes-push, with_note-other_block, with_note-other_unblock, IsSilentOn-push}
use Rattle.detector_laws.specs.Cells.{is_reporting}
use Rattle.detector_laws.specs.Events.{CanBlock, IsFresh, Moves}
use Rattle.detector_laws.specs.Reports.{Told, Unreported, Reported, Contradictory, with_unblock, with_note, told_by_kept, told_of, IsSilentOn, IsAsTold, ExactReports}
use Rattle.detector_laws.specs.World.{World, block_in_world, take_confirm, ReportsAreExact}

-- an actor with no report out is last told of as such
pub off : (c : Option Cell) (a : ℕ) (s : Told) → IsAsTold c a s → is_reporting c ≡ false → s ≡ Unreported
off c a Unreported h e = refl
off c a (Reported r) h e = absurd (false≢true (sym e ∙ blocked_reports h.0))
off c a Contradictory h e = absurd h

on_cases : (c : Option Cell) (a : ℕ) (s : Told) → IsAsTold c a s → is_reporting c ≡ true → with_unblock s ≡ Unreported
on_cases c a Unreported h e = absurd (cc)
on_cases c a (Reported r) h e = refl
on_cases c a Contradictory h e = absurd h

told_block : (a : ℕ) (r : Report) → r.actor ≡ a → with_note a Unreported (block_note r) ≡ Reported r
told_block a r e = grind (arith, nat_tests)

told_unblock : (a : ℕ) (s : Told) → with_unblock s ≡ Unreported → with_note a s (Unblock a) ≡ Unreported
told_unblock a s e = grind (arith, nat_tests)

pub block_reports : (w : World) (a : ℕ) (c : Cell) (r : Report) → CanBlock w a c r → ReportsAreExact w → ReportsAreExact (block_in_world w a c r)
block_reports w a c r can h =
    let c' : Cell = record c { reported = true } in
    let kept = w.detector.kept in
    let may = may_report c [] can.may in
    let ends = λ (b : ℕ). with_notes-push b (told_by_kept (kept_report kept b)) w.notes (block_note r) in
    let was : told_of a kept w.notes ≡ Unreported = off (w.cell a) a (told_of a kept w.notes) (h.last a) (ap is_reporting can.here ∙ may.unreported) in
    let is : told_of a kept (w.notes ++ block_note r ∷ []) ≡ Reported r = ends a ∙ (ap (λ s. with_note a s (block_note r)) was ∙ told_block a r can.exact.actor) in
    let mine : IsAsTold (Some c') a (Reported r) = (
      record { cell = c'; here = refl; reported = refl; unpinned = may.unpinned; clean = may.rest.clean; idle = may.rest.idle },
      record { actor = can.exact.actor; count = can.exact.count; held = can.exact.held },
    ) in
    record {
      last = at_cases (λ b o. IsAsTold o b (told_of b kept (w.notes ++ block_note r ∷ []))) w.cell a (Some c')
          (subst (IsAsTold (Some c') a) (sym is) mine)
          (λ b ne. subst (IsAsTold (w.cell b) b) (sym (ends b ∙ with_note-other_block b (told_of b kept w.notes) r.actor r.count r.held (λ e. ne (sym e ∙ can.exact.actor)))) (h.last b));
      unmade = λ b past. let before = h.unmade b past in
          (before.0, IsSilentOn-push b w.notes (block_note r) before.1 (λ e. let z = can.made in let y = can.exact.actor in absurd (omega arith)));
    }

confirm_notes : (made : ℕ) (cell : ℕ → Option Cell) (kept : List Report) (notes : List Note) (a t : ℕ) → ExactReports made cell kept notes → ExactReports made cell kept (notes ++ Ack t a ∷ [])
confirm_notes made cell kept notes a t h = record {
  last = λ b. subst (IsAsTold (cell b) b) (sym (with_notes-push b (told_by_kept (kept_report kept b)) notes (Ack t a))) (h.last b);
  unmade = λ b past. let before = h.unmade b past in (before.0, IsSilentOn-push b notes (Ack t a) before.1 tt);
}

pub confirm_reports : (w : World) (a t : ℕ) (ls : List Letter) → w.mail a ≡ Confirm t ∷ ls → ReportsAreExact w → ReportsAreExact (take_confirm w a t ls)
confirm_reports w a t ls e h =
    cond_both (is_reporting (w.cell a)) (w.notes ++ Ack t a ∷ []) w.notes (λ ns. ExactReports w.made w.cell w.detector.kept ns)
    (λ _. confirm_notes w.made w.cell w.detector.kept w.notes a t h)
    (λ _. h)

-- after an event of a, and only a, that ends its report
woken_told : (w : World) (a : ℕ) → ReportsAreExact w → (reported : Bool) → is_reporting (w.cell a) ≡ reported → told_of a w.detector.kept (if reported then w.notes ++ Unblock a ∷ [] else w.notes) ≡ Unreported
woken_told w a h true e =
    let s = told_of a w.detector.kept w.notes in
    with_notes-push a (told_by_kept (kept_report w.detector.kept a)) w.notes (Unblock a) ∙ told_unblock a s (on_cases (w.cell a) a s (h.last a) e)
woken_told w a h false e = off (w.cell a) a (told_of a w.detector.kept w.notes) (h.last a) e

other_told : (w : World) (a b : ℕ) → b ≢ a → (reported : Bool) → told_of b w.detector.kept (if reported then w.notes ++ Unblock a ∷ [] else w.notes) ≡ told_of b w.detector.kept w.notes
other_told w a b ne true =
    with_notes-push b (told_by_kept (kept_report w.detector.kept b)) w.notes (Unblock a) ∙ with_note-other_unblock b (told_of b w.detector.kept w.notes) a (λ e. ne (sym e))
other_told w a b ne false = refl

other_silent : (w : World) (a b : ℕ) → b ≢ a → (reported : Bool) → IsSilentOn b w.notes → IsSilentOn b (if reported then w.notes ++ Unblock a ∷ [] else w.notes)
other_silent w a b ne true h = IsSilentOn-push b w.notes (Unblock a) h (λ e. ne (sym e))
other_silent w a b ne false h = h

moved_last : (w w' : World) (a : ℕ) → Moves w a w' → ReportsAreExact w → (b : ℕ) → IsAsTold (w'.cell b) b (told_of b w.detector.kept w'.notes)
moved_last w w' a m h b =
    ⊎_elim
    (λ (e : b ≡ a). subst (λ x. IsAsTold (w'.cell x) x (told_of x w.detector.kept w'.notes)) (sym e)
    (subst (λ ns. IsAsTold (w'.cell a) a (told_of a w.detector.kept ns)) (sym m.notes)
    (subst (IsAsTold (w'.cell a) a) (sym (woken_told w a h m.old.reported (ap is_reporting m.here))) (ap is_reporting m.there ∙ m.woken))))
    (λ (ne : b ≢ a). subst (λ ns. IsAsTold (w'.cell b) b (told_of b w.detector.kept ns)) (sym m.notes)
    (subst (IsAsTold (w'.cell b) b) (sym (other_told w a b ne m.old.reported))
    (⊎_elim
    (λ (same : w'.cell b ≡ w.cell b). subst (λ c. IsAsTold c b (told_of b w.detector.kept w.notes)) (sym same) (h.last b))
    (λ (new : IsFresh (w.cell b) (w'.cell b)).
    subst (IsAsTold (w'.cell b) b) (sym (off (w.cell b) b (told_of b w.detector.kept w.notes) (h.last b) (ap is_reporting new.absent))) (ap is_reporting new.present ∙ new.quiet))
    (m.others b ne))))
    (cases_eq b a)

moved_unmade : (w w' : World) (a : ℕ) → Moves w a w' → ReportsAreExact w → (b : ℕ) → w'.made ≤ b → (kept_report w.detector.kept b ≡ None) × IsSilentOn b w'.notes
moved_unmade w w' a m h b past =
    let grows = m.grows in
    let below = m.made in
    let none = h.unmade b (omega arith) in
    (none.0, subst (IsSilentOn b) (sym m.notes) (other_silent w a b (λ e. absurd (omega arith)) m.old.reported none.1))

pub moves_reports : (w w' : World) (a : ℕ) → Moves w a w' → ReportsAreExact w → ReportsAreExact w'
moves_reports w w' a m h = subst (λ (d : Detector). ExactReports w'.made w'.cell d.kept w'.notes) (sym m.detector)
    record { last = moved_last w w' a m h; unmade = moved_unmade w w' a m h }
