-- Hearing a note keeps what holds of reports.
use Rattle.std.proofs.Common.{◌≡◌, ℕ, ◌==◌, Bool, true, false, if◌then◌else◌, List, [], ◌∷◌, Option, Some, None, arith, refl, sym, subst}
use Rattle.std.proofs.lemmas.Bool.Decides.{nat_tests}
use Rattle.letter_kinds.specs.Detector.{hear_note}
use Rattle.letter_kinds.specs.Reports.{report_told, kept_report, keep_report, drop_report}
use Rattle.letter_kinds.specs.declared.note.Note.{Note}
use Rattle.letter_kinds.specs.declared.note.Note.TheVariants.{Block, Unblock, Ack}
use Rattle.letter_kinds.specs.declared.note.Report.{Report}
use Rattle.machine_rules.specs.Cell.{Cell}
use Rattle.detector_laws.specs.Reports.{Contradictory, with_block, with_unblock, with_notes, told_by_kept, told_of, IsSilentOn, IsAsTold}
use Rattle.detector_laws.specs.World.{World, hear_in_world, ReportsAreExact}

pub kept_report-keep : (r : Report) (ks : List Report) (a : ℕ) → kept_report (keep_report r ks) a ≡ (if r.actor == a then Some r else kept_report ks a)
kept_report-keep r [] a = refl
kept_report-keep r (k ∷ ks) a = grind (arith, nat_tests, kept_report-keep r ks a)

pub kept_report-drop : (b : ℕ) (ks : List Report) (a : ℕ) → kept_report (drop_report b ks) a ≡ (if b == a then None else kept_report ks a)
kept_report-drop b [] a = grind (arith)
kept_report-drop b (k ∷ ks) a = grind (arith, nat_tests, kept_report-drop b ks a)

pub with_notes-contradictory : (a : ℕ) (ns : List Note) → with_notes a Contradictory ns ≡ Contradictory
with_notes-contradictory a [] = refl
with_notes-contradictory a (Block b count held ∷ ns) = grind (arith, with_notes-contradictory a ns)
with_notes-contradictory a (Unblock b ∷ ns) = grind (arith, with_notes-contradictory a ns)
with_notes-contradictory a (Ack t b ∷ ns) = with_notes-contradictory a ns

not_wrong : (c : Option Cell) (a : ℕ) (ns : List Note) → ¬ IsAsTold c a (with_notes a Contradictory ns)
not_wrong c a ns h = subst (IsAsTold c a) (with_notes-contradictory a ns) h

block_step : (c : Option Cell) (a : ℕ) (r : Report) (ns : List Note) (b : Bool) (o : Option Report)
    → IsAsTold c a (with_notes a (if b then with_block (told_by_kept o) r else told_by_kept o) ns) → IsAsTold c a (with_notes a (told_by_kept (if b then Some r else o)) ns)
block_step c a r ns true None h = h
block_step c a r ns true (Some q) h = absurd (not_wrong c a ns h)
block_step c a r ns false o h = h

unblock_step : (c : Option Cell) (a : ℕ) (ns : List Note) (b : Bool) (o : Option Report)
    → IsAsTold c a (with_notes a (if b then with_unblock (told_by_kept o) else told_by_kept o) ns) → IsAsTold c a (with_notes a (told_by_kept (if b then None else o)) ns)
unblock_step c a ns true None h = absurd (not_wrong c a ns h)
unblock_step c a ns true (Some q) h = h
unblock_step c a ns false o h = h

-- hearing the first note leaves what all the notes tell
told_of-heard : (w : World) (n : Note) (ns : List Note) (a : ℕ) → IsAsTold (w.cell a) a (told_of a w.detector.kept (n ∷ ns)) → IsAsTold (w.cell a) a (told_of a (hear_note n w.detector).kept ns)
told_of-heard w (Block b count held) ns a h =
    let r = report_told b count held in
    subst (λ o. IsAsTold (w.cell a) a (with_notes a (told_by_kept o) ns)) (sym (kept_report-keep r w.detector.kept a))
    (block_step (w.cell a) a r ns (r.actor == a) (kept_report w.detector.kept a) h)
told_of-heard w (Unblock b) ns a h =
    subst (λ o. IsAsTold (w.cell a) a (with_notes a (told_by_kept o) ns)) (sym (kept_report-drop b w.detector.kept a))
    (unblock_step (w.cell a) a ns (b == a) (kept_report w.detector.kept a) h)
told_of-heard w (Ack t b) ns a h = h

pub unmade-heard : (w : World) (n : Note) (ns : List Note) (a : ℕ) → (kept_report w.detector.kept a ≡ None) × IsSilentOn a (n ∷ ns) → (kept_report (hear_note n w.detector).kept a ≡ None) × IsSilentOn a ns
unmade-heard w (Block b count held) ns a h = (grind (arith, nat_tests, kept_report-keep (report_told b count held) w.detector.kept a), h.1.1)
unmade-heard w (Unblock b) ns a h = (grind (arith, nat_tests, kept_report-drop b w.detector.kept a), h.1.1)
unmade-heard w (Ack t b) ns a h = h

pub hear_reports : (w : World) (n : Note) (ns : List Note) → w.notes ≡ n ∷ ns → ReportsAreExact w → ReportsAreExact (hear_in_world w n ns)
hear_reports w n ns e h = record {
  last = λ a. told_of-heard w n ns a (subst (λ l. IsAsTold (w.cell a) a (told_of a w.detector.kept l)) e (h.last a));
  unmade = λ a past. unmade-heard w n ns a (subst (λ l. (kept_report w.detector.kept a ≡ None) × IsSilentOn a l) e (h.unmade a past));
}
