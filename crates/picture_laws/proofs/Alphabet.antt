-- A picture has bytes of the alphabet alone.
use Rattle.std.proofs.Common.{◌≡◌, ℕ, Bool, true, false, List, [], ◌∷◌, ◌++◌, map, max, length, if◌then◌else◌, refl, sym, subst}
use Rattle.std.specs.Prelude.{bytes_eq, codes}
use Rattle.std.specs.Fmt.{decimal}
use Rattle.std.specs.List.{list_all}
use Rattle.orca_names.specs.declared.trace.Trace.{Trace}
use Rattle.orca_names.specs.declared.trace.Trace.TheVariants.{Deep, Roots}
use Rattle.behaviour_code.specs.declared.code.Program.{Program}
use Rattle.behaviour_text.specs.Text.{canonical}
use Rattle.event_rule.specs.Events.{event_text}
use Rattle.event_rule.specs.declared.event.Event.{Event}
use Rattle.letter_kinds.specs.Detector.{token_numbered}
use Rattle.letter_kinds.specs.Reports.{kept_report}
use Rattle.machine_rules.proofs.Stepping.{step_of}
use Rattle.machine_rules.specs.Actors.{seat_at}
use Rattle.machine_rules.specs.Options.{Options}
use Rattle.machine_rules.specs.State.{State, first_state}
use Rattle.text_lines.specs.Lines.{lines_of}
use Rattle.picture_rules.specs.Blocked.{detector_lines, note_line, report_lines, token_lines}
use Rattle.picture_rules.specs.Parts.{above, changes, numbers_below, or_gone, part_change, report_change, reporters, seat_change, state_lines, token_change, token_numbers}
use Rattle.picture_rules.specs.Pictures.{Tell, end_line, entry_lines, head_lines, option_lines, posted, print_line, printed, text_line, trace_word}
use Rattle.picture_rules.specs.Seats.{seat_lines}
use Rattle.picture_rules.specs.Words.{Line, text_of_lines, value_word}
use Rattle.picture_laws.specs.Alphabet.{HasShownBytes, is_shown}
use Rattle.picture_laws.proofs.Bytes.{IsWord, Pass, all_append, all_cons, all_flat, all_map, are_words, decimal_word, next_word, no_words, said, value_is}
use Rattle.picture_laws.proofs.Kept.{program_kept}
use Rattle.picture_laws.proofs.Lines.{AreLines, TextsAre, detector_are, no_lines, note_is, report_are, seat_are, token_are}
use Rattle.picture_laws.proofs.Names.{names_are}
use Rattle.picture_laws.proofs.Program.{canonical_shown, lines_all}
use Rattle.picture_laws.proofs.Shown.{AreShown, IsShown, event_shown, first_passes, line_shown, lines_shown, others_pass, text_bytes, word_shown}

-- ---- changes

unless : (b : Bool) (ls : List Line) → AreLines ls → AreLines (if b then [] else ls)
unless true ls h = no_lines
unless false ls h = h

or_gone_are : (gone : Line) (ls : List Line) → are_words gone ≡ true → AreLines ls → AreLines (or_gone gone ls)
or_gone_are gone [] h k = all_cons h no_lines
or_gone_are gone (l ∷ ls) h k = k

part_are : (gone : Line) (before after : List Line) → are_words gone ≡ true → AreLines after → AreLines (part_change gone before after)
part_are gone before after h k = unless (bytes_eq (text_of_lines before) (text_of_lines after)) (or_gone gone after) (or_gone_are gone after h k)

gone_is : (w : List ℕ) (n : ℕ) → IsWord w → are_words (w ∷ decimal n ∷ []) ≡ true
gone_is w n h = (next_word h (next_word (decimal_word n) no_words)).all

module _ (s t : State) (ok : TextsAre t.program.names) where
  seat_change_are : (a : ℕ) → AreLines (seat_change t.program.names a (seat_at s.actors a) (seat_at t.actors a))
  seat_change_are a = part_are _ _ _ (gone_is (codes "gone") a (said refl)) (seat_are t.program.names ok a (seat_at t.actors a))

  report_change_are : (a : ℕ) → AreLines (report_change a (kept_report s.detector.kept a) (kept_report t.detector.kept a))
  report_change_are a = part_are _ _ _ (gone_is (codes "withdrawn") a (said refl)) (report_are (kept_report t.detector.kept a))

  token_change_are : (n : ℕ) → AreLines (token_change n (token_numbered n s.detector) (token_numbered n t.detector))
  token_change_are n = part_are _ _ _ (gone_is (codes "closed") n (said refl)) (token_are (token_numbered n t.detector))

  changes_are : AreLines (changes s t)
  changes_are =
      all_append (all_append (all_append (all_flat (λ a. seat_change t.program.names a (seat_at s.actors a) (seat_at t.actors a)) (numbers_below (max (length s.actors) (length t.actors))) seat_change_are)
      (unless (bytes_eq (text_of_lines (detector_lines s.detector)) (text_of_lines (detector_lines t.detector))) (detector_lines t.detector) (detector_are t.detector)))
      (all_flat (λ a. report_change a (kept_report s.detector.kept a) (kept_report t.detector.kept a)) (numbers_below (above (reporters s.detector ++ reporters t.detector))) report_change_are))
      (all_flat (λ n. token_change n (token_numbered n s.detector) (token_numbered n t.detector)) (numbers_below (above (token_numbers s.detector ++ token_numbers t.detector))) token_change_are)

state_are : (s : State) → TextsAre s.program.names → AreLines (state_lines s)
state_are s ok =
    all_append (all_append (all_append
    (all_flat (λ a. seat_lines s.program.names a (seat_at s.actors a)) (numbers_below (length s.actors)) (λ a. seat_are s.program.names ok a (seat_at s.actors a)))
    (detector_are s.detector))
    (all_flat (λ a. report_lines (kept_report s.detector.kept a)) (numbers_below (above (reporters s.detector))) (λ a. report_are (kept_report s.detector.kept a))))
    (all_flat (λ n. token_lines (token_numbered n s.detector)) (numbers_below (above (token_numbers s.detector))) (λ n. token_are (token_numbered n s.detector)))

-- ---- entries

two_shown : (w v : List ℕ) → IsShown w → IsShown v → line_shown (w ∷ v ∷ []) ≡ true
two_shown w v h k = (all_cons {p = list_all is_shown} {x = w} {xs = v ∷ []} h.all (all_cons k.all (said refl))).all

entry_shown : (e : Event) (s t : State) → TextsAre t.program.names → AreShown (entry_lines e s t)
entry_shown e s t ok =
    all_cons (two_shown (codes "entry") (event_text e) (said refl) (event_shown e))
    (all_append (all_append (all_map print_line (printed s t) (λ v. two_shown (codes "print") (value_word v) (said refl) (word_shown (value_is v))))
    (lines_shown (all_map note_line (posted e s t) note_is)))
    (lines_shown (changes_are s t ok)))

told_shown : (s t : State) (book : List Event) (lines : List Line) → TextsAre s.program.names → Tell s book t lines → AreShown lines
told_shown s t [] lines ok told = subst AreShown (sym told.1) (said refl)
told_shown s t (e ∷ book) lines ok told =
    let u = told.0 in
    let same = program_kept (step_of s u e told.2) in
    let fine = subst (λ (p : Program). TextsAre p.names) (sym same) ok in
    subst AreShown (sym told.3)
    (all_append (entry_shown e s u fine) (told_shown u t book told.1 fine told.4))

-- ---- the whole

trace_is : (trace : Trace) → IsShown (trace_word trace)
trace_is Deep = said refl
trace_is Roots = said refl

options_shown : (o : Options) → AreShown (option_lines o)
options_shown o =
    all_cons refl
    (all_cons (two_shown (codes "weight") (decimal o.weight) (said refl) (word_shown (decimal_word o.weight)))
    (all_cons (two_shown (codes "trace") (trace_word o.trace) (said refl) (trace_is o.trace)) (said refl)))

texts_shown : (ls : List (List ℕ)) → Pass (list_all is_shown) ls → AreShown (map text_line ls)
texts_shown [] h = said refl
texts_shown (l ∷ ls) h = all_cons (two_shown (codes "text") l (said refl) (said (first_passes h))) (texts_shown ls (others_pass h))

end_shown : (b : Bool) → AreShown (end_line b ∷ [])
end_shown true = said refl
end_shown false = said refl

pub shown : HasShownBytes
shown program options book t bytes well picture =
    let ok = names_are program well in
    let start = first_state program options in
    let head = all_append (options_shown options) (texts_shown (lines_of (canonical program)) (lines_all is_shown (canonical program) (canonical_shown program ok))) in
    let whole = all_append (all_append (all_append head (lines_shown (state_are start ok))) (told_shown start t book picture.entries ok picture.told)) (end_shown picture.is_quiet) in
    (subst IsShown (sym picture.whole) (text_bytes (head_lines program options ++ state_lines start ++ picture.entries ++ end_line picture.is_quiet ∷ []) whole)).all
