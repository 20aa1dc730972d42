-- What changes from one state to another is what changes of the parts that were touched.
use Rattle.std.proofs.Common.{◌≡◌, ◌≢◌, ℕ, max, false, List, [], ◌∷◌, ◌++◌, length, Option, Some, None, refl, sym, ap, ◌∙◌, arith}
use Rattle.std.specs.List.Sorted.{IsStrictlySortedBy}
use Rattle.std.specs.Option.{option_map_or}
use Rattle.std.specs.Ordering.{nat_cmp}
use Rattle.std.specs.Prelude.{codes, flat_map}
use Rattle.std.specs.Fmt.{decimal}
use Rattle.std.proofs.lemmas.List.{append-nil, get_or_past}
use Rattle.std.proofs.lemmas.Option.{none-some}
use Rattle.letter_kinds.specs.Detector.{has, token_numbered}
use Rattle.letter_kinds.specs.Reports.{kept_report}
use Rattle.detector_tokens.proofs.RisingLemmas.{none_rise, rising-cons}
use Rattle.machine_rules.specs.Actors.{seat_at}
use Rattle.machine_rules.specs.State.{State}
use Rattle.picture_rules.specs.Blocked.{report_lines, token_lines}
use Rattle.picture_rules.specs.Parts.{above, changes, detector_change, report_change, report_changes, reporters, seat_change, seat_changes, token_change, token_changes, token_numbers}
use Rattle.picture_rules.specs.Seats.{seat_lines}
use Rattle.picture_rules.specs.Words.{Line}
use Rattle.picture_laws.proofs.Cover.{above_behind, above_front, none_kept, none_open}
use Rattle.picture_laws.proofs.Touched.{kept_tell_nothing, touched_tell_all}
use Rattle.book_picture.specs.Leaving.{LeavesOthers}
use Rattle.book_picture.proofs.Seats.{not_one}

-- the number as a list
abbrev listed : Option ℕ → List ℕ
listed token = option_map_or (λ n. n ∷ []) token []

listed_rises : (token : Option ℕ) → IsStrictlySortedBy nat_cmp (listed token)
listed_rises None = none_rise
listed_rises (Some n) = rising-cons n [] tt none_rise

listed_other : (token : Option ℕ) (n : ℕ) → has (listed token) n ≡ false → token ≢ Some n
listed_other None n out same = none-some n same
listed_other (Some k) n out same = let is : k ≡ n = cc in not_one k n out (sym is)

listed_told : (f : ℕ → List Line) (token : Option ℕ) → flat_map f (listed token) ≡ option_map_or f token []
listed_told f None = refl
listed_told f (Some n) = append-nil (f n)

module _ (s t : State) where
  abbrev seat_told : ℕ → List Line
  seat_told a = seat_change t.program.names a (seat_at s.actors a) (seat_at t.actors a)

  abbrev report_told : ℕ → List Line
  report_told a = report_change a (kept_report s.detector.kept a) (kept_report t.detector.kept a)

  abbrev token_told : ℕ → List Line
  token_told n = token_change n (token_numbered n s.detector) (token_numbered n t.detector)

  -- ---- of what is as before nothing is told

  same_seat : (a : ℕ) → seat_at t.actors a ≡ seat_at s.actors a → seat_told a ≡ []
  same_seat a same =
      ap (seat_change t.program.names a (seat_at s.actors a)) same
      ∙ kept_tell_nothing (codes "gone" ∷ decimal a ∷ []) (seat_lines t.program.names a (seat_at s.actors a))

  same_report : (a : ℕ) → kept_report t.detector.kept a ≡ kept_report s.detector.kept a → report_told a ≡ []
  same_report a same =
      ap (report_change a (kept_report s.detector.kept a)) same
      ∙ kept_tell_nothing (codes "withdrawn" ∷ decimal a ∷ []) (report_lines (kept_report s.detector.kept a))

  same_token : (n : ℕ) → token_numbered n t.detector ≡ token_numbered n s.detector → token_told n ≡ []
  same_token n same =
      ap (token_change n (token_numbered n s.detector)) same
      ∙ kept_tell_nothing (codes "closed" ∷ decimal n ∷ []) (token_lines (token_numbered n s.detector))

  -- ---- what is touched tells all

  module _ (actors ns : List ℕ) (token : Option ℕ) (rise : IsStrictlySortedBy nat_cmp ns) (same : (a : ℕ) → has ns a ≡ has actors a)
      (leaves : LeavesOthers actors token s t) where
    seats_are : seat_changes s t ≡ flat_map seat_told ns
    seats_are =
        touched_tell_all seat_told (max (length s.actors) (length t.actors)) ns rise
        (λ a past. same_seat a
        (get_or_past t.actors a None (omega (arith, past)) ∙ sym (get_or_past s.actors a None (omega (arith, past)))))
        (λ a out. same_seat a (leaves.seats a (sym (same a) ∙ out)))

    reports_are : report_changes s.detector t.detector ≡ flat_map report_told ns
    reports_are =
        let old = reporters s.detector in
        let new = reporters t.detector in
        touched_tell_all report_told (above (old ++ new)) ns rise
        (λ a past. same_report a
        (none_kept t.detector.kept a (omega (arith, above_behind old new, past))
        ∙ sym (none_kept s.detector.kept a (omega (arith, above_front old new, past)))))
        (λ a out. same_report a (leaves.reports a (sym (same a) ∙ out)))

    tokens_are : token_changes s.detector t.detector ≡ option_map_or token_told token []
    tokens_are =
        let old = token_numbers s.detector in
        let new = token_numbers t.detector in
        touched_tell_all token_told (above (old ++ new)) (listed token) (listed_rises token)
        (λ n past. same_token n
        (none_open t.detector.tokens n (omega (arith, above_behind old new, past))
        ∙ sym (none_open s.detector.tokens n (omega (arith, above_front old new, past)))))
        (λ n out. same_token n (leaves.tokens n (listed_other token n out)))
        ∙ listed_told token_told token

    pub changes_are : changes s t
        ≡ flat_map seat_told ns ++ detector_change s.detector t.detector ++ flat_map report_told ns ++ option_map_or token_told token []
    changes_are = λ i. seats_are i ++ detector_change s.detector t.detector ++ reports_are i ++ tokens_are i
