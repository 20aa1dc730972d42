use Rattle.std.proofs.Common.{◌≡◌, ◌++◌, ℕ, List, [], OnOk, ap, map, sym, subst, ◌∙◌, string_bytes}
use Rattle.std.specs.Prelude.{flat_map}
use Rattle.std.specs.Option.{option_map_or}
use Rattle.std.proofs.lemmas.Result.{on_ok_weaker}
use Rattle.letter_kinds.specs.Detector.{token_numbered}
use Rattle.letter_kinds.specs.Reports.{kept_report}
use Rattle.machine_rules.specs.Actors.{seat_at}
use Rattle.picture_rules.specs.Blocked.{detector_lines, report_lines, token_lines}
use Rattle.picture_rules.specs.Parts.{detector_change, report_change, seat_change, token_change}
use Rattle.picture_rules.specs.Seats.{seat_lines}
use Rattle.picture_rules.specs.Words.{text_of_lines}
use Rattle.book_picture.specs.Texts.{AreTexts, touched_changes}
use Rattle.book_picture.proofs.Lists.{four_behind}
use Rattle.book_picture.proofs.changes.push_changes.Goals as goal

pub returns : goal.returns
returns c s t before after =
    let names = t.program.names in
    let token = c.args.touched.now.token in
    let old = string_bytes c.args.out.now in
    let ns = c.as_slice-actors.result.now in
    let same = c.as_slice-actors.ensures.value in
    let b = subst (λ (xs : List ℕ). AreTexts names s xs token c.args.before.now) (sym same) before in
    let a = subst (λ (xs : List ℕ). AreTexts names t xs token c.args.after.now) (sym same) after in
    let seats = c.in_ok-push_seat_changes.ensures (λ x. seat_lines names x (seat_at s.actors x)) (λ x. seat_lines names x (seat_at t.actors x))
    (ap (map string_bytes) c.deref.ensures.value ∙ b.seats) (ap (map string_bytes) c.deref-2.ensures.value ∙ a.seats) in
    let detector = c.in_ok-push_detector_change.ensures (detector_lines s.detector) (detector_lines t.detector)
    (c.deref-3.ensures ∙ b.detector) (c.deref-4.ensures ∙ a.detector) in
    let reports = c.in_ok-push_report_changes.ensures (λ x. report_lines (kept_report s.detector.kept x)) (λ x. report_lines (kept_report t.detector.kept x))
    (ap (map string_bytes) c.deref-5.ensures.value ∙ b.reports) (ap (map string_bytes) c.deref-6.ensures.value ∙ a.reports) in
    let number = c.push_numbered_change.ensures (λ n. token_lines (token_numbered n s.detector)) (λ n. token_lines (token_numbered n t.detector))
    (c.deref-7.ensures ∙ b.numbered) (c.deref-8.ensures ∙ a.numbered) in
    subst (λ (xs : List ℕ). OnOk c.push_numbered_change.result (string_bytes c.push_numbered_change.new.out ≡ old ++ text_of_lines (touched_changes xs token s t))) same
    (on_ok_weaker c.push_numbered_change.result
    (λ last. four_behind (flat_map (λ x. seat_change names x (seat_at s.actors x) (seat_at t.actors x)) ns) (detector_change s.detector t.detector)
    (flat_map (λ x. report_change x (kept_report s.detector.kept x) (kept_report t.detector.kept x)) ns)
    (option_map_or (λ n. token_change n (token_numbered n s.detector) (token_numbered n t.detector)) token []) old _ _ _ _ seats detector reports last)
    number)
