use Rattle.std.proofs.Common.{◌∙◌, ◌<◌, ◌≤◌, ◌≡◌, None, arith, length, subst, sym}
use Rattle.std.proofs.lemmas.List.{get_or_past, get_or_read}
use Rattle.std.specs.Option.{option_copied}
use Rattle.letter_kinds.specs.Reports.{kept_report}
use Rattle.cycle_detect.specs.Room.{ReportsValue}
use Rattle.cycle_detect.proofs.KeptLemmas.{kept-slot}
use Rattle.cycle_detect.proofs.reports.Reports.get.Goals as goal

pub returns-then-number-len : goal.returns-then-number-len
returns-then-number-len c =
    let slots = c.self.inside.slots.items in
    let n = c.number_of-number.result in
    let past : length slots ≤ n = omega (arith, c.if-number-len.true, c.len.ensures, c.self.inside.slots.ok.0) in
    subst (λ (v : ReportsValue). None ≡ kept_report v.list c.args.actor) c.self.view_is
    (sym (kept-slot 0 n c.args.actor slots c.self.invariant.named (omega (arith, c.number_of-number.ensures)) ∙ get_or_past slots n None past))

pub returns : goal.returns
returns c =
    let slots = c.self.inside.slots.items in
    let n = c.number_of-number.result in
    let within : n < length slots = omega (arith, c.if-number-len.false, c.len.ensures, c.self.inside.slots.ok.0) in
    subst (λ (v : ReportsValue). option_copied c.as_ref.result ≡ kept_report v.list c.args.actor) c.self.view_is
    (c.as_ref.ensures.value ∙ (get_or_read slots n c.index.result.now within c.index.ensures None
    ∙ sym (kept-slot 0 n c.args.actor slots c.self.invariant.named (omega (arith, c.number_of-number.ensures)))))
