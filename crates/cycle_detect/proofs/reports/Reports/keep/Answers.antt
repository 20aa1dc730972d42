use Rattle.std.proofs.Common.{◌∙◌, ◌<◌, Some, true, ap, arith, length, refl, sym, subst, set}
use Rattle.letter_kinds.specs.Reports.{keep_report}
use Rattle.cycle_detect.specs.Kept.{AreByActor}
use Rattle.cycle_detect.specs.Room.{ReportsValue}
use Rattle.cycle_detect.proofs.KeptLemmas.{by_actor-set, keep-slot}
use Rattle.cycle_detect.proofs.reports.Reports.keep.Goals as goal

pub invariant_of-self : goal.invariant_of-self
invariant_of-self c =
    let slots = c.self.inside.slots.items in
    let n = c.number_of-number.result in
    let within : n < length slots = omega (arith, c.requires, c.number_of-number.ensures, ap (λ (v : ReportsValue). v.actors) c.self.view_is) in
    subst (AreByActor (set slots n (Some c.args.report))) (sym c.put.ensures)
    (by_actor-set slots c.self.inside.kept n (Some c.args.report) true c.self.invariant within (sym c.number_of-number.ensures) refl)

pub returns-clause-list : goal.returns-clause-list
returns-clause-list c =
    let slots = c.self.inside.slots.items in
    let n = c.number_of-number.result in
    let within : n < length slots = omega (arith, c.requires, c.number_of-number.ensures, ap (λ (v : ReportsValue). v.actors) c.self.view_is) in
    keep-slot 0 n c.args.report slots c.self.invariant.named within (omega (arith, c.number_of-number.ensures))
    ∙ ap (λ (v : ReportsValue). keep_report c.args.report v.list) c.self.view_is
