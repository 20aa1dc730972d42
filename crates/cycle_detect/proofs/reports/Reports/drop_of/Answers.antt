use Rattle.std.proofs.Common.{◌∙◌, ◌+◌, ◌<◌, ◌≤◌, ◌≡◌, None, false, ap, arith, length, refl, sym, subst, set}
use Rattle.letter_kinds.specs.Reports.{drop_report}
use Rattle.cycle_detect.specs.Kept.{AreByActor}
use Rattle.cycle_detect.specs.Room.{ReportsValue}
use Rattle.cycle_detect.proofs.KeptLemmas.{by_actor-set, drop-past, drop-slot}
use Rattle.cycle_detect.proofs.reports.Reports.drop_of.Goals as goal

pub invariant_of-self : goal.invariant_of-self
invariant_of-self c =
    let slots = c.self.inside.slots.items in
    let n = c.number_of-number.result in
    let within : n < length slots = omega (arith, c.if-number-len.true, c.len.ensures, c.self.inside.slots.ok.0) in
    subst (AreByActor (set slots n None)) (sym c.put.ensures)
    (by_actor-set slots c.self.inside.kept n None false c.self.invariant within tt refl)

pub returns-then-number-len-clause-list : goal.returns-then-number-len-clause-list
returns-then-number-len-clause-list c =
    drop-slot 0 c.number_of-number.result c.args.actor c.self.inside.slots.items c.self.invariant.named (omega (arith, c.number_of-number.ensures))
    ∙ ap (λ (v : ReportsValue). drop_report c.args.actor v.list) c.self.view_is

pub returns-else-number-len-clause-list : goal.returns-else-number-len-clause-list
returns-else-number-len-clause-list c =
    let slots = c.self.inside.slots.items in
    let past : 0 + length slots ≤ c.args.actor = omega (arith, c.if-number-len.false, c.len.ensures, c.number_of-number.ensures, c.self.inside.slots.ok.0) in
    subst (λ (v : ReportsValue). v.list ≡ drop_report c.args.actor v.list) c.self.view_is (sym (drop-past 0 c.args.actor slots c.self.invariant.named past))
