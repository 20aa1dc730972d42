use Rattle.std.proofs.Common.{◌∙◌, ◌+◌, ◌-◌, ◌≤◌, ap, arith, length}
use Rattle.cycle_detect.specs.Room.{ReportsValue}
use Rattle.cycle_detect.proofs.KeptLemmas.{by_actor-later, reports-later}
use Rattle.cycle_detect.proofs.reports.Reports.reserve.Goals as goal

pub invariant_of-self-2 : goal.invariant_of-self-2
invariant_of-self-2 c =
    let slots = c.self.inside.slots.items in
    let count = c.number_of.result + 1 in
    let some : length slots ≤ count = omega (arith, c.if-count-len.false, c.len.ensures, c.self.inside.slots.ok.0) in
    by_actor-later c.lengthen.result slots c.lengthen.new.slots.items c.self.inside.kept c.widen.new.kept count c.self.invariant c.in_ok-widen.ensures.same
    c.in_ok-widen.ensures.longer c.in_ok-widen.ensures.ok c.if-count-gt-PLACES_LIMIT.false some c.lengthen.ensures.ok c.lengthen.ensures.err

pub returns-clause-list : goal.returns-clause-list
returns-clause-list c =
    let slots = c.self.inside.slots.items in
    reports-later c.lengthen.result slots c.lengthen.new.slots.items (c.number_of.result + 1 - length slots) c.lengthen.ensures.ok c.lengthen.ensures.err
    ∙ ap (λ (v : ReportsValue). v.list) c.self.view_is
