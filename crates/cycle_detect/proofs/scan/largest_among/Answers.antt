use Rattle.std.proofs.Common.{◌∙◌, ap, length}
use Rattle.cycle_detect.specs.Falling.{held_left}
use Rattle.cycle_detect.specs.Kept.{reports_at}
use Rattle.cycle_detect.proofs.Falls.{held_left-none}
use Rattle.cycle_detect.proofs.Settled.{if_ok_one, standing_actors, steps_all, steps_settled, told_at_first}
use Rattle.cycle_detect.proofs.Sums.{length-names}
use Rattle.cycle_detect.proofs.scan.largest_among.Goals as goal

pub settle-requires-clause-told : goal.settle-requires-clause-told
settle-requires-clause-told g c =
    told_at_first _ c.args.names.now c.deref_mut.result.now c.first_falls.new.standing.told.items c.in_ok-told.told.items
    (c.deref_mut.ensures.value ∙ c.in_ok-off.ensures.items_if_clones_equal (λ y e. e)) c.first_falls.ensures.told c.in_ok-told.ensures.told

pub returns-in_err-settle-clause-cost : goal.returns-in_err-settle-clause-cost
returns-in_err-settle-clause-cost g c =
    steps_settled _ _ _ _ _ _ _ _ _ c.sums_told.ensures.cost c.first_falls.ensures.cost c.in_ok-first_falls.ensures.size c.settle.ensures.cost
    (ap (held_left (reports_at c.args.reports.now)) (c.deref_mut.ensures.value ∙ c.in_ok-off.ensures.items_if_clones_equal (λ y e. e)) ∙ held_left-none (reports_at c.args.reports.now) (length c.args.names.now))
    (length-names (λ r. r.now) c.args.reports.now c.args.names.now c.requires.names)

pub returns-clause-found : goal.returns-clause-found
returns-clause-found g c =
    if_ok_one c.unmarked.result _ _ (λ v f. standing_actors _ c.args.names.now c.settle.new.standing.out.items v.items c.requires.names c.in_ok-settle.ensures.settled (rw c.deref.ensures.value at f)) c.unmarked.ensures.found

pub returns-clause-cost : goal.returns-clause-cost
returns-clause-cost g c =
    steps_all _ _ _ _ _ _ _ _ _ _ c.sums_told.ensures.cost c.first_falls.ensures.cost c.in_ok-first_falls.ensures.size c.settle.ensures.cost
    (ap (held_left (reports_at c.args.reports.now)) (c.deref_mut.ensures.value ∙ c.in_ok-off.ensures.items_if_clones_equal (λ y e. e)) ∙ held_left-none (reports_at c.args.reports.now) (length c.args.names.now))
    (length-names (λ r. r.now) c.args.reports.now c.args.names.now c.requires.names)
    c.unmarked.ensures.cost
