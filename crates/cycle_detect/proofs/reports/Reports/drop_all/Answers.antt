use Rattle.std.proofs.Common.{◌∙◌, ap, refl}
use Rattle.letter_kinds.specs.Reports.{drop_report}
use Rattle.cycle_detect.proofs.Closing.{dropped_none, dropped_step}
use Rattle.cycle_detect.proofs.reports.Reports.drop_all.Goals as goal

pub loop-actor-init : goal.loop-actor-init
loop-actor-init c = record { list = dropped_none c.args.self.now.list; actors = refl }

pub loop-actor-preserved : goal.loop-actor-preserved
loop-actor-preserved c =
    let list = c.drop_of.ensures.list ∙ (ap (drop_report c.actor-item.result) c.loop-actor.invariant.list
    ∙ dropped_step c.args.self.now.list c.args.actors.now c.loop-actor.actor-index c.actor-item.result c.loop-actor-test.true c.actor-item.is) in
    record { list = list; actors = c.drop_of.ensures.actors ∙ c.loop-actor.invariant.actors }
