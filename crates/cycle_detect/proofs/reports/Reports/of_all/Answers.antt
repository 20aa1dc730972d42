use Rattle.std.proofs.Common.{◌∙◌, ◌++◌, ◌∷◌, [], Vec, Global, ap, sym}
use Rattle.std.specs.Option.{option_copied, option_map}
use Rattle.orca_names.specs.declared.kept_report.KeptReport.{KeptReport}
use Rattle.letter_kinds.specs.Detector.{handed_of, handed_out}
use Rattle.cycle_detect.proofs.KeptLemmas.{mapped_more, mapped_none}
use Rattle.cycle_detect.proofs.reports.Reports.of_all.Goals.{in-Some+in_ok-handed_out+in_ok-push, in_default}
use Rattle.cycle_detect.proofs.reports.Reports.of_all.Goals as goal

pub loop-actor-preserved : goal.loop-actor-preserved
loop-actor-preserved c = elim c.match-get.branch [
  | in-Some+in_ok-handed_out+in_ok-push w ↦
      mapped_more (handed_of c.args.self.now.list) c.args.actors.now c.loop-actor.actor-index c.actor-item.result (handed_out w.in-Some.report.now) c.loop-actor.found.items c.match-get.found.items c.loop-actor-test.true c.actor-item.is
      (ap (option_map handed_out) (sym c.get.ensures ∙ ap option_copied w.in-Some.is)) c.loop-actor.invariant
      (ap (λ (v : Vec KeptReport Global). v.items) w.found-is ∙ (w.in_ok-push.ensures.items ∙ ap (λ (r : KeptReport). c.loop-actor.found.items ++ r ∷ []) w.in_ok-handed_out.ensures))
  | in_default w ↦
      mapped_none (handed_of c.args.self.now.list) c.args.actors.now c.loop-actor.actor-index c.actor-item.result c.loop-actor.found.items c.match-get.found.items c.loop-actor-test.true c.actor-item.is
      (ap (option_map handed_out) (sym c.get.ensures ∙ ap option_copied w.in_default.is)) c.loop-actor.invariant (ap (λ (v : Vec KeptReport Global). v.items) w.found-is)
]
