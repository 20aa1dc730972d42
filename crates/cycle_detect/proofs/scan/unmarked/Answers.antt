use Rattle.std.proofs.Common.{◌∙◌, ap, arith}
use Rattle.cycle_detect.proofs.Settled.{unmarked_more, unmarked_same}
use Rattle.cycle_detect.proofs.scan.unmarked.Goals.{then-not-marks-k+in_ok-push, else-not-marks-k}
use Rattle.cycle_detect.proofs.scan.unmarked.Goals as goal

pub loop-k-preserved : goal.loop-k-preserved
loop-k-preserved g c =
    let was = c.loop-k.invariant in
    record {
      found = elim c.if-not-marks-k.branch [
        | then-not-marks-k+in_ok-push w ↦ unmarked_more c.args.names.now c.args.marks.now c.loop-k.k w.index-names-k.result c.loop-k.found.items c.if-not-marks-k.found.items c.requires.rising c.loop-k-test.true w.if-not-marks-k.true w.index-names-k.is was.found (ap (λ v. v.items) w.found-is ∙ w.in_ok-push.ensures.items)
        | else-not-marks-k w ↦ unmarked_same c.args.names.now c.args.marks.now c.loop-k.k c.loop-k.found.items c.if-not-marks-k.found.items c.requires.rising c.loop-k-test.true w.if-not-marks-k.false was.found (ap (λ v. v.items) w.found-is)
      ];
      cost = let t = c.tick.ensures in let w = was.cost in omega arith;
    }
