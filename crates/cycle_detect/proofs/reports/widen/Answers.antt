use Rattle.std.proofs.Common.{◌∙◌, ap, arith, false, get_or, length, length-append, replicate}
use Rattle.cycle_detect.proofs.KeptLemmas.{place-more}
use Rattle.cycle_detect.proofs.reports.widen.Goals as goal

pub loop-kept-preserved : goal.loop-kept-preserved
loop-kept-preserved c =
    let kept = c.loop-kept.kept in
    let grown = c.in_ok-grow.ensures.ok in
    record {
      same = λ k. ap (λ ons. get_or ons k false) grown ∙ (place-more 64 k kept ∙ c.loop-kept.invariant.same k);
      longer = omega (arith, ap length grown, length-append kept (replicate 64 false), c.loop-kept.invariant.longer);
    }
