use Rattle.std.proofs.Common.{◌∙◌, ◌<◌, ap, refl, get_or, length, arith}
use Rattle.cycle_detect.proofs.Falls.{check_size, length-actors, looked, none_falling, none_size}
use Rattle.cycle_detect.proofs.Sums.{count_of, length-names}
use Rattle.cycle_detect.proofs.scan.first_falls.Goals as goal

pub loop-k-init : goal.loop-k-init
loop-k-init g c =
    let names-long = ap length c.requires.names ∙ length-actors _ in
    record {
      told = refl;
      falling = none_falling _ (length c.args.names.now) c.args.standing.now.out.items c.args.standing.now.told.items c.args.standing.now.work.items (c.requires.long ∙ names-long) names-long c.requires.none c.requires.no_work;
      size = none_size (length c.args.names.now) c.args.standing.now.out.items c.args.standing.now.work.items c.requires.none c.requires.no_work;
      cost = omega arith;
    }

pub loop-k-preserved : goal.loop-k-preserved
loop-k-preserved g c =
    let was = c.loop-k.invariant in
    let is = c.in_ok-check.ensures in
    let within : c.loop-k.k < length c.args.names.now = (let l = length-names (λ r. r.now) c.args.reports.now c.args.names.now c.requires.names in let lt = c.loop-k-test.true in omega arith) in
    let count = count_of (λ r. r.now) c.args.reports.now c.loop-k.k (get_or c.args.reports.now c.loop-k.k c.index-reports-k.result) c.loop-k-test.true (ap (get_or c.args.reports.now c.loop-k.k) c.index-reports-k.is) in
    record {
      told = is.told ∙ was.told;
      falling = looked _ c.args.names.now c.requires.names c.loop-k.k _ c.loop-k.standing.out.items c.check.new.standing.out.items c.loop-k.standing.told.items c.check.new.standing.told.items c.loop-k.standing.work.items c.check.new.standing.work.items
          (get_or c.args.reports.now c.loop-k.k c.index-reports-k.result).now.count c.requires.rising within is.told refl count (λ j lt. ap (λ ss. get_or ss j 0) was.told ∙ c.requires.told j lt) is.stays is.falls c.index-reports-k.result.now was.falling;
      size = check_size c.loop-k.standing.out.items c.check.new.standing.out.items c.loop-k.standing.work.items c.check.new.standing.work.items c.loop-k.k (get_or c.args.reports.now c.loop-k.k c.index-reports-k.result).now.count _ (let f = was.falling in let l = f.long_out in let m = ap length c.requires.names ∙ length-actors _ in omega arith) is.stays is.falls ∙ was.size;
      cost = let t = c.tick.ensures in let w = was.cost in omega arith;
    }
