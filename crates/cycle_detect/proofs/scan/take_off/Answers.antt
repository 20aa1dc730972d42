use Rattle.std.proofs.Common.{◌∙◌, map, get_or, length, set, true, arith, ap}
use Rattle.cycle_detect.proofs.Falls.{held_left-set, length-actors, on_ok_one, popped_again, popped_off, without_one}
use Rattle.cycle_detect.proofs.Sums.{length-names, report_of_place}
use Rattle.cycle_detect.proofs.scan.take_off.Goals as goal

pub returns-then-off-i-clause-falling : goal.returns-then-off-i-clause-falling
returns-then-off-i-clause-falling g c = popped_again _ _ c.args.off.now c.args.standing.now.out.items c.args.standing.now.told.items c.args.standing.now.work.items c.args.i c.requires.falling c.if-off-i.true

pub take_told-requires-clause-enough : goal.take_told-requires-clause-enough
take_told-requires-clause-enough g c = λ k lt.
    let long = length-names (λ r. r.now) c.args.reports.now c.args.names.now c.requires.names in
    let place = report_of_place (λ r. r.now) c.args.reports.now c.args.i c.index-reports-i.result c.index-reports-i.result.now (let p = c.requires.place in omega arith) c.index-reports-i.is in
    let one = without_one _ c.args.names.now c.requires.names c.args.off.now c.args.i (get_or c.args.names.now k 0) c.index-reports-i.result.now c.requires.rising c.requires.place.1 c.requires.place.0 c.if-off-i.false place in
    let told = c.requires.told k lt in
    omega arith

pub returns-clause-falling : goal.returns-clause-falling
returns-clause-falling g c =
    let long = length-names (λ r. r.now) c.args.reports.now c.args.names.now c.requires.names in
    let place = report_of_place (λ r. r.now) c.args.reports.now c.args.i c.index-reports-i.result c.index-reports-i.result.now (let p = c.requires.place in omega arith) c.index-reports-i.is in
    on_ok_one c.take_told.result (λ falling. falling (set c.args.off.now c.args.i true)
    (popped_off _ _ c.args.off.now c.args.standing.now.out.items c.args.standing.now.told.items c.args.standing.now.work.items c.args.i c.requires.falling (let p = c.requires.place in omega arith))
    (λ k lt.
    let one = without_one _ c.args.names.now c.requires.names c.args.off.now c.args.i (get_or c.args.names.now k 0) c.index-reports-i.result.now c.requires.rising c.requires.place.1 c.requires.place.0 c.if-off-i.false place in
    let told = c.requires.told k lt in
    omega arith))
    c.take_told.ensures.falling

pub returns-clause-told : goal.returns-clause-told
returns-clause-told g c =
    let long = length-names (λ r. r.now) c.args.reports.now c.args.names.now c.requires.names in
    let place = report_of_place (λ r. r.now) c.args.reports.now c.args.i c.index-reports-i.result c.index-reports-i.result.now (let p = c.requires.place in omega arith) c.index-reports-i.is in
    on_ok_one c.take_told.result (λ lowered k lt.
    let one = without_one _ c.args.names.now c.requires.names c.args.off.now c.args.i (get_or c.args.names.now k 0) c.index-reports-i.result.now c.requires.rising c.requires.place.1 c.requires.place.0 c.if-off-i.false place in
    let told = c.requires.told k lt in
    let low = lowered k lt in
    omega arith)
    c.take_told.ensures.lowered

pub returns-clause-cost : goal.returns-clause-cost
returns-clause-cost g c =
    let long = length-names (λ r. r.now) c.args.reports.now c.args.names.now c.requires.names in
    let place = report_of_place (λ r. r.now) c.args.reports.now c.args.i c.index-reports-i.result c.index-reports-i.result.now (let p = c.requires.place in omega arith) c.index-reports-i.is in
    let rs = ap length c.requires.names ∙ length-actors _ in
    let left = held_left-set (map (λ r. r.now) c.args.reports.now) c.args.off.now c.args.i c.index-reports-i.result.now (let p = c.requires.place in omega arith) (let p = c.requires.place in omega arith) c.if-off-i.false place in
    let cost = c.take_told.ensures.cost in
    omega arith
