use Rattle.std.proofs.Common.{◌<◌, length, ap, get_or, arith}
use Rattle.cycle_detect.proofs.Falls.{check_size, on_ok, on_ok_two, take_falls}
use Rattle.detector_tokens.proofs.RisingLemmas.{place_is}
use Rattle.cycle_detect.proofs.Sums.{count_of, entry_taken, left_value, length-names}
use Rattle.cycle_detect.proofs.scan.take_entry.Goals as goal

pub returns-clause-lowered : goal.returns-clause-lowered
returns-clause-lowered g c =
    let other = c.in-Some.ensures.other in
    let left = left_value c.args.names.now c.args.standing.now.told.items c.args.entry c.args.teller c.in-Some.k c.index_mut.result.now c.from.result c.requires.rising c.requires.long.0 other c.in-Some.ensures.some c.index_mut.ensures.value c.from.ensures c.requires.enough in
    on_ok c.check.result (rw c.check.ensures.told (entry_taken c.args.names.now c.args.standing.now.told.items c.args.entry c.args.teller c.in-Some.k _ c.requires.rising c.requires.long.0 other c.in-Some.ensures.some left))

pub returns-clause-falling : goal.returns-clause-falling
returns-clause-falling g c =
    let other = c.in-Some.ensures.other in
    let left = left_value c.args.names.now c.args.standing.now.told.items c.args.entry c.args.teller c.in-Some.k c.index_mut.result.now c.from.result c.requires.rising c.requires.long.0 other c.in-Some.ensures.some c.index_mut.ensures.value c.from.ensures c.requires.enough in
    let p = place_is c.args.names.now c.in-Some.k c.args.entry.0 c.in-Some.ensures.some in
    let within : c.in-Some.k < length c.args.reports.now = (let l = length-names (λ r. r.now) c.args.reports.now c.args.names.now c.requires.names in omega arith) in
    on_ok_two c.check.result (λ one two off h floor.
    rw c.check.ensures.told (take_falls _ c.args.names.now c.requires.names c.args.entry c.args.teller c.in-Some.k _ off c.args.standing.now.out.items c.check.new.standing.out.items c.args.standing.now.told.items c.args.standing.now.work.items c.check.new.standing.work.items
    (get_or c.args.reports.now c.in-Some.k c.index-reports-k.result).now.count c.requires.rising c.requires.long.0 other c.in-Some.ensures.some left (count_of (λ r. r.now) c.args.reports.now c.in-Some.k (get_or c.args.reports.now c.in-Some.k c.index-reports-k.result) within (ap (get_or c.args.reports.now c.in-Some.k) c.index-reports-k.is)) one two c.index-reports-k.result.now h floor))
    c.check.ensures.stays c.check.ensures.falls

pub returns-clause-size : goal.returns-clause-size
returns-clause-size g c =
    let p = place_is c.args.names.now c.in-Some.k c.args.entry.0 c.in-Some.ensures.some in
    let long = c.requires.long in
    on_ok_two c.check.result (λ one two. check_size c.args.standing.now.out.items c.check.new.standing.out.items c.args.standing.now.work.items c.check.new.standing.work.items c.in-Some.k (get_or c.args.reports.now c.in-Some.k c.index-reports-k.result).now.count _ (omega arith) one two)
    c.check.ensures.stays c.check.ensures.falls
