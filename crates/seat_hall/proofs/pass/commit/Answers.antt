use Rattle.std.proofs.Common.{rules, ◌≡◌, subst}
use Rattle.seat_hall.specs.Passes.{GetsTurn}
use Rattle.seat_hall.proofs.Commits.{commit_may, commits}
use Rattle.seat_hall.proofs.Turns.{claim_now}
use Rattle.seat_hall.proofs.pass.commit.Goals as goal

pub commit-answer-requires-clause-claim : goal.commit-answer-requires-clause-claim
commit-answer-requires-clause-claim g c =
    let n = c.args.number in let old = c.args.seat.now in let mid = c.turn-hall.new.seat in
    let h = c.deref_mut.result.now in let is : c.turn-hall.result ≡ h = search rules in
    let turn = subst (GetsTurn c.args.log.now n old mid) is c.turn-hall.ensures in
    claim_now n old mid mid h turn.at c.args.task c.requires.may

pub write_back-requires-clause-may : goal.write_back-requires-clause-may
write_back-requires-clause-may g c =
    let n = c.args.number in let old = c.args.seat.now in let mid = c.turn-hall.new.seat in
    let h = c.deref_mut.result.now in let is : c.turn-hall.result ≡ h = search rules in
    let turn = subst (GetsTurn c.args.log.now n old mid) is c.turn-hall.ensures in
    let taken = c.args.task.taken in
    commit_may n taken.cell.heap.owner old mid h turn.at taken.event taken.cell taken.its c.requires.may.has c.commit-answer.result
    c.commit-answer.new.self c.commit-answer.ensures

pub returns : goal.returns
returns g c =
    let n = c.args.number in let old = c.args.seat.now in let mid = c.turn-hall.new.seat in
    let h = c.deref_mut.result.now in let is : c.turn-hall.result ≡ h = search rules in
    let turn = subst (GetsTurn c.args.log.now n old mid) is c.turn-hall.ensures in let taken = c.args.task.taken in
    let told = commits n taken.cell.heap.owner old mid h turn.at taken.event taken.cell taken.its c.requires.may.has c.args.log.now
    c.write_back.new.seat turn c.commit-answer.new.self c.write_back.ensures c.commit-answer.result c.commit-answer.ensures in record {
      stays = told.stays;
      out = told.less;
      ok = told.ok;
      refused = told.refused;
    }
