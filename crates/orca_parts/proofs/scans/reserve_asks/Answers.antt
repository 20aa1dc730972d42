use Rattle.std.proofs.Common.{drop, subst, ◌+◌}
use Rattle.std.proofs.lemmas.List.{drop_all}
use Rattle.trace_send.proofs.Steps.{rest_of}
use Rattle.orca_parts.proofs.Reserving.{Reserves, asked_once, reserves_all, reserves_none, reserves_one}
use Rattle.orca_parts.proofs.scans.reserve_asks.Goals as goal

pub loop-member-init : goal.loop-member-init
loop-member-init c = reserves_none c.args.members.now c.args.table.now

pub loop-member-preserved : goal.loop-member-preserved
loop-member-preserved c =
    let members = c.args.members.now in
    let i = c.loop-member.member-index in
    let m = c.member-item.result in
    reserves_one m (drop (i + 1) members) members c.args.table.now c.loop-member.table c.reserve_letters.new.self (asked_once members c.requires)
    (subst (λ ms. Reserves ms members c.args.table.now c.loop-member.table) (rest_of members i m c.loop-member-test.true c.member-item.is) c.loop-member.invariant)
    c.reserve_letters.ensures.same c.in_ok-reserve_letters.ensures.ok

pub returns-clause-ok : goal.returns-clause-ok
returns-clause-ok c =
    let members = c.args.members.now in
    let i = c.loop-member.member-index in
    reserves_all (drop i members) members c.args.table.now c.loop-member.table (drop_all i members c.loop-member-test.false) c.loop-member.invariant
