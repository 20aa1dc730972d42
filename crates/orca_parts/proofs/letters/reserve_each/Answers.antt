use Rattle.std.proofs.Common.{ap, drop, subst, ◌+◌}
use Rattle.std.proofs.lemmas.List.{drop_all}
use Rattle.trace_send.proofs.Steps.{rest_of}
use Rattle.orca_parts.specs.Touched.{receivers}
use Rattle.orca_parts.proofs.Reserving.{Reserves, reserves_all, reserves_none, reserves_one}
use Rattle.orca_parts.proofs.letters.reserve_each.Goals as goal

pub loop-group-init : goal.loop-group-init
loop-group-init c = reserves_none (receivers c.args.groups.now) c.args.table.now

pub loop-group-preserved : goal.loop-group-preserved
loop-group-preserved c =
    let groups = c.args.groups.now in
    let i = c.loop-group.group-index in
    let g = c.group-item.result in
    reserves_one g.0 (receivers (drop (i + 1) groups)) (receivers groups) c.args.table.now c.loop-group.table c.reserve_letters.new.self c.requires
    (subst (λ gs. Reserves (receivers gs) (receivers groups) c.args.table.now c.loop-group.table) (rest_of groups i g c.loop-group-test.true c.group-item.is) c.loop-group.invariant)
    c.reserve_letters.ensures.same c.in_ok-reserve_letters.ensures.ok

pub returns-clause-ok : goal.returns-clause-ok
returns-clause-ok c =
    let groups = c.args.groups.now in
    let i = c.loop-group.group-index in
    reserves_all (receivers (drop i groups)) (receivers groups) c.args.table.now c.loop-group.table (ap receivers (drop_all i groups c.loop-group-test.false)) c.loop-group.invariant
