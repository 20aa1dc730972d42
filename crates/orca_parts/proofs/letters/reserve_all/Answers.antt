use Rattle.std.proofs.Common.{◌+◌, ap, drop, arith}
use Rattle.std.proofs.lemmas.List.{drop_all, length-map}
use Rattle.trace_send.proofs.Steps.{rest_of}
use Rattle.orca_parts.specs.Letters.{count_for, letters_to}
use Rattle.orca_parts.specs.Touched.{receivers}
use Rattle.orca_parts.proofs.Reserving.{counted_fits, first_counts, more_room, one_fits, to_few}
use Rattle.orca_parts.proofs.letters.reserve_all.Goals as goal

pub count_one-requires : goal.count_one-requires
count_one-requires c =
    let groups = c.args.groups.now in
    let i = c.loop-group.group-index in
    let g = c.group-item.result in
    let rest = rest_of groups i g c.loop-group-test.true c.group-item.is in
    let its = first_counts g.0 (receivers (drop (i + 1) groups)) in
    omega (
      arith,
      c.loop-group.invariant.told g.0,
      ap (λ gs. letters_to g.0 (receivers gs)) rest,
      its,
      to_few g.0 (receivers groups),
      length-map groups (λ (x : _). x.0),
    )

pub loop-group-preserved : goal.loop-group-preserved
loop-group-preserved c =
    let groups = c.args.groups.now in
    let i = c.loop-group.group-index in
    let g = c.group-item.result in
    let rest = rest_of groups i g c.loop-group-test.true c.group-item.is in
    let old = c.loop-group.table in
    let new = c.reserve_letters-in-loop-group.new.self in
    let before = c.loop-group.invariant in
    let does = c.reserve_letters-in-loop-group.ensures.same in
    record {
      same = more_room c.args.table.now old new before.same does;
      told = λ b. omega (arith, before.told b, ap (λ gs. letters_to b (receivers gs)) rest, c.in_ok-n.ensures.counted b);
      fits = counted_fits old.slots new.slots does.actors does.space.room g.0 c.in_ok-n.n (count_for c.loop-group.counts) (count_for c.count_one.new.counts)
          before.fits c.in_ok-reserve_letters-2.ensures.ok c.in_ok-n.ensures.is c.in_ok-n.ensures.counted;
    }

pub returns-clause-ok : goal.returns-clause-ok
returns-clause-ok c = λ b there.
    let groups = c.args.groups.now in
    omega (
      arith,
      c.loop-group.invariant.fits b there,
      c.loop-group.invariant.told b,
      ap (λ gs. letters_to b (receivers gs)) (drop_all c.loop-group.group-index groups c.loop-group-test.false),
    )

pub returns-then-groups-eq1-clause-ok : goal.returns-then-groups-eq1-clause-ok
returns-then-groups-eq1-clause-ok c =
    let does = c.reserve_letters.ensures.same in
    one_fits c.args.table.now.slots c.reserve_letters.new.self.slots does.actors does.space.room c.args.groups.now c.index-groups-0.result
    c.if-groups-eq1.true c.in_ok-reserve_letters.ensures.ok
