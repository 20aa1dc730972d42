use Rattle.std.proofs.Common.{◌≤◌, ◌<◌, length, map, sym, ap, subst, ◌∙◌, arith, get_or, drop}
use Rattle.std.specs.List.{All}
use Rattle.std.proofs.lemmas.List.{take_at}
use Rattle.std.proofs.lemmas.List.Elements.{All-map, Contains-get_or}
use Rattle.count_laws.proofs.bounds.Bounding.{runs_make_few}
use Rattle.machine_rules.specs.Actors.{seat_at}
use Rattle.machine_rules.specs.Left.{IsLeft}
use Rattle.orca_names.specs.declared.tally.Sums.{Sums}
use Rattle.count_ledger.specs.Lines.{Fits, Rise, with_seat}
use Rattle.count_ledger.specs.Tally.{Balances, sums_of}
use Rattle.count_ledger.proofs.Seated.{lines_all, lines_fit, lines_more, lines_rise}
use Rattle.count_ledger.proofs.ledger.tally.Goals as goal

pub first_lines-requires-clause-left : goal.first_lines-requires-clause-left
first_lines-requires-clause-left c =
    let things = c.in_ok-things.things.items in
    let left = c.in_ok-things.ensures.exact in
    subst (All (IsLeft c.args.orca.now.state.actors)) (sym c.as_slice.ensures.value)
    (λ k d l. (left (get_or things k d)).0 (Contains-get_or things k d l))

pub overflow_cast-a : goal.overflow_cast-a
overflow_cast-a c =
    let s = c.args.orca.now.state in
    let run = c.keeps_the_reachable.ensures.run.run in
    let few : length s.actors ≤ 65536 =
    runs_make_few s.program s.options c.keeps_the_reachable.ensures.book s run in
    omega (arith, few, c.loop-a-test.true, c.made-a-end.ensures)

pub add_actor-requires-clause-rising : goal.add_actor-requires-clause-rising
add_actor-requires-clause-rising c =
    let actors = c.args.orca.now.state.actors in
    let things = c.in_ok-things.things.items in
    subst Rise (sym (c.deref_mut.ensures.value ∙ c.loop-a.invariant))
    (lines_rise actors c.loop-a.a things c.in_ok-things.ensures.rising)

pub add_actor-requires-clause-room : goal.add_actor-requires-clause-room
add_actor-requires-clause-room c =
    let actors = c.args.orca.now.state.actors in
    let a = c.loop-a.a in
    let l : a < length actors = omega (arith, c.loop-a-test.true, c.made-a-end.ensures) in
    subst (All (λ (s : Sums). Fits (with_seat a (seat_at actors a) s)))
    (sym (c.deref_mut.ensures.value ∙ c.loop-a.invariant))
    (lines_fit actors a c.in_ok-things.things.items l c.counts_in_few_bits.ensures.counts)

pub loop-a-preserved : goal.loop-a-preserved
loop-a-preserved c =
    let actors = c.args.orca.now.state.actors in
    let a = c.loop-a.a in
    let l : a < length actors = omega (arith, c.loop-a-test.true, c.made-a-end.ensures) in
    let new = c.add_actor.new.sums in
    take_at new (drop (length new) c.loop-a.sums.items) c.loop-a.sums.len
    (c.add_actor.auto.sums ∙ c.deref_mut.ensures.len)
    ∙ c.add_actor.ensures ∙ ap (map (with_seat a (seat_at actors a)))
    (c.deref_mut.ensures.value ∙ c.loop-a.invariant)
    ∙ lines_more actors a c.in_ok-things.things.items l

pub returns-clause-exact : goal.returns-clause-exact
returns-clause-exact c =
    let actors = c.args.orca.now.state.actors in
    let things = c.in_ok-things.things.items in
    let all : length actors ≤ c.loop-a.a = omega (arith, c.loop-a-test.false, c.made-a-end.ensures) in
    record {
      things = things;
      left = c.in_ok-things.ensures.exact;
      rising = c.in_ok-things.ensures.rising;
      lines = c.from.ensures ∙ c.loop-a.invariant ∙ lines_all actors c.loop-a.a things all;
    }

pub returns-clause-balance : goal.returns-clause-balance
returns-clause-balance c =
    let actors = c.args.orca.now.state.actors in
    let things = c.in_ok-things.things.items in
    let all : length actors ≤ c.loop-a.a = omega (arith, c.loop-a-test.false, c.made-a-end.ensures) in
    let lines = c.from.ensures ∙ c.loop-a.invariant ∙ lines_all actors c.loop-a.a things all in
    let balanced = c.keeps_the_reachable.ensures.kept.balanced in
    subst (All Balances) (sym lines)
    (All-map Balances (sums_of actors) things (λ k d l. balanced (get_or things k d)))
