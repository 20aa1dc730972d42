use Rattle.std.proofs.Common.{◌++◌, ◌+◌, ◌-◌, [], map, refl, sym, ap, subst, arith}
use Rattle.ready_set.specs.Next.{AreOff, AreOn}
use Rattle.row_store.specs.Told.{lie_as, thing_lies}
use Rattle.reach_walk.proofs.Placed.{ListsBelow, lists-none, lists-past, lists-all, off_beyond}
use Rattle.reach_walk.proofs.Together.{lists-run, rows_run, run_rows}
use Rattle.reach_walk.proofs.by_place.listed.Goals as goal

pub loop-from-init : goal.loop-from-init
loop-from-init g c = ([], ap (lie_as (g.R.BlockRows.rows c.args.rows.now)) c.in_ok-load.ensures.items, lists-none (g.R.Places.place c.args.rows.now) c.args.bits.now [] refl)

-- the last of what was pushed is on, and so below the number of places
pub overflow_add-from : goal.overflow_add-from
overflow_add-from g c =
    let at = c.in-Some.at in
    let pushed = c.in_ok-from-in-Some.ensures in
    let last = c.requires.within _ (pushed.on (at + c.in_ok-from-in-Some.field-0 - 1) (omega (arith, pushed.some)) (omega (arith, pushed.some))) in
    omega (arith, last, pushed.some, c.places-count.ensures)

pub loop-from-preserved : goal.loop-from-preserved
loop-from-preserved g c =
    let rows = c.args.rows.now in
    let bits = c.args.bits.now in
    let place = g.R.Places.place rows in
    let its = g.R.BlockRows.rows rows in
    let blocks = g.R.BlockRows.blocks rows in
    let so_far = c.loop-from.invariant in
    let at = c.in-Some.at in
    let next = c.in-Some.ensures in
    let pushed = c.in_ok-from-in-Some.ensures.pushed in
    let more = map (λ e. e.0) pushed.0 in
    let on = subst (λ n. AreOn bits at (at + n)) (sym pushed.1) c.in_ok-from-in-Some.ensures.on in
    let past = lists-past place bits so_far.0 c.loop-from.from at so_far.2 next.2 next.0 in (
      so_far.0 ++ more,
      rows_run (thing_lies its blocks) (lie_as its c.loop-from.load.items) (lie_as its c.push_run.new.load.items) pushed.0 so_far.0 more so_far.1 (run_rows place its blocks pushed.0 at pushed.2) pushed.3,
      subst (λ n. ListsBelow place bits (at + n) (so_far.0 ++ more)) pushed.1 (lists-run place its blocks bits (g.met.R.Places.in_order rows) pushed.0 so_far.0 at past pushed.2 on),
    )

pub returns : goal.returns
returns g c =
    let lists = c.loop-from.invariant in (
      lists.0,
      lists.1,
      lists.2.rising,
      lists-all (g.R.Places.place c.args.rows.now) c.args.bits.now lists.0 c.loop-from.from
          (λ p on. omega (arith, c.requires.within p on, c.places-count.ensures)) lists.2,
    )

pub returns-in-None : goal.returns-in-None
returns-in-None g c =
    let place = g.R.Places.place c.args.rows.now in
    let bits = c.args.bits.now in
    let lists = c.loop-from.invariant in
    let count = c.places-count.result in
    let off : AreOff bits c.loop-from.from count = off_beyond bits c.loop-from.from count c.in-None.ensures in
    let past = lists-past place bits lists.0 c.loop-from.from count lists.2 off (omega arith) in
    (lists.0, lists.1, past.rising, lists-all place bits lists.0 count (λ p on. omega (arith, c.requires.within p on, c.places-count.ensures)) past)
